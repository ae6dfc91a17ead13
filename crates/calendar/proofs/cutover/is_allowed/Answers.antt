-- `calendar::cutover::is_allowed` meets its contract: the dropped days fit into the month of the last day kept.
use mathlib.Core.Path.{◌≡◌, sym, ap, ◌∙◌}
use Prim.Native.Nat.{ℕ, ◌+◌, ◌-◌, ◌<◌}
use native.Mathlib.Omega.{arith}
use lib.Dec.{ltb}
use Rattle.calendar.specs.Plain.{month_days}
use Rattle.calendar.specs.Closed.{kind_at}
use Rattle.calendar.specs.declared.place.Place.{Place}
use Rattle.calendar.specs.declared.rule.Rule.{Rule}
use Rattle.calendar.proofs.Years.{kind_low}
use Rattle.calendar.proofs.Places.{place_at_lem, place_small}
use Rattle.calendar.proofs.Cutovers.{kept_place, drop_count, allowed_test, too_late}
use Rattle.calendar.proofs.cutover.is_allowed.Goals as goal
use Rattle.calendar.proofs.cutover.is_allowed.Goals.{After-kind_of_year-kind}

pub returns-then-days-gt-MOST_DAYS : goal.returns-then-days-gt-MOST_DAYS
returns-then-days-gt-MOST_DAYS c = sym (too_late c.args.k c.if-days-gt-MOST_DAYS.true)

module _ (c : After-kind_of_year-kind) where
  abbrev k : ℕ
  k = c.args.k

  last : c.place_of-last.result ≡ kept_place k
  last = c.place_of-last.ensures ∙ place_at_lem Rule.Julian (4230602 + k)

  small : (c.place_of-last.result.m < 12) × (c.place_of-last.result.i < 31)
  small = let s = place_small Rule.Julian (4230602 + k) (omega arith) in (omega (arith, ap (λ (q : Place). q.m) c.place_of-last.ensures, s), omega (arith, ap (λ (q : Place). q.i) c.place_of-last.ensures, s))

pub month_length-requires : goal.month_length-requires
month_length-requires c = let k = (goal.at.month_length-requires c).After-kind_of_year-kind in (rw k.kind_of_year-kind.ensures (kind_low Rule.Julian k.place_of-last.result.y), (small k).0)

pub returns : goal.returns
unfolding drop_count
returns c =
    let n = (goal.at.returns c).After-kind_of_year-kind in
    let j = c in
    let days = c.month_length.ensures ∙ (ap (λ (d : ℕ). month_days d n.place_of-last.result.m) n.kind_of_year-kind.ensures ∙ ap (λ (q : Place). month_days (kind_at Rule.Julian q.y) q.m) (last n)) in
    (λ i. ltb ((last n i).i + (j.julian_count.ensures i - (4230909 + k n))) (days i)) ∙ allowed_test (k n) (omega arith)
