-- `calendar::civil::packed_place` meets its contract.
use mathlib.Core.Path.{◌≡◌, sym, ap, subst, ◌∙◌}
use mathlib.Core.Bool.{Bool, cond}
use Prim.Native.Nat.{ℕ, ◌+◌, ◌<◌, ◌^◌}
use native.Mathlib.Omega.{arith}
use Rattle.calendar.specs.Calendar.{has_year_zero}
use Rattle.calendar.specs.Closed.{CountedRow, place_of, unpacked_place, label, counts, lag, rule_of_day, day_by_rule}
use Rattle.calendar.specs.declared.place.Place.{Place}
use Rattle.calendar.proofs.Places.{place_small, unpacked_place_lem, packed_place}
use Rattle.calendar.proofs.Theorems.{date_by_place, day_by_rule_small, place_by_rule}
use Rattle.calendar.proofs.civil.packed_place.Goals as goal
use Rattle.calendar.proofs.civil.packed_place.Goals.{After-day_by_rule, After-place_of-p}

-- the day by the rule of its part
module _ (d : After-day_by_rule) where
  abbrev k : CountedRow
  k = counts d.args.c

  abbrev n : ℕ
  n = d.args.n

  rule_is : d.rule_of.result ≡ rule_of_day k n
  rule_is = d.rule_of.ensures ∙ ap (λ (t : Bool). cond t k.early k.late) d.is_early_day-early.ensures

  day_is : d.day_by_rule.result ≡ day_by_rule k n
  day_is = d.day_by_rule.ensures ∙ ap (λ (t : Bool). cond t (n + lag k) n) d.is_early_day-early.ensures

  near : d.day_by_rule.result < 2 ^ 30
  near = rw day_is (day_by_rule_small d.args.c n d.requires)

small : (c : After-place_of-p) → let p = c.place_of-p.result in (p.y < 2 ^ 31) × ((p.m < 12) × (p.i < 31))
small c =
    let d = c.before in
    subst (λ (p : Place). (p.y < 2 ^ 31) × ((p.m < 12) × (p.i < 31))) (sym c.place_of-p.ensures) (place_small d.rule_of.result d.day_by_rule.result (near d))

pub place_of-p-requires : goal.place_of-p-requires
place_of-p-requires c = near c

pub overflow_mul-result : goal.overflow_mul-result
overflow_mul-result c = record { fits = omega (arith, small (goal.at.overflow_mul-result c).After-place_of-p) }

pub overflow_add-result : goal.overflow_add-result
overflow_add-result c = record { fits = omega (arith, small (goal.at.overflow_add-result c).After-place_of-p) }

pub overflow_add-result-2 : goal.overflow_add-result-2
overflow_add-result-2 c = record { fits = omega (arith, small (goal.at.overflow_add-result-2 c).After-place_of-p) }

pub returns : goal.returns
returns c =
    let l = (goal.at.returns c).After-place_of-p in
    let d = (goal.at.returns c).After-day_by_rule in
    let s = c in
    let p = l.place_of-p.result in
    let is : p ≡ place_by_rule s.args.c s.args.n = l.place_of-p.ensures ∙ (λ i. place_of (rule_is d i) (day_is d i)) in
    let back : unpacked_place (packed_place p) ≡ p = unpacked_place_lem p (small l).1.0 (small l).1.1 in
    record { small = omega (arith, small l); dated = ap (label (has_year_zero s.args.c)) (back ∙ is) ∙ sym (date_by_place s.args.c s.args.n) }
