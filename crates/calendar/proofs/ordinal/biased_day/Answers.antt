-- `calendar::ordinal::biased_day` meets its contract.
use Rattle.std.specs.Prelude.{Some}
use mathlib.Core.Path.{◌≡◌, sym, ap, ◌∙◌, subst}
use mathlib.Core.Bool.{Bool, true}
use Prim.Native.Nat.{ℕ, ◌+◌, ◌≤◌, ◌<◌}
use native.Mathlib.Omega.{arith}
use lib.Dec.{ltb}
use Rattle.calendar.specs.Plain.{month_days, date}
use Rattle.calendar.specs.Calendar.{has_year_zero}
use Rattle.calendar.specs.Answers.{is_possible}
use Rattle.calendar.specs.Closed.{kind_at, year_at, count, day_place, counts, late_from, is_early, early_day, DayOrNone}
use Rattle.calendar.specs.declared.Calendar.{Calendar}
use Rattle.calendar.specs.declared.Date.{Date}
use Rattle.calendar.proofs.Years.{kind_low, year_most}
use Rattle.calendar.proofs.Tables.{month_room}
use Rattle.calendar.proofs.Existing.{possible_parts}
use Rattle.calendar.proofs.Found.{none_possible, early_answer, late_answer, late_none}
use Rattle.calendar.proofs.ordinal.biased_day.Goals as goal
use Rattle.calendar.proofs.ordinal.biased_day.Goals.{After-days_before-n, After-is_early_day, After-is_proper, After-place_at-p}

abbrev written : Calendar → ℕ → ℕ → ℕ → Date
written c y month day = date (year_at (has_year_zero c) y) month day

pub returns-then-not-is_possible : goal.returns-then-not-is_possible
returns-then-not-is_possible c =
    let a = c.args in
    none_possible a.c a.y a.month a.day (sym c.is_possible.ensures ∙ c.if-not-is_possible.true)

-- the place of a date whose month and day are possible
possible : (q : After-place_at-p) → let a = q.args in is_possible a.month a.day ≡ true
possible q = sym q.is_possible.ensures ∙ q.if-not-is_possible.false

inside : (q : After-place_at-p) → (1 ≤ q.place_at-p.result.y) × ((q.place_at-p.result.y < 2147483648) × ((q.place_at-p.result.m < 12) × (q.place_at-p.result.i < 31)))
inside q =
    let a = q.args in
    let w = possible_parts a.month a.day (possible q) in
    rw q.place_at-p.ensures (q.requires.0, (q.requires.1, (omega (arith, w), omega (arith, w))))

-- the count of the late rule, and whether it is early
day_is : (d : After-days_before-n) → let a = d.args in d.days_before-n.result ≡ count (counts a.c).late (day_place a.y a.month a.day)
day_is d = d.days_before-n.ensures ∙ (λ i. count (d.rule_of-r.ensures i) (d.place_at-p.ensures i))

early : (l : After-is_early_day) {t : Bool} → l.is_early_day.result ≡ t → let a = l.args in is_early (counts a.c) a.y a.month a.day ≡ t
early l h = ap (λ (n : ℕ). ltb n (late_from (counts l.args.c))) (sym (day_is l.before)) ∙ (sym l.is_early_day.ensures ∙ h)

pub returns-then-is_early_day : goal.returns-then-is_early_day
returns-then-is_early_day c =
    let g = goal.at.returns-then-is_early_day c in
    let a = c.args in
    subst (DayOrNone a.c (written a.c a.y a.month a.day)) (sym (c.early_day.ensures ∙ ap (early_day (counts a.c)) c.place_at-p.ensures))
    (early_answer a.c a.y a.month a.day (possible g.After-place_at-p) c.requires.0 (early g.After-is_early_day c.if-is_early_day.true))

-- a date of the late part, which its rule has or not
module _ (n : After-is_proper) where
  proper : {t : Bool} → n.is_proper.result ≡ t → let a = n.args in let p = day_place a.y a.month a.day in ltb p.i (month_days (kind_at (counts a.c).late p.y) p.m) ≡ t
  proper h =
      sym (λ i. let v = n.place_at-p.ensures i in ltb v.i (month_days (kind_at (n.rule_of-r.ensures i) v.y) v.m))
      ∙ (sym n.is_proper.ensures ∙ h)

pub overflow_add-result : goal.overflow_add-result
unfolding count
overflow_add-result c =
    let w = inside (goal.at.overflow_add-result c).After-place_at-p in
    let v = c.place_at-p.result in
    let r = c.rule_of-r.result in
    record { fits = omega (arith, c.days_before-n.ensures, c.origin.ensures, w.1.0, w.1.1, year_most r v.y, month_room (kind_at r v.y) v.m (kind_low r v.y) (omega (arith, w.1.1.0))) }

pub returns : goal.returns
returns c =
    let g = goal.at.returns c in
    let a = c.args in
    subst (DayOrNone a.c (written a.c a.y a.month a.day)) (sym (λ i. Some (day_is g.After-days_before-n i + c.origin.ensures i)))
    (late_answer a.c a.y a.month a.day (possible g.After-place_at-p) (early g.After-is_early_day c.if-is_early_day.false) (proper g.After-is_proper c.if-not-is_proper.false))

pub returns-then-not-is_proper : goal.returns-then-not-is_proper
returns-then-not-is_proper c =
    let g = goal.at.returns-then-not-is_proper c in
    let a = c.args in
    late_none a.c a.y a.month a.day (possible g.After-place_at-p) (early g.After-is_early_day c.if-is_early_day.false) (proper g.After-is_proper c.if-not-is_proper.true)
