-- `step::leads_to` meets its contract.
use mathlib.Core.Path.{◌≡◌, sym, ap, ◌∙◌}
use Prim.Native.Nat.{ℕ, ◌+◌, ◌-◌}
use native.Mathlib.Omega.{arith}
use lib.Dec.{eqb}
use lib.IntN.{ℤ}
use Rattle.calendar.specs.Calendar.{exists, date}
use Rattle.step.specs.Steps.{down_to, steps_down}
use Rattle.step.proofs.Days.{here, passed_days}
use Rattle.step.proofs.leads_to.Goals as goal
use Rattle.step.proofs.leads_to.Goals.{After-day_down}

-- the asked day is that of d, which exists
pub returns-then-day-d : goal.returns-then-day-d
returns-then-day-d c =
    let a = c.args in
    let e : a.day ≡ a.d.day = c.if-day-d.true in
    ap (λ (k : ℕ). eqb k a.d.day) (sym (here a.c a.d.year a.d.month a.day (ap (λ (k : ℕ). exists a.c (date a.d.year a.d.month k)) e ∙ c.requires.date.there)))

-- the days passed from the asked one
module _ (a : After-day_down) where
  back : a.day_down.result.days_back ≡ steps_down a.args.c a.args.d.year a.args.d.month a.args.day
  back = a.day_down.ensures.back ∙ ap (λ (y : ℤ). steps_down a.args.c y a.args.d.month a.args.day) a.requires.is

  passed : steps_down a.args.c a.args.d.year a.args.d.month a.args.day + down_to a.args.c a.args.d.year a.args.d.month a.args.day ≡ a.args.day
  passed = passed_days a.args.c a.args.d.year a.args.d.month a.args.day

pub overflow_sub-result : goal.overflow_sub-result
overflow_sub-result c = let a = (goal.at.overflow_sub-result c).After-day_down in omega (arith, back a, passed a)

pub returns-else-day-d : goal.returns-else-day-d
returns-else-day-d c =
    let a = (goal.at.returns-else-day-d c).After-day_down in
    let kept : a.args.day - a.day_down.result.days_back ≡ down_to a.args.c a.args.d.year a.args.d.month a.args.day = omega (arith, back a, passed a) in
    ap (λ (k : ℕ). eqb k a.args.d.day) kept
