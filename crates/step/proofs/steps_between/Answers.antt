-- `step::steps_between` meets its contract: the day that is kept in the month of d, then the counts.
use Rattle.std.specs.Prelude.{Some}
use mathlib.Core.Path.{◌≡◌, sym, ap, ◌∙◌}
use mathlib.Core.Bool.{true, false}
use Prim.Native.Nat.{ℕ}
use native.Mathlib.Omega.{arith}
use lib.IntN.{sub_ℕ}
use mir.Syntax.{w64}
use mir.ValLaws.{to_z-of_z}
use borrow.Author.Tests.{eqb-true, eqb-false}
use Rattle.step.specs.Answers.{steps_between}
use Rattle.step.specs.Closed.{month_count}
use Rattle.step.specs.Steps.{down_to}
use Rattle.step.specs.declared.Part.{Part}
use Rattle.step.proofs.Answering.{month_inside, count_small, none, other_day, other_month, found_between}
use Rattle.step.proofs.steps_between.Goals as goal
use Rattle.step.proofs.steps_between.Goals.{After-leads_to}

module _ (a : After-leads_to) where
  abbrev kept : ℕ
  kept = down_to a.args.c a.args.d.year a.args.d.month a.args.x.day

  day_is : a.leads_to.result ≡ true → kept ≡ a.args.d.day
  day_is h = eqb-true kept a.args.d.day (sym a.leads_to.ensures ∙ h)

  day_is_not : a.leads_to.result ≡ false → kept ≡ a.args.d.day → ⊥
  day_is_not h = eqb-false kept a.args.d.day (sym a.leads_to.ensures ∙ h)

pub returns-then-not-leads_to : goal.returns-then-not-leads_to
returns-then-not-leads_to c =
    let a = (goal.at.returns-then-not-leads_to c).After-leads_to in
    let s = a.args in
    none s.part s.c s.x s.d (other_day s.part s.c s.x s.d (day_is_not a c.if-not-leads_to.true))

pub month_count-requires : goal.month_count-requires
month_count-requires c =
    month_inside c.args.c c.args.d c.args.w c.requires.1

pub month_count-requires-in-Month : goal.month_count-requires-in-Month
month_count-requires-in-Month c =
    month_inside c.args.c c.args.x c.args.y c.requires.0

pub difference-requires : goal.difference-requires
difference-requires c =
    let s = c.args in
    (omega (arith, c.month_count.ensures, count_small s.c s.d s.w c.requires.1), omega (arith, c.month_count-in-Month.ensures, count_small s.c s.x s.y c.requires.0))

pub returns-in-Month : goal.returns-in-Month
returns-in-Month c =
    let a = (goal.at.returns-in-Month c).After-leads_to in
    let s = a.args in
    ap Some (to_z-of_z w64 c.difference.result (record { sfits = c.difference.type_inv }) ∙ (c.difference.ensures ∙ (λ i. sub_ℕ (c.month_count.ensures i) (c.month_count-in-Month.ensures i))))
    ∙ (found_between Part.Month s.c s.x s.d s.y s.w a.requires.0 a.requires.1 (month_count s.w s.d.month) (month_count s.y s.x.month) (omega arith) (day_is a c.if-not-leads_to.false)
    ∙ ap (λ (p : Part). steps_between p s.c s.x s.d) (sym c.in-Month.is))

pub returns-in-Year-2 : goal.returns-in-Year-2
returns-in-Year-2 c =
    let s = c.args in
    none s.part s.c s.x s.d (other_month s.part s.c s.x s.d c.in-Year.is (λ m. c.if-d-x.false m))

pub returns-in-Year : goal.returns-in-Year
returns-in-Year c =
    let a = (goal.at.returns-in-Year c).After-leads_to in
    let s = a.args in
    ap Some (to_z-of_z w64 c.difference-in-Year.result (record { sfits = c.difference-in-Year.type_inv }) ∙ c.difference-in-Year.ensures)
    ∙ (found_between Part.Year s.c s.x s.d s.y s.w a.requires.0 a.requires.1 s.w s.y (omega (arith, c.if-d-x.true)) (day_is a c.if-not-leads_to.false)
    ∙ ap (λ (p : Part). steps_between p s.c s.x s.d) (sym c.in-Year.is))
