-- `axis::write_fields` meets its contract: the check of the axis first, then the fields'.
use native.Mathlib.Omega.{arith}
use Rattle.std.proofs.lemmas.Grind.{common_steps}
use Rattle.std.specs.Prelude.{Result, Ok, Err}
use mathlib.Core.Path.{◌≡◌, sym, ap, ◌∙◌}
use lib.IntN.{ℤ}
use mir.Syntax.{w64}
use mir.Val.{SFits}
use mir.ValLaws.{to_z-of_z}
use Rattle.instant.specs.Instant.{in_range, instant_answer}
use Rattle.instant.specs.declared.Fields.{Fields}
use Rattle.instant.proofs.Theorems.{shown, fields_of_instant}
use Rattle.axis_types.specs.declared.Axis.{Axis}
use Rattle.axis.specs.Axis.{on_good, offset_on, on_instant, write_fields_on}
use Rattle.axis.proofs.Laws.{in_good}
use borrow.Author.Rules.{rules}
use Rattle.axis.proofs.write_fields.Goals as goal
use Rattle.axis.proofs.write_fields.Goals.{After-check_axis}
use Rattle.refusal.specs.declared.Refusal.{Refusal}

module _ (k : After-check_axis) where
  abbrev axis : Axis
  axis = k.args.axis

  abbrev fields : Fields
  fields = k.args.f

  settled : (a : Result (Unit {0}) Refusal) → k.check_axis.result ≡ a → on_good a Err (on_instant (instant_answer axis.calendar fields) (λ (t : ℤ). offset_on axis t)) ≡ write_fields_on axis fields
  unfolding write_fields_on
  settled a e = ap (λ (a : Result (Unit {0}) Refusal). on_good a Err (on_instant (instant_answer axis.calendar fields) (λ (t : ℤ). offset_on axis t))) (sym e ∙ k.check_axis.ensures)

-- once the instant of the fields is known
told : (k : After-check_axis) (r a : Result ℤ Refusal) → r ≡ instant_answer k.args.axis.calendar k.args.f → r ≡ a → k.check_axis.result ≡ Ok tt → on_instant a (λ (t : ℤ). offset_on k.args.axis t) ≡ write_fields_on k.args.axis k.args.f
told k r a h e good = ap (λ (a : Result ℤ Refusal). on_instant a (λ (t : ℤ). offset_on k.args.axis t)) (sym e ∙ h) ∙ settled k (Ok tt) good

pub returns-in_err-check_axis : goal.returns-in_err-check_axis
returns-in_err-check_axis c = let e = settled (goal.at.returns-in_err-check_axis c).After-check_axis _ c.in_err-check_axis.was in grind (arith, common_steps, e)

pub returns-in_err-t : goal.returns-in_err-t
returns-in_err-t c = let e = told (goal.at.returns-in_err-t c).After-check_axis c.instant_of.result _ c.instant_of.ensures c.in_err-t.was c.in_ok-check_axis.was in grind (arith, common_steps, e)

pub write_on-requires : goal.write_on-requires
write_on-requires c =
    let a = c.args.axis in
    let z = c.in_ok-t.t in
    let fit : SFits w64 z = search rules in (
      in_good a (sym c.in_ok-check_axis.was ∙ c.check_axis.ensures),
      ap (in_range a.calendar) (to_z-of_z w64 z fit) ∙ (shown a.calendar z c.args.f (fields_of_instant a.calendar c.args.f z (sym c.instant_of.ensures ∙ c.in_ok-t.was))).inside,
    )

pub returns : goal.returns
returns c =
    let z = c.in_ok-t.t in
    let fit : SFits w64 z = search rules in
    c.write_on.ensures
    ∙ (ap (offset_on c.args.axis) (to_z-of_z w64 z fit) ∙ told (goal.at.returns c).After-check_axis c.instant_of.result (Ok z) c.instant_of.ensures c.in_ok-t.was c.in_ok-check_axis.was)
