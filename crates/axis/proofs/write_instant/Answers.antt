-- `axis::write_instant` meets its contract: the check of the axis first, then the instant's.
use native.Mathlib.Omega.{arith}
use Rattle.std.proofs.lemmas.Grind.{common_steps}
use Rattle.std.specs.Prelude.{Result, Ok, Err}
use mathlib.Core.Path.{◌≡◌, sym, ap, ◌∙◌}
use mathlib.Core.Bool.{Bool, true, false, cond}
use lib.IntN.{ℤ}
use mir.Syntax.{w64}
use mir.Val.{to_z, of_z}
use mir.ValLaws.{to_z-of_z}
use Rattle.refusal.specs.declared.Refusal.TheVariants.{OutOfRange}
use Rattle.instant.specs.Instant.{in_range}
use Rattle.axis_types.specs.declared.Axis.{Axis}
use Rattle.axis.specs.Axis.{on_good, offset_on, write_instant_on}
use Rattle.axis.proofs.Laws.{in_good}
use Rattle.axis.proofs.write_instant.Goals as goal
use Rattle.axis.proofs.write_instant.Goals.{After-check_axis}
use Rattle.refusal.specs.declared.Refusal.{Refusal}

module _ (k : After-check_axis) where
  abbrev axis : Axis
  axis = k.args.axis

  abbrev t : ℤ
  t = k.args.t

  instant_is : to_z w64 (of_z w64 t) ≡ t
  instant_is = to_z-of_z w64 t k.ranges.t

  settled : (a : Result (Unit {0}) Refusal) → k.check_axis.result ≡ a → on_good a Err (cond (in_range axis.calendar t) (offset_on axis t) (Err OutOfRange)) ≡ write_instant_on axis t
  unfolding write_instant_on
  settled a e = ap (λ (a : Result (Unit {0}) Refusal). on_good a Err (cond (in_range axis.calendar t) (offset_on axis t) (Err OutOfRange))) (sym e ∙ k.check_axis.ensures)

  -- once the instant is tested
  tested : (r b : Bool) → r ≡ in_range axis.calendar (to_z w64 (of_z w64 t)) → r ≡ b → k.check_axis.result ≡ Ok tt → cond b (offset_on axis t) (Err OutOfRange) ≡ write_instant_on axis t
  tested r b h e good = ap (λ (b : Bool). cond b (offset_on axis t) (Err OutOfRange)) (sym e ∙ (h ∙ ap (in_range axis.calendar) instant_is)) ∙ settled (Ok tt) good

pub returns-in_err-check_axis : goal.returns-in_err-check_axis
returns-in_err-check_axis c = let e = settled (goal.at.returns-in_err-check_axis c).After-check_axis _ c.in_err-check_axis.was in grind (arith, common_steps, e)

pub write_on-requires : goal.write_on-requires
write_on-requires c = (in_good c.args.axis (sym c.in_ok-check_axis.was ∙ c.check_axis.ensures), sym c.in_range.ensures ∙ c.if-in_range.true)

pub returns-then-in_range : goal.returns-then-in_range
returns-then-in_range c =
    let k = (goal.at.returns-then-in_range c).After-check_axis in
    c.write_on.ensures ∙ (ap (offset_on c.args.axis) (instant_is k) ∙ tested k c.in_range.result true c.in_range.ensures c.if-in_range.true c.in_ok-check_axis.was)

pub returns : goal.returns
returns c = tested (goal.at.returns c).After-check_axis c.in_range.result false c.in_range.ensures c.if-in_range.false c.in_ok-check_axis.was
