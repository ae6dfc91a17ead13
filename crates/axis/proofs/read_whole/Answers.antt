-- `axis::read_whole` meets its contract: the check of the axis first.
use native.Mathlib.Omega.{arith}
use Rattle.std.proofs.lemmas.Grind.{common_steps}
use Rattle.std.specs.Prelude.{Result, Ok, Err}
use mathlib.Core.Path.{◌≡◌, sym, ap, ◌∙◌}
use lib.IntN.{ℤ}
use mir.Syntax.{w64}
use mir.ValLaws.{to_z-of_z}
use Rattle.axis_types.specs.Reading.{with_days_back}
use Rattle.axis_types.specs.declared.Axis.{Axis}
use Rattle.axis_types.specs.declared.OffsetReading.{OffsetReading}
use Rattle.axis.specs.Axis.{on_good, whole_on, read_whole_on, whole_back}
use Rattle.axis.proofs.Laws.{in_good}
use Rattle.axis.proofs.read_whole.Goals as goal
use Rattle.axis.proofs.read_whole.Goals.{After-check_axis}
use Rattle.refusal.specs.declared.Refusal.{Refusal}

-- by the check
abbrev read : Axis → ℤ → Result (Unit {0}) Refusal → Result OffsetReading Refusal
read a n k = with_days_back (on_good k Err (whole_on a n)) (whole_back a n)

settled : (k : After-check_axis) (a : Result (Unit {0}) Refusal) → k.check_axis.result ≡ a → read k.args.axis k.args.n a ≡ with_days_back (read_whole_on k.args.axis k.args.n) (whole_back k.args.axis k.args.n)
unfolding read_whole_on
settled k a e = ap (read k.args.axis k.args.n) (sym e ∙ k.check_axis.ensures)

pub returns-in_err-check_axis : goal.returns-in_err-check_axis
returns-in_err-check_axis c = let e = settled (goal.at.returns-in_err-check_axis c).After-check_axis _ c.in_err-check_axis.was in grind (arith, common_steps, e)

pub read_whole_on-requires : goal.read_whole_on-requires
read_whole_on-requires c = in_good c.args.axis (sym c.in_ok-check_axis.was ∙ c.check_axis.ensures)

pub returns : goal.returns
returns c =
    let k = (goal.at.returns c).After-check_axis in
    c.read_whole_on.ensures ∙ (ap (λ (z : ℤ). read k.args.axis z (Ok tt)) (to_z-of_z w64 k.args.n k.ranges.n) ∙ settled k _ c.in_ok-check_axis.was)
