-- `axis::read_double` meets its contract: the check of the axis first.
use native.Mathlib.Omega.{arith}
use Rattle.std.proofs.lemmas.Grind.{common_steps}
use Rattle.std.specs.Prelude.{Result, Err}
use mathlib.Core.Path.{◌≡◌, sym, ap, ◌∙◌}
use lib.Ieee.{Float}
use Rattle.axis_types.specs.Reading.{with_days_back}
use Rattle.axis_types.specs.declared.Axis.{Axis}
use Rattle.axis_types.specs.declared.OffsetReading.{OffsetReading}
use Rattle.axis.specs.Axis.{on_good, double_on, read_double_on, double_back}
use Rattle.axis.proofs.Laws.{in_good}
use Rattle.axis.proofs.read_double.Goals as goal
use Rattle.axis.proofs.read_double.Goals.{After-check_axis}
use Rattle.refusal.specs.declared.Refusal.{Refusal}

-- by the check
abbrev read : Axis → Float → Result (Unit {0}) Refusal → Result OffsetReading Refusal
read a x k = with_days_back (on_good k Err (double_on a x)) (double_back a x)

settled : (k : After-check_axis) (a : Result (Unit {0}) Refusal) → k.check_axis.result ≡ a → read k.args.axis k.args.x a ≡ with_days_back (read_double_on k.args.axis k.args.x) (double_back k.args.axis k.args.x)
unfolding read_double_on
settled k a e = ap (read k.args.axis k.args.x) (sym e ∙ k.check_axis.ensures)

pub returns-in_err-check_axis : goal.returns-in_err-check_axis
returns-in_err-check_axis c = let e = settled (goal.at.returns-in_err-check_axis c).After-check_axis _ c.in_err-check_axis.was in grind (arith, common_steps, e)

pub read_double_on-requires : goal.read_double_on-requires
read_double_on-requires c = in_good c.args.axis (sym c.in_ok-check_axis.was ∙ c.check_axis.ensures)

pub returns : goal.returns
returns c =
    let k = (goal.at.returns c).After-check_axis in
    c.read_double_on.ensures ∙ settled k _ c.in_ok-check_axis.was
