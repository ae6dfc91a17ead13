-- `axis::read_as_whole` meets its contract.
use Rattle.std.specs.Prelude.{Result, Err}
use mathlib.Core.Path.{sym, ap, ◌∙◌}
use lib.IntN.{ℤ}
use mir.Syntax.{w64}
use mir.Val.{SFits}
use mir.ValLaws.{to_z-of_z}
use Rattle.axis_types.specs.Reading.{with_days_back}
use Rattle.axis_types.specs.declared.Axis.{Axis}
use Rattle.axis_types.specs.declared.OffsetReading.{OffsetReading}
use Rattle.axis.specs.Axis.{on_good, whole_on, as_whole, read_whole_on, whole_back, as_whole_back}
use Rattle.axis.proofs.Laws.{good_in}
use borrow.Author.Rules.{rules}
use Rattle.axis.proofs.read_as_whole.Goals as goal
use Rattle.refusal.specs.declared.Refusal.{Refusal}

abbrev read : Axis → Result ℤ Refusal → Result OffsetReading Refusal
read a k = with_days_back (as_whole k (whole_on a)) (as_whole_back k (whole_back a))

pub returns : goal.returns
unfolding read_whole_on
returns c =
    let a = c.args.axis in
    let n = c.in_ok-n.n in
    let fit : SFits w64 n = search rules in
    c.read_whole.ensures
    ∙ (ap (λ (z : ℤ). with_days_back (read_whole_on a z) (whole_back a z)) (to_z-of_z w64 n fit)
    ∙ (ap (λ (k : Result (Unit {0}) Refusal). with_days_back (on_good k Err (whole_on a n)) (whole_back a n)) (sym (good_in a c.requires)) ∙ ap (read a) (sym c.in_ok-n.was ∙ c.whole_of.ensures)))
