-- `axis::read` meets its contract.
use Rattle.refusal.specs.declared.Refusal.{Refusal}
use Rattle.std.specs.Prelude.{Result}
use mathlib.Core.Path.{sym, ap, ◌∙◌}
use lib.IntN.{ℤ}
use mir.Syntax.{w64}
use mir.Val.{SFits}
use mir.ValLaws.{to_z-of_z}
use Rattle.axis_types.specs.Reading.{with_days_back}
use Rattle.axis_types.specs.declared.Axis.{Axis}
use Rattle.axis_types.specs.declared.Offset.{Offset}
use Rattle.axis_types.specs.declared.OffsetReading.{OffsetReading}
use Rattle.axis.specs.Axis.{read_offset, offset_back}
use borrow.Author.Rules.{rules}
use Rattle.axis.proofs.read.Goals as goal

abbrev read : Axis → Offset → Result OffsetReading Refusal
read a o = with_days_back (read_offset a o) (offset_back a o)

pub returns-in-Whole : goal.returns-in-Whole
unfolding read_offset
returns-in-Whole c =
    let n = c.in-Whole.n in
    let fit : SFits w64 n = search rules in
    c.read_whole.ensures ∙ (ap (λ (n : ℤ). read c.args.axis (Offset.Whole n)) (to_z-of_z w64 n fit) ∙ sym (ap (read c.args.axis) c.in-Whole.is))

pub returns-in-Double : goal.returns-in-Double
unfolding read_offset
returns-in-Double c = c.read_double.ensures ∙ sym (ap (read c.args.axis) c.in-Double.is)
