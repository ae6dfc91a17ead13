-- `runs::element::nearest_instant` meets its contract: the reading of the axis is that of crate `fixed_axis`.
use Rattle.std.specs.Prelude.{Ok}
use mathlib.Core.Path.{◌≡◌, sym, ap, ◌∙◌}
use lib.IntN.{ℤ}
use lib.Ieee.{Float}
use mir.Syntax.{w64}
use mir.Val.{SFits, to_z, of_z}
use mir.ValLaws.{to_z-of_z}
use Rattle.axis_types.specs.Reading.{is_read}
use Rattle.axis_types.specs.declared.Axis.{Axis}
use Rattle.axis_types.specs.declared.Mode.{Mode}
use Rattle.fixed_axis.specs.Fixed.{read_double}
use Rattle.axis.specs.Axis.{axis_check, read_double_on}
use Rattle.axis.proofs.Laws.{in_good}
use Rattle.axis.proofs.Demands.{fixed_double}
use borrow.Author.Rules.{rules}
use Rattle.runs.proofs.element.nearest_instant.Goals as goal

-- the reference as it crosses into the call
crossed : (a : Axis) → SFits w64 a.reference → axis_check a ≡ Ok tt → a.mode ≡ Mode.Fixed → (x : Float) → read_double a.calendar a.period (to_z w64 (of_z w64 a.reference)) x ≡ read_double_on a x
crossed a f g m x = ap (λ (R : ℤ). read_double a.calendar a.period R x) (to_z-of_z w64 a.reference f) ∙ sym (fixed_double a x (sym g) m)

pub nearest_time-requires-clause-begun : goal.nearest_time-requires-clause-begun
nearest_time-requires-clause-begun c =
    let a = c.args.on.axis in
    let f : SFits w64 a.reference = search rules in
    rw (to_z-of_z w64 a.reference f) (in_good a (sym c.args.on.good))

pub nearest_time-requires-clause-read : goal.nearest_time-requires-clause-read
nearest_time-requires-clause-read c =
    let f : SFits w64 c.args.on.axis.reference = search rules in
    ap is_read (crossed c.args.on.axis f c.args.on.good c.requires.fixed c.args.x) ∙ c.requires.read

pub returns : goal.returns
returns c =
    let f : SFits w64 c.args.on.axis.reference = search rules in
    sym (crossed c.args.on.axis f c.args.on.good c.requires.fixed c.args.x) ∙ c.nearest_time.ensures
