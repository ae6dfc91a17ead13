-- `calendar_axis::write_instant` meets its contract: from the start of the reference.
use mathlib.Core.Path.{ap, ◌∙◌, subst}
use lib.IntN.{ℤ}
use mir.Syntax.{w64}
use mir.ValLaws.{to_z-of_z}
use Rattle.calendar_axis.specs.Steps.{write_steps}
use Rattle.calendar_axis.specs.Start.{StartOf}
use Rattle.calendar_axis.proofs.Demands.{from_start_written}
use Rattle.calendar_axis.proofs.write_instant.Goals as goal
use Rattle.calendar_axis.proofs.write_instant.Goals.{After-start_of}

-- the start is that of the reference
started : (b : After-start_of) → let a = b.args in StartOf a.c a.reference b.start_of.result
started b = let a = b.args in subst (λ (R : ℤ). StartOf a.c R b.start_of.result) (to_z-of_z w64 a.reference b.ranges.reference) b.start_of.ensures

pub returns : goal.returns
returns c =
    let b = (goal.at.returns c).After-start_of in
    let a = b.args in
    c.write_from.ensures
    ∙ (from_start_written a.part a.c a.reference b.start_of.result _ (started b) ∙ ap (write_steps a.part a.c a.reference) (to_z-of_z w64 a.t b.ranges.t))
