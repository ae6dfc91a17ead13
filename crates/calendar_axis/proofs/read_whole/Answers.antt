-- `calendar_axis::read_whole` meets its contract: from the start of the reference.
use mathlib.Core.Path.{ap, ◌∙◌, subst}
use lib.IntN.{ℤ}
use mir.Syntax.{w64}
use mir.ValLaws.{to_z-of_z}
use Rattle.axis_types.specs.Reading.{with_days_back}
use Rattle.step.specs.Steps.{days_back}
use Rattle.calendar_axis.specs.Steps.{read_steps}
use Rattle.calendar_axis.specs.Start.{StartOf}
use Rattle.calendar_axis.proofs.Demands.{start_time, from_start}
use Rattle.calendar_axis.proofs.read_whole.Goals as goal
use Rattle.calendar_axis.proofs.read_whole.Goals.{After-start_of}

-- the start is that of the reference
started : (b : After-start_of) → let a = b.args in StartOf a.c a.reference b.start_of.result
started b = let a = b.args in subst (λ (R : ℤ). StartOf a.c R b.start_of.result) (to_z-of_z w64 a.reference b.ranges.reference) b.start_of.ensures

pub read_from-requires : goal.read_from-requires
read_from-requires c = ((started c).year, start_time c.args.c c.args.reference c.start_of.result (started c))

pub returns : goal.returns
returns c =
    let b = (goal.at.returns c).After-start_of in
    let a = b.args in
    let n-is = to_z-of_z w64 a.n b.ranges.n in
    c.read_from.ensures
    ∙ (λ i. with_days_back
    ((from_start a.part a.c a.reference b.start_of.result _ (started b) ∙ ap (read_steps a.part a.c a.reference) n-is) i)
    (days_back a.part a.c (n-is i) ((started b).date i)))
