-- `runs::element::instant_by_part` meets its contract: proofs/Steps.antt.
use mathlib.Core.Path.{sym, ap, ◌∙◌, subst}
use Prim.Native.Nat.{ℕ, ◌<◌}
use mir.Syntax.{w64}
use mir.ValLaws.{to_z-of_z}
use Rattle.instant.proofs.Theorems.{time_small}
use Rattle.axis_types.specs.Reading.{instant_of, is_read}
use Rattle.calendar_axis.specs.Steps.{read_from}
use Rattle.runs.proofs.Steps.{by_part}
use Rattle.runs.proofs.element.instant_by_part.Goals as goal

pub instant_after-requires : goal.instant_after-requires
instant_after-requires c =
    let a = c.args in
    let b = c.requires.begins in
    (b.start.year, subst (λ (t : ℕ). t < 86400000000) (sym b.start.time) (time_small a.axis.reference), rw (to_z-of_z w64 a.n c.ranges.n) (ap is_read (by_part a.axis a.n a.part a.start b) ∙ c.requires.read))

pub returns : goal.returns
returns c =
    let a = c.args in
    to_z-of_z w64 c.instant_after.result (record { sfits = c.instant_after.type_inv })
    ∙ ap instant_of (c.instant_after.ensures ∙ (ap (read_from a.part a.axis.calendar a.start.date a.start.time) (to_z-of_z w64 a.n c.ranges.n) ∙ by_part a.axis a.n a.part a.start c.requires.begins))
