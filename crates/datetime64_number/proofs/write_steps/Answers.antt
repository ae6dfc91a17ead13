-- `datetime64_number::write_steps` meets its contract.
use mathlib.Core.Path.{sym, ap, ◌∙◌}
use lib.IntN.{pos}
use mir.Syntax.{w64}
use mir.ValLaws.{to_z-of_z}
use Rattle.calendar.specs.declared.Calendar.TheVariants.{ProlepticGregorian}
use Rattle.instant.specs.Instant.{in_range}
use Rattle.calendar_axis.specs.Steps.{write_from}
use Rattle.calendar_axis.proofs.Demands.{from_start_written}
use Rattle.datetime64_number.proofs.Units.{instant_past, written_steps}
use Rattle.datetime64_number.proofs.write_steps.Goals as goal

pub returns-then-in_range : goal.returns-then-in_range
returns-then-in_range c =
    let a = c.args in
    let e = to_z-of_z w64 a.t c.ranges.t in
    let h = ap (in_range ProlepticGregorian) (sym e) ∙ (sym c.in_range.ensures ∙ c.if-in_range.true) in
    c.write_from.ensures
    ∙ (ap (write_from a.part ProlepticGregorian a.start.date a.start.time) e
    ∙ (from_start_written a.part ProlepticGregorian (pos 0) a.start a.t c.requires.from ∙ sym (written_steps a.unit a.part c.requires.row a.t h)))

pub returns : goal.returns
returns c =
    let a = c.args in
    let e = to_z-of_z w64 a.t c.ranges.t in
    sym (instant_past a.unit a.t (ap (in_range ProlepticGregorian) (sym e) ∙ (sym c.in_range.ensures ∙ c.if-in_range.false)))
