-- `datetime64_number::instant_by_steps` meets its contract: proofs/Units.antt.
use mathlib.Core.Path.{◌≡◌, sym, ap, ◌∙◌}
use lib.IntN.{pos}
use mir.Syntax.{w64}
use mir.Val.{to_z, of_z}
use mir.ValLaws.{to_z-of_z}
use Rattle.calendar.specs.declared.Calendar.TheVariants.{ProlepticGregorian}
use Rattle.axis_types.specs.Reading.{is_read, instant_of}
use Rattle.calendar_axis.specs.Steps.{read_from}
use Rattle.calendar_axis.proofs.Demands.{start_time, from_start}
use Rattle.datetime64_number.specs.Numbers.{read_number}
use Rattle.datetime64_number.proofs.Units.{read_time, read_steps_lem}
use Rattle.datetime64_number.proofs.instant_by_steps.Goals as goal
use Rattle.datetime64_number.proofs.instant_by_steps.Goals.{Start}

-- what is read is what is read from the start
steps_read : (s : Start) → let a = s.args in read_number a.unit a.n ≡ read_from a.part ProlepticGregorian a.start.date a.start.time (to_z w64 (of_z w64 a.n))
steps_read s =
    let a = s.args in
    read_steps_lem a.unit a.part s.requires.row a.n (read_time a.unit a.n s.requires.read)
    ∙ (sym (from_start a.part ProlepticGregorian (pos 0) a.start a.n s.requires.from) ∙ ap (read_from a.part ProlepticGregorian a.start.date a.start.time) (sym (to_z-of_z w64 a.n s.ranges.n)))

pub instant_after-requires : goal.instant_after-requires
instant_after-requires c = (c.requires.from.year, start_time ProlepticGregorian (pos 0) c.args.start c.requires.from, ap is_read (sym (steps_read (goal.at.instant_after-requires c).Start)) ∙ c.requires.read)

pub returns : goal.returns
returns c = to_z-of_z w64 c.instant_after.result (record { sfits = c.instant_after.type_inv }) ∙ ap instant_of (c.instant_after.ensures ∙ sym (steps_read (goal.at.returns c).Start))
