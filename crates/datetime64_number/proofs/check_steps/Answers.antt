-- `datetime64_number::check_steps` meets its contract: proofs/Units.antt.
use mathlib.Core.Path.{◌≡◌, sym, ap, ◌∙◌}
use native.Mathlib.Omega.{arith}
use lib.IntN.{pos}
use mir.Syntax.{w64}
use mir.Val.{to_z, of_z}
use mir.ValLaws.{to_z-of_z}
use Rattle.std.proofs.lemmas.Grind.{common_steps}
use Rattle.calendar.specs.declared.Calendar.TheVariants.{ProlepticGregorian}
use Rattle.axis_types.specs.Reading.{refusal_of}
use Rattle.calendar_axis.specs.Steps.{read_from}
use Rattle.calendar_axis.proofs.Demands.{start_time, from_start}
use Rattle.datetime64_number.specs.Numbers.{read_number}
use Rattle.datetime64_number.proofs.Units.{not_a_time, other_time, read_steps_lem, back_read, back_refused}
use Rattle.datetime64_number.proofs.check_steps.Goals as goal
use Rattle.datetime64_number.proofs.check_steps.Goals.{After-read_from}

pub returns-then-n-eqminus9223372036854775808 : goal.returns-then-n-eqminus9223372036854775808
returns-then-n-eqminus9223372036854775808 c = sym (ap refusal_of (not_a_time c.args.unit c.args.n c.ranges.n c.if-n-eqminus9223372036854775808.true))

pub read_from-requires : goal.read_from-requires
read_from-requires c = (c.requires.from.year, start_time ProlepticGregorian (pos 0) c.args.start c.requires.from)

-- what is read from the start is what is read
read_is : (b : After-read_from) → let a = b.args in read_from a.part ProlepticGregorian a.start.date a.start.time (to_z w64 (of_z w64 a.n)) ≡ read_number a.unit a.n
read_is b =
    let a = b.args in
    let n = a.n in
    ap (read_from a.part ProlepticGregorian a.start.date a.start.time) (to_z-of_z w64 n b.ranges.n)
    ∙ (from_start a.part ProlepticGregorian (pos 0) a.start n b.requires.from
    ∙ sym (read_steps_lem a.unit a.part b.requires.row n (other_time n b.if-n-eqminus9223372036854775808.false)))

pub returns-in_err-read_from : goal.returns-in_err-read_from
returns-in_err-read_from c =
    let b = (goal.at.returns-in_err-read_from c).After-read_from in
    let e = sym (ap refusal_of (read_is b)) ∙ back_refused _ _ _ (sym b.read_from.ensures ∙ c.in_err-read_from.was) in
    grind (arith, common_steps, e)

pub returns : goal.returns
returns c =
    let b = (goal.at.returns c).After-read_from in
    sym (sym (ap refusal_of (read_is b)) ∙ back_read _ _ _ (sym b.read_from.ensures ∙ c.in_ok-read_from.was))
