-- `datetime64_number::check_fixed_instant` meets its contract: proofs/Units.antt.
use mathlib.Core.Path.{sym, ap, ◌∙◌, subst}
use mir.Syntax.{w64}
use mir.ValLaws.{to_z-of_z}
use Rattle.signed.specs.Bias.{biased}
use Rattle.calendar.specs.declared.Calendar.TheVariants.{ProlepticGregorian}
use Rattle.instant.specs.Instant.{in_range}
use Rattle.axis_types.specs.Reading.{offset_refusal}
use Rattle.ratio.specs.Multiples.{IsMultiple}
use Rattle.datetime64_number.proofs.Units.{instant_past, multiple_written, other_written}
use Rattle.datetime64_number.proofs.check_fixed_instant.Goals as goal

pub returns-then-has : goal.returns-then-has
returns-then-has c =
    let a = c.args in
    let e = ap biased (to_z-of_z w64 a.t c.ranges.t) in
    sym (ap offset_refusal (multiple_written a.unit a.ratio c.requires a.t c.ranges.t (subst (IsMultiple a.ratio) e (c.has.ensures.found c.if-has.true))))

pub returns-then-in_range : goal.returns-then-in_range
returns-then-in_range c =
    let a = c.args in
    let e = to_z-of_z w64 a.t c.ranges.t in
    let i = ap (in_range ProlepticGregorian) (sym e) ∙ (sym c.in_range.ensures ∙ c.if-in_range.true) in
    sym
    (ap offset_refusal
    (other_written a.unit a.ratio c.requires a.t c.ranges.t i (λ m. c.has.ensures.missed c.if-has.false (subst (IsMultiple a.ratio) (sym (ap biased e)) m))))

pub returns : goal.returns
returns c =
    let a = c.args in
    let e = to_z-of_z w64 a.t c.ranges.t in
    sym (ap offset_refusal (instant_past a.unit a.t (ap (in_range ProlepticGregorian) (sym e) ∙ (sym c.in_range.ensures ∙ c.if-in_range.false))))
