-- `runs::element::instant_by_time` meets its contract: proofs/Steps.antt.
use mathlib.Core.Path.{sym, ap, ◌∙◌}
use mir.Syntax.{w64}
use mir.Val.{SFits}
use mir.ValLaws.{to_z-of_z}
use Rattle.axis_types.specs.Reading.{is_read}
use Rattle.fixed_axis.specs.Fixed.{time_after}
use Rattle.axis.proofs.Laws.{in_good}
use Rattle.runs.proofs.Steps.{by_time, time_is}
use borrow.Author.Rules.{rules}
use Rattle.runs.proofs.element.instant_by_time.Goals as goal

pub time_after-requires-clause-begun : goal.time_after-requires-clause-begun
time_after-requires-clause-begun c =
    let a = c.args.on.axis in
    let f : SFits w64 a.reference = search rules in
    rw (to_z-of_z w64 a.reference f) (in_good a (sym c.args.on.good))

pub time_after-requires-clause-read : goal.time_after-requires-clause-read
time_after-requires-clause-read c =
    let a = c.args.on.axis in
    let f : SFits w64 a.reference = search rules in
    rw (to_z-of_z w64 a.reference f, to_z-of_z w64 c.args.n c.ranges.n) (ap is_read (by_time a c.args.on.good c.args.n c.requires.step) ∙ c.requires.read)

pub returns : goal.returns
returns c =
    let a = c.args.on.axis in
    let n = c.args.n in
    let f : SFits w64 a.reference = search rules in
    to_z-of_z w64 c.time_after.result (record { sfits = c.time_after.type_inv })
    ∙ (c.time_after.ensures ∙ ((λ i. time_after a.period (to_z-of_z w64 a.reference f i) (to_z-of_z w64 n c.ranges.n i)) ∙ time_is a c.args.on.good n c.requires.step c.requires.read))
