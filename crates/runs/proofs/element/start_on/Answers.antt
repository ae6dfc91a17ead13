-- `runs::element::start_on` meets its contract: the reference of a good axis lies in the range.
use mathlib.Core.Path.{sym}
use mir.Syntax.{w64}
use mir.Val.{SFits}
use mir.ValLaws.{to_z-of_z}
use Rattle.axis.proofs.Laws.{in_good}
use borrow.Author.Rules.{rules}
use Rattle.runs.proofs.element.start_on.Goals as goal

pub start_of-requires : goal.start_of-requires
start_of-requires c =
    let a = c.args.on.axis in
    let f : SFits w64 a.reference = search rules in
    rw (to_z-of_z w64 a.reference f) (in_good a (sym c.args.on.good))
