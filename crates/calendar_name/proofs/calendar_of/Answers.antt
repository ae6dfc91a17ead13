-- `calendar_name::calendar_of` meets its contract: the empty name, and the listed ones.
use Rattle.std.proofs.Common.{arith, sym, ap, ◌∙◌, length}
use borrow.Author.Tests.{eqb-true, eqb-false}
use Rattle.calendar_name.specs.Names.{calendar_named}
use Rattle.calendar_name.proofs.Laws.{name_empty, name_listed}
use Rattle.calendar_name.proofs.calendar_of.Goals as goal

pub returns-then-is_empty : goal.returns-then-is_empty
returns-then-is_empty c =
    let s = c.args.name.now in
    sym (ap calendar_named (name_empty s (eqb-true (length s) 0 (sym c.is_empty.ensures ∙ c.if-is_empty.true))))

pub returns : goal.returns
returns c =
    let s = c.args.name.now in
    let n = eqb-false (length s) 0 (sym c.is_empty.ensures ∙ c.if-is_empty.false) in
    c.listed.ensures ∙ sym (ap calendar_named (name_listed s (omega arith)))
