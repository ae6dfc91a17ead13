-- `offset_text::decimal_of` meets its contract: 10 ^ 19 is below 2 ^ 64.
use Rattle.std.proofs.Common.{arith, ◌∙◌, sym, length}
use borrow.Author.Tests.{eqb-true, eqb-false}
use Rattle.grammar.specs.Rules.{digit}
use Rattle.offset_text.proofs.Rule.{run_none, number_read, number_long}
use Rattle.offset_text.proofs.decimal_of.Goals as goal

pub returns-then-is_empty : goal.returns-then-is_empty
returns-then-is_empty c =
    let s = c.args.s.now in
    run_none digit _ s (omega (arith, eqb-true (length s) 0 (sym c.is_empty.ensures ∙ c.if-is_empty.true)))

pub returns-then-s-gt19 : goal.returns-then-s-gt19
returns-then-s-gt19 c = number_long c.args.s.now c.if-s-gt19.true

pub returns : goal.returns
returns c =
    let s = c.args.s.now in
    number_read s (omega (arith, eqb-false (length s) 0 (sym c.is_empty.ensures ∙ c.if-is_empty.false))) c.if-s-gt19.false ∙ c.number_to.ensures
