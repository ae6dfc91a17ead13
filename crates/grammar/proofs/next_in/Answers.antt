-- `grammar::next_in` meets its contract: the class's test is the range's, where the place is in the text.
use Rattle.std.proofs.Common.{rules}
use Rattle.grammar.specs.Rules.{span}
use Rattle.grammar.proofs.Places.{starts_past, next_is}
use Rattle.grammar.proofs.next_in.Goals as goal

pub returns-then-at-s : goal.returns-then-at-s
returns-then-at-s c =
    let a = c.args in
    rw (next_is a.lo a.hi a.s.now a.at c.if-at-s.true) (search rules)

pub returns-else-at-s : goal.returns-else-at-s
returns-else-at-s c =
    let a = c.args in
    rw (starts_past (span a.lo a.hi) a.s.now a.at c.if-at-s.false) (search rules)
