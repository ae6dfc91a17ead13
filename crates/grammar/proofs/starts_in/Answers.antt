-- `grammar::starts_in` meets its contract: the byte at the place is looked for in the set.
use Rattle.std.proofs.Common.{rules, sym, ◌∙◌, slice_index_or}
use Rattle.grammar.specs.Rules.{any_of}
use Rattle.grammar.proofs.Places.{starts_past, starts_at, set_any}
use Rattle.grammar.proofs.starts_in.Goals as goal

pub returns-then-at-s : goal.returns-then-at-s
returns-then-at-s c =
    let a = c.args in
    c.contains.ensures.value ∙ sym (starts_at _ a.s.now a.at c.if-at-s.true ∙ set_any a.set.now (slice_index_or a.s.now a.at 0))

pub returns-else-at-s : goal.returns-else-at-s
returns-else-at-s c =
    let a = c.args in
    rw (starts_past (any_of a.set.now) a.s.now a.at c.if-at-s.false) (search rules)
