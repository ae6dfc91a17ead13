-- `grammar::letter_at` meets its contract: the two cases of the letter.
use Rattle.std.proofs.Common.{sym, ◌∙◌, drop}
use Rattle.grammar.proofs.Steps.{either_is}
use Rattle.grammar.proofs.letter_at.Goals as goal

pub returns-then-next_in : goal.returns-then-next_in
returns-then-next_in c =
    let a = c.args in
    c.if-next_in.true ∙ sym (rw (either_is a.capital (drop a.at a.s.now), sym c.next_in.ensures ∙ c.if-next_in.true))

pub returns-else-next_in : goal.returns-else-next_in
returns-else-next_in c =
    let a = c.args in
    c.next_in-else-next_in.ensures
    ∙ sym (rw (either_is a.capital (drop a.at a.s.now), sym c.next_in.ensures ∙ c.if-next_in.false))
