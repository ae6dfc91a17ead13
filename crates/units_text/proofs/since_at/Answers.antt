-- `units_text::since_at` meets its contract: each `return` is a step of the reader.
use Rattle.std.proofs.Common.{refl, ◌∙◌}
use Rattle.grammar.specs.Grammar.{inside, within, every}
use Rattle.units_text.proofs.Steps.{since_no, since_word_lem, since_gap, since_is}
use Rattle.units_text.proofs.since_at.Goals as goal

pub returns-in_err-a : goal.returns-in_err-a
returns-in_err-a c = rw c.from_residual.ensures (since_no _ c.in_err-a.ensures)

pub word_at-requires : goal.word_at-requires
unfolding every within inside
word_at-requires c = refl

pub returns-in_err-b : goal.returns-in_err-b
returns-in_err-b c = rw c.from_residual-in_err-b.ensures (since_word_lem _ _ c.in_ok-a.ensures c.in_err-b.ensures)

pub returns-in_err-e : goal.returns-in_err-e
returns-in_err-e c = rw c.from_residual-in_err-e.ensures (since_gap _ _ c.in_ok-a.ensures _ c.in_ok-b.ensures c.in_err-e.ensures)

pub returns : goal.returns
returns c = since_is _ _ c.in_ok-a.ensures _ _ c.in_ok-b.ensures c.in_ok-e.ensures ∙ c.date_at.ensures
