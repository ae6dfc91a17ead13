-- `units_text::mode_at` meets its contract: each `return` is a step of the reader.
use Rattle.std.proofs.Common.{refl, sym, ◌∙◌, drop}
use Rattle.grammar.specs.Grammar.{inside, within, every}
use Rattle.units_text.proofs.Steps.{mode_none, mode_no, mode_is}
use Rattle.units_text.proofs.mode_at.Goals as goal

pub word_at-requires : goal.word_at-requires
unfolding every within inside
word_at-requires c = refl

pub returns-in_err-b : goal.returns-in_err-b
returns-in_err-b c = rw c.from_residual.ensures (mode_no _ (sym c.letter_at.ensures ∙ c.if-letter_at.true) c.in_err-b.ensures)

pub returns-in_err-e : goal.returns-in_err-e
returns-in_err-e c = rw c.from_residual-in_err-e.ensures (mode_is _ (sym c.letter_at.ensures ∙ c.if-letter_at.true) _ _ c.in_ok-b.ensures c.in_err-e.ensures)

pub returns-then-letter_at : goal.returns-then-letter_at
returns-then-letter_at c = mode_is _ (sym c.letter_at.ensures ∙ c.if-letter_at.true) _ _ c.in_ok-b.ensures c.in_ok-e.ensures

pub returns : goal.returns
returns c = mode_none (drop c.args.at c.args.s.now) (sym c.letter_at.ensures ∙ c.if-letter_at.false)
