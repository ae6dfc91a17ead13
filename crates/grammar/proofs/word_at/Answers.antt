-- `grammar::word_at` meets its contract: the goals; Invariants.antt has the loop's invariant.
use Rattle.std.proofs.Common.{sym, ◌∙◌, drop, arith}
use Rattle.grammar.proofs.Places.{starts_lt, span_at}
use Rattle.grammar.proofs.Steps.{word_more, word_stop, word_end}
use Rattle.grammar.proofs.word_at.Goals as goal

pub letter_at-requires : goal.letter_at-requires
letter_at-requires c =
    let h = span_at 65 90 c.args.w.now c.loop-capital.capital-index c.requires (omega arith) in
    omega arith

pub overflow_add-end : goal.overflow_add-end
overflow_add-end c = let h = starts_lt _ c.args.s.now c.loop-capital.end (sym c.letter_at.ensures ∙ c.if-not-letter_at.false) in omega arith

pub loop-capital-preserved : goal.loop-capital-preserved
loop-capital-preserved c =
    let a = c.args in
    c.loop-capital.invariant ∙ word_more a.w.now a.s.now c.loop-capital.capital-index c.loop-capital.end (omega arith) (sym c.letter_at.ensures ∙ c.if-not-letter_at.false)

pub returns-then-not-letter_at : goal.returns-then-not-letter_at
returns-then-not-letter_at c =
    let a = c.args in
    c.loop-capital.invariant
    ∙ word_stop a.w.now a.s.now c.loop-capital.capital-index c.loop-capital.end (omega arith) (sym c.letter_at.ensures ∙ c.if-not-letter_at.true)

pub returns : goal.returns
returns c =
    let a = c.args in
    c.loop-capital.invariant
    ∙ word_end a.w.now (drop c.loop-capital.end a.s.now) c.loop-capital.capital-index (omega arith)
