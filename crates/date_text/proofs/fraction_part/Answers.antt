-- `date_text::fraction_part` meets its contract: each `return` is a step of the reader.
use Rattle.std.proofs.Common.{arith, sym, ◌∙◌}
use Rattle.grammar.proofs.Places.{starts_lt}
use Rattle.grammar.proofs.Steps.{part_absent, part_present}
use Rattle.date_text.proofs.fraction_part.Goals as goal

pub overflow_add-at : goal.overflow_add-at
overflow_add-at c = let a = c.args in let h = starts_lt _ a.s.now a.at (sym c.starts_in.ensures ∙ c.if-starts_in.true) in omega arith

pub returns-then-starts_in : goal.returns-then-starts_in
returns-then-starts_in c = let a = c.args in part_present _ _ _ a.s.now a.at (sym c.starts_in.ensures ∙ c.if-starts_in.true) ∙ c.fraction_at.ensures

pub returns : goal.returns
returns c = part_absent _ _ _ _ (sym c.starts_in.ensures ∙ c.if-starts_in.false)
