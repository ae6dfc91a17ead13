-- `date_text::date_at` meets its contract: each `return` is a step of the reader.
use Rattle.std.proofs.Common.{arith, sym, ◌∙◌, drop}
use Rattle.grammar.proofs.Places.{starts_lt}
use Rattle.date_text.proofs.Steps.{date_signed, date_plain}
use Rattle.date_text.proofs.date_at.Goals as goal

pub bounds-s-at : goal.bounds-s-at
bounds-s-at c = starts_lt _ c.args.s.now c.args.at (sym c.starts_in.ensures ∙ c.if-starts_in.true)

pub overflow_add-at : goal.overflow_add-at
overflow_add-at c = let a = c.args in let h = starts_lt _ a.s.now a.at (sym c.starts_in.ensures ∙ c.if-starts_in.true) in omega arith

pub returns-then-starts_in : goal.returns-then-starts_in
returns-then-starts_in c = let a = c.args in date_signed a.s.now a.at (sym c.starts_in.ensures ∙ c.if-starts_in.true) ∙ c.year_at.ensures

pub returns : goal.returns
returns c = let a = c.args in date_plain (drop a.at a.s.now) (sym c.starts_in.ensures ∙ c.if-starts_in.false) ∙ c.year_at-2.ensures
