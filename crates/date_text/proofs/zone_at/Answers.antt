-- `date_text::zone_at` meets its contract: each `return` is a step of the reader.
use Rattle.std.proofs.Common.{arith, sym, ◌∙◌, drop}
use Rattle.grammar.proofs.Places.{starts_lt}
use Rattle.grammar.proofs.Steps.{skip_yes, skip_no}
use Rattle.date_text.proofs.zone_at.Goals as goal

pub overflow_add-at : goal.overflow_add-at
overflow_add-at c = let a = c.args in let h = starts_lt _ a.s.now a.at (sym c.starts_in.ensures ∙ c.if-starts_in.true) in omega arith

pub returns-then-starts_in : goal.returns-then-starts_in
returns-then-starts_in c = let a = c.args in skip_yes _ _ _ a.s.now a.at (sym c.starts_in.ensures ∙ c.if-starts_in.true) ∙ c.zone_body.ensures

pub returns : goal.returns
returns c = let a = c.args in skip_no _ _ _ (drop a.at a.s.now) (sym c.starts_in.ensures ∙ c.if-starts_in.false) ∙ c.zone_body-2.ensures
