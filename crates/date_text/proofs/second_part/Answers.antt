-- `date_text::second_part` meets its contract: each `return` is a step of the reader.
use Rattle.std.proofs.Common.{arith, sym, ◌∙◌}
use Rattle.grammar.proofs.Places.{starts_lt}
use Rattle.grammar.proofs.Steps.{part_absent, part_no, part_is}
use Rattle.date_text.proofs.second_part.Goals as goal

pub overflow_add-at : goal.overflow_add-at
overflow_add-at c = let a = c.args in let h = starts_lt _ a.s.now a.at (sym c.starts_in.ensures ∙ c.if-starts_in.true) in omega arith

pub returns-in_err-second : goal.returns-in_err-second
returns-in_err-second c =
    let a = c.args in
    rw c.from_residual.ensures (part_no _ _ _ _ a.s.now a.at (sym c.starts_in.ensures ∙ c.if-starts_in.true) c.in_err-second.ensures)

pub returns-in_err-microsecond : goal.returns-in_err-microsecond
returns-in_err-microsecond c =
    let a = c.args in
    rw c.from_residual-in_err-microsecond.ensures (part_is _ _ _ _ a.s.now a.at (sym c.starts_in.ensures ∙ c.if-starts_in.true) _ _ _ c.in_ok-second.ensures c.in_err-microsecond.ensures)

pub returns-then-starts_in : goal.returns-then-starts_in
returns-then-starts_in c =
    let a = c.args in
    part_is _ _ _ _ a.s.now a.at (sym c.starts_in.ensures ∙ c.if-starts_in.true) _ _ _ c.in_ok-second.ensures c.in_ok-microsecond.ensures

pub returns : goal.returns
returns c = part_absent _ _ _ _ (sym c.starts_in.ensures ∙ c.if-starts_in.false)
