-- `date_text::zone_offset` meets its contract: each `return` is a step of the reader.
use Rattle.std.proofs.Common.{arith, sym, ◌∙◌, drop}
use Rattle.grammar.proofs.Places.{starts_lt}
use Rattle.date_text.proofs.Steps.{offset_none, offset_no, offset_is}
use Rattle.date_text.proofs.zone_offset.Goals as goal

pub bounds-s-at : goal.bounds-s-at
bounds-s-at c = starts_lt _ c.args.s.now c.args.at (sym c.starts_in.ensures ∙ c.if-starts_in.true)

pub overflow_add-at : goal.overflow_add-at
overflow_add-at c = let a = c.args in let h = starts_lt _ a.s.now a.at (sym c.starts_in.ensures ∙ c.if-starts_in.true) in omega arith

pub returns-in_err-hours : goal.returns-in_err-hours
returns-in_err-hours c =
    let a = c.args in
    rw c.from_residual.ensures (offset_no a.s.now a.at (sym c.starts_in.ensures ∙ c.if-starts_in.true) c.in_err-hours.ensures)

pub returns-in_err-minutes : goal.returns-in_err-minutes
returns-in_err-minutes c =
    let a = c.args in
    rw c.from_residual-in_err-minutes.ensures (offset_is a.s.now a.at (sym c.starts_in.ensures ∙ c.if-starts_in.true) _ _ _ c.in_ok-hours.ensures c.in_err-minutes.ensures)

pub returns-then-starts_in : goal.returns-then-starts_in
returns-then-starts_in c =
    let a = c.args in
    offset_is a.s.now a.at (sym c.starts_in.ensures ∙ c.if-starts_in.true) _ _ _ c.in_ok-hours.ensures c.in_ok-minutes.ensures

pub returns : goal.returns
returns c = let a = c.args in offset_none (drop a.at a.s.now) (sym c.starts_in.ensures ∙ c.if-starts_in.false)
