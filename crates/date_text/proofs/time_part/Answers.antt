-- `date_text::time_part` meets its contract: each `return` is a step of the reader.
use Rattle.std.proofs.Common.{arith, sym, ◌∙◌, drop}
use Rattle.grammar.proofs.Places.{starts_lt}
use Rattle.date_text.proofs.Steps.{time_none, time_no, time_half, time_is}
use Rattle.date_text.proofs.time_part.Goals as goal

pub overflow_add-at : goal.overflow_add-at
overflow_add-at c = let a = c.args in let h = starts_lt _ a.s.now a.at (sym c.starts_in.ensures ∙ c.if-starts_in.true) in omega arith

pub returns-in_err-hour : goal.returns-in_err-hour
returns-in_err-hour c =
    let a = c.args in
    rw c.from_residual.ensures (time_no a.s.now a.at (sym c.starts_in.ensures ∙ c.if-starts_in.true) c.in_err-hour.ensures)

pub returns-in_err-minute : goal.returns-in_err-minute
returns-in_err-minute c =
    let a = c.args in
    rw c.from_residual-in_err-minute.ensures (time_half a.s.now a.at (sym c.starts_in.ensures ∙ c.if-starts_in.true) _ _ c.in_ok-hour.ensures c.in_err-minute.ensures)

pub returns-in_err-zone : goal.returns-in_err-zone
returns-in_err-zone c =
    let a = c.args in
    rw c.from_residual-in_err-zone.ensures (time_is a.s.now a.at (sym c.starts_in.ensures ∙ c.if-starts_in.true) _ _ _ _ _ c.in_ok-hour.ensures c.in_ok-minute.ensures c.in_err-zone.ensures)

pub returns-then-starts_in : goal.returns-then-starts_in
returns-then-starts_in c =
    let a = c.args in
    time_is a.s.now a.at (sym c.starts_in.ensures ∙ c.if-starts_in.true) _ _ _ _ _ c.in_ok-hour.ensures c.in_ok-minute.ensures c.in_ok-zone.ensures

pub returns : goal.returns
returns c = let a = c.args in time_none (drop a.at a.s.now) (sym c.starts_in.ensures ∙ c.if-starts_in.false)
