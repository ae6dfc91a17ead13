-- `date_text::zone_minutes` meets its contract: each `return` is a step of the reader.
use Rattle.std.proofs.Common.{arith, sym, ◌∙◌, drop}
use Rattle.grammar.proofs.Places.{starts_lt}
use Rattle.date_text.proofs.Steps.{zone_minutes_colon, zone_minutes_digits, zone_minutes_none}
use Rattle.date_text.proofs.zone_minutes.Goals as goal

pub overflow_add-at : goal.overflow_add-at
overflow_add-at c = let a = c.args in let h = starts_lt _ a.s.now a.at (sym c.starts_in.ensures ∙ c.if-starts_in.true) in omega arith

pub returns-then-starts_in : goal.returns-then-starts_in
returns-then-starts_in c =
    let a = c.args in
    zone_minutes_colon a.s.now a.at (sym c.starts_in.ensures ∙ c.if-starts_in.true) ∙ c.two_digits.ensures

pub returns-then-next_in : goal.returns-then-next_in
returns-then-next_in c =
    let a = c.args in
    zone_minutes_digits (drop a.at a.s.now) (sym c.starts_in.ensures ∙ c.if-starts_in.false) (sym c.next_in.ensures ∙ c.if-next_in.true)
    ∙ c.two_digits-then-next_in.ensures

pub returns : goal.returns
returns c =
    let a = c.args in
    zone_minutes_none (drop a.at a.s.now) (sym c.starts_in.ensures ∙ c.if-starts_in.false) (sym c.next_in.ensures ∙ c.if-next_in.false)
