-- `date_text::zone_part` meets its contract: each `return` is a step of the reader.
use Rattle.std.proofs.Common.{sym, ◌∙◌, drop}
use Rattle.date_text.proofs.Steps.{zone_yes, zone_no}
use Rattle.date_text.proofs.zone_part.Goals as goal

pub returns-then-starts_in : goal.returns-then-starts_in
returns-then-starts_in c = let a = c.args in zone_yes (drop a.at a.s.now) (sym c.starts_in.ensures ∙ c.if-starts_in.true) ∙ c.zone_at.ensures

pub returns : goal.returns
returns c = let a = c.args in zone_no (drop a.at a.s.now) (sym c.starts_in.ensures ∙ c.if-starts_in.false)
