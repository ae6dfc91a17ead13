-- `date_text::zone_body` meets its contract: each `return` is a step of the reader.
use Rattle.std.proofs.Common.{sym, ◌∙◌, drop}
use Rattle.date_text.proofs.Steps.{body_sign, body_name}
use Rattle.date_text.proofs.zone_body.Goals as goal

pub returns-then-starts_in : goal.returns-then-starts_in
returns-then-starts_in c = let a = c.args in body_sign (drop a.at a.s.now) (sym c.starts_in.ensures ∙ c.if-starts_in.true) ∙ c.zone_offset.ensures

pub returns : goal.returns
returns c = let a = c.args in body_name (drop a.at a.s.now) (sym c.starts_in.ensures ∙ c.if-starts_in.false) ∙ c.zone_name.ensures
