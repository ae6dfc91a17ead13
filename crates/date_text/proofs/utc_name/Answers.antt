-- `date_text::utc_name` meets its contract: each `return` is a step of the reader.
use Rattle.grammar.proofs.Steps.{give_of}
use Rattle.date_text.proofs.utc_name.Goals as goal

pub returns-in_err-e : goal.returns-in_err-e
returns-in_err-e c = rw c.from_residual.ensures (give_of _ _ _ _ c.in_err-e.ensures)

pub returns : goal.returns
returns c = give_of _ _ _ _ c.in_ok-e.ensures
