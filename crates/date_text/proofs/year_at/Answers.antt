-- `date_text::year_at` meets its contract: each `return` is a step of the reader.
use Rattle.date_text.proofs.Steps.{year_no, year_is}
use Rattle.date_text.proofs.year_at.Goals as goal

pub returns-in_err-year : goal.returns-in_err-year
returns-in_err-year c = rw c.from_residual.ensures (year_no _ _ c.in_err-year.ensures)

pub returns-in_err-month : goal.returns-in_err-month
returns-in_err-month c = rw c.from_residual-in_err-month.ensures (year_is _ _ _ _ _ c.in_ok-year.ensures c.in_err-month.ensures)

pub returns : goal.returns
returns c = year_is _ _ _ _ _ c.in_ok-year.ensures c.in_ok-month.ensures
