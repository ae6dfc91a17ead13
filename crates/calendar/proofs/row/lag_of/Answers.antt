-- `calendar::row::lag_of` meets its contract.
use mathlib.Core.Path.{sym, ◌∙◌}
use Rattle.calendar.proofs.Rows.{mixed_lag, plain_lag}
use Rattle.calendar.proofs.row.lag_of.Goals as goal

pub returns-then-is_mixed : goal.returns-then-is_mixed
returns-then-is_mixed c = let m = c in sym (mixed_lag m.before.args.c (sym m.is_mixed.ensures ∙ c.if-is_mixed.true))

pub returns-else-is_mixed : goal.returns-else-is_mixed
returns-else-is_mixed c = let m = c in sym (plain_lag m.before.args.c (sym m.is_mixed.ensures ∙ c.if-is_mixed.false))
