-- `calendar::civil::day_by_rule` meets its contract.
use native.Mathlib.Omega.{arith}
use Rattle.calendar.proofs.Rows.{cutover}
use Rattle.calendar.proofs.civil.day_by_rule.Goals as goal

pub overflow_add-result : goal.overflow_add-result
overflow_add-result c = let s = c in record { fits = omega (arith, s.requires, c.lag_of.ensures, (cutover s.args.c).lag_small) }
