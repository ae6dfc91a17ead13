-- `calendar::origin` meets its contract.
use native.Mathlib.Omega.{arith}
use Rattle.calendar.proofs.Range.{small}
use Rattle.calendar.proofs.origin.Goals as goal

pub overflow_sub-result : goal.overflow_sub-result
overflow_sub-result c = omega (arith, c.epoch_day.ensures, small c.args.c)
