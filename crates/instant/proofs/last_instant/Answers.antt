-- `instant::last_instant` meets its contract.
use native.Mathlib.Omega.{arith}
use Rattle.calendar.proofs.Range.{small}
use Rattle.instant.proofs.last_instant.Goals as goal

pub overflow_sub-end_day : goal.overflow_sub-end_day
overflow_sub-end_day c = omega (arith, small c.args.c, c.end_day.ensures)

pub instant_on-requires : goal.instant_on-requires
instant_on-requires c = (omega (arith, small c.args.c, c.end_day.ensures), omega arith)
