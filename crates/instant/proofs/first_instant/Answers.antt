-- `instant::first_instant` meets its contract.
use native.Mathlib.Omega.{arith}
use Rattle.calendar.proofs.Range.{small}
use Rattle.instant.proofs.first_instant.Goals as goal

pub instant_on-requires : goal.instant_on-requires
instant_on-requires c = (omega (arith, small c.args.c, c.first_day.ensures), omega arith)
