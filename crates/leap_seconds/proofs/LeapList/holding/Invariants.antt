-- `LeapList::holding` meets its contract. The invariant: the record at place i, which was the last to be asked, is later than the day.
use Rattle.std.proofs.Common.{◌/◌, ◌<◌, length}
use Rattle.leap_seconds.specs.Closed.{day_at}
use Rattle.leap_seconds.proofs.LeapList.holding.Given as goal

abbrev pub invariant-loop-i : goal.invariant-loop-i
invariant-loop-i l = l.i < length l.self.bytes.now / 16 → l.day < day_at l.self.bytes.now l.i
