-- `year_starts::print_letters`: no more letters are put than years were tried.
use Rattle.std.proofs.Common.{◌+◌, ◌≤◌}
use Rattle.year_starts.proofs.print_letters.Given as goal

abbrev pub invariant-loop-y : goal.invariant-loop-y
invariant-loop-y g l = l.n + l.fn.from ≤ l.y
