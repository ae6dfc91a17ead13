-- `step::day_down` meets its contract. The loop passes only days that do not exist.
use mathlib.Core.Path.{◌≡◌}
use Rattle.calendar.specs.Calendar.{has_year_zero}
use Rattle.calendar.specs.Closed.{year_at}
use Rattle.step.specs.Steps.{down_to}
use Rattle.step.proofs.day_down.Given as goal

abbrev pub invariant-loop-d : goal.invariant-loop-d
invariant-loop-d l = down_to l.c (year_at (has_year_zero l.c) l.y) l.month l.d ≡ down_to l.c (year_at (has_year_zero l.c) l.y) l.month l.day
