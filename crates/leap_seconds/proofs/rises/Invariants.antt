-- `leap_seconds::rises` meets its contract. The invariant: the whole test is the test of the records that are left, after the last day and count.
use Rattle.std.proofs.Common.{◌≡◌, ◌+◌, ◌-◌, ◌<◌, ◌^◌, pos}
use Rattle.leap_seconds.specs.Leaps.{leaps_from, rises_from}
use Rattle.leap_seconds.proofs.rises.Given as goal

abbrev pub invariant-loop-i : goal.invariant-loop-i
invariant-loop-i l = (l.last < 2 ^ 63) × (rises_from (pos 730) 10 (leaps_from (l.n - 1) 1 l.s) ≡ rises_from (pos l.last) (9 + l.i) (leaps_from (l.n - l.i) l.i l.s))
