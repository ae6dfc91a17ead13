-- `runs::writes::write_each` meets its contract: proofs/Passes.antt.
use mathlib.Core.Path.{◌≡◌}
use Prim.Native.Nat.{◌≤◌}
use lib.ListN.{length, take}
use Rattle.run_ends.specs.Ends.{whole_number}
use Rattle.runs.specs.Passes.{Written}
use Rattle.runs.proofs.writes.write_each.Given as goal

abbrev pub invariant-loop-place : goal.invariant-loop-place
invariant-loop-place g l =
    (l.place ≤ length l.source)
    × (length l.destination ≡ length l.initial.destination)
    × Written (λ x t. goal.F-post g l.instant (whole_number (g.E.Element.whole x)) t) (take l.place l.source) l.initial.destination l.destination
