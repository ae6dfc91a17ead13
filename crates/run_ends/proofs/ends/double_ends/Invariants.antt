-- `run_ends::ends::double_ends` meets its contract: proofs/Pass.antt.
use lib.Ieee.{Float, lt}
use Rattle.run_ends.specs.Ends.{is_number, zero_double}
use Rattle.run_ends.proofs.Pass.{Passing}
use Rattle.run_ends.proofs.ends.double_ends.Given as goal

abbrev pub invariant-loop-x : goal.invariant-loop-x
invariant-loop-x l = Passing (λ (x : Float). x) is_number lt zero_double l.source l.ends.least l.ends.greatest l.x-index
