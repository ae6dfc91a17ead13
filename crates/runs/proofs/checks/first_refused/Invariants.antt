-- `runs::checks::first_refused` meets its contract: proofs/Passes.antt.
use Rattle.axis_types.specs.Reading.{refusal_of}
use Rattle.runs.proofs.Passes.{Checking}
use Rattle.runs.proofs.checks.first_refused.Given as goal

abbrev pub invariant-loop-place : goal.invariant-loop-place
invariant-loop-place g l = Checking (λ x. refusal_of (g.E.Element.read l.axis x)) l.source l.place
