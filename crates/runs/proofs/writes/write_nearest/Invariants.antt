-- `runs::writes::write_nearest` meets its contract: proofs/Passes.antt.
use Rattle.axis.specs.Axis.{read_double_on}
use Rattle.runs.specs.Passes.{ScaleOf}
use Rattle.runs.proofs.Passes.{Writing, Counting}
use Rattle.runs.proofs.writes.write_nearest.Given as goal

abbrev pub invariant-loop-place : goal.invariant-loop-place
invariant-loop-place l =
    ScaleOf l.on.axis l.scale × (Writing (read_double_on l.on.axis) l.source l.initial.destination l.destination l.place × Counting (read_double_on l.on.axis) l.source l.rounded l.place)
