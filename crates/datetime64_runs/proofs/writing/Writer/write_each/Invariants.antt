use Rattle.datetime64_runs.proofs.Putting.{Putting}
use Rattle.datetime64_runs.proofs.writing.Writer.write_each.Given as goal

abbrev pub invariant-loop-i : goal.invariant-loop-i
invariant-loop-i g l = Putting (record { order = l.order; unit = l.fn.self.t.unit }) l.instants l.initial.bytes l.bytes l.i
