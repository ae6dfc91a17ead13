use mathlib.Core.List.{List}
use Prim.Native.Nat.{ℕ}
use Rattle.runs.proofs.Passes.{Writing}
use Rattle.datetime64_number.specs.Numbers.{read_number}
use Rattle.datetime64_runs.specs.Records.{record_number, records_in}
use Rattle.datetime64_runs.proofs.reading.Reader.write_each.Given as goal

abbrev pub invariant-loop-i : goal.invariant-loop-i
invariant-loop-i g l = Writing (λ (r : List ℕ). read_number l.fn.self.t.unit (record_number l.fn.self.t.order r)) (records_in l.bytes) l.initial.destination l.destination l.i
