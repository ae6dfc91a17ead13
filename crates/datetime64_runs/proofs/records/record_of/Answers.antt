-- `datetime64_runs::records::record_of` meets its contract.
use mathlib.Core.Path.{ap, ◌∙◌}
use Prim.Native.Nat.{ℕ}
use mir.Syntax.{w64}
use mir.Val.{of_z}
use mir.ValLaws.{to_z-of_z}
use Rattle.int64_bytes.specs.LittleEndian.{little_bytes}
use Rattle.datetime64_runs.specs.Records.{in_order, record_of}
use Rattle.datetime64_runs.proofs.Bytes.{ordered_back}
use Rattle.datetime64_runs.proofs.records.record_of.Goals as goal

pub returns : goal.returns
unfolding record_of
returns c =
    let e = c.cast_unsigned.ensures ∙ ap (of_z w64) (to_z-of_z w64 c.args.n c.ranges.n) in
    c.little_bytes.ensures
    ∙ (ap (little_bytes 8) c.in_order.ensures ∙ (ordered_back c.args.order c.cast_unsigned.result ∙ ap (λ (w : ℕ). in_order c.args.order (little_bytes 8 w)) e))
