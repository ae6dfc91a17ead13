-- `datetime64_runs::records::number_in` meets its contract.
use mathlib.Core.Path.{◌≡◌, sym, ap, ◌∙◌}
use mathlib.Core.List.{List}
use Prim.Native.Nat.{ℕ}
use native.Mathlib.Omega.{arith}
use mir.Syntax.{w64}
use mir.Val.{to_z}
use mir.ValLaws.{to_z-of_z}
use Rattle.int64_bytes.specs.LittleEndian.{little_endian, little_bytes}
use Rattle.datetime64_runs.specs.Records.{in_order, record_number}
use Rattle.int64_bytes.proofs.Bytes.{bytes_back}
use Rattle.datetime64_runs.proofs.records.number_in.Goals as goal

pub returns : goal.returns
unfolding record_number
returns c =
    let r = c.args.r.now in
    let back : little_bytes 8 (little_endian r) ≡ r = ap (λ (n : ℕ). little_bytes n (little_endian r)) (sym c.requires) ∙ bytes_back r (λ i. omega (arith, c.type_inv.r i)) in
    to_z-of_z w64 c.cast_signed.result (record { sfits = c.cast_signed.type_inv })
    ∙ (c.cast_signed.ensures
    ∙ ap (to_z w64) (c.in_order.ensures ∙ (ap (λ (w : ℕ). little_endian (in_order c.args.order (little_bytes 8 w))) c.little_endian.ensures ∙ ap (λ (t : List ℕ). little_endian (in_order c.args.order t)) back)))
