-- `fixed_axis::time_after` meets its contract: an offset that is read is less than 2^60 microseconds.
use mathlib.Core.Path.{sym, subst}
use mathlib.Core.Bool.{true}
use Prim.Native.Nat.{◌*◌, ◌≤◌, ◌<◌, ◌^◌}
use native.Mathlib.Omega.{arith}
use lib.IntN.{ℤ, pos, nat_abs, ◌*ℤ◌}
use lib.Signed.{mag}
use mir.Syntax.{w64}
use mir.ValLaws.{to_z-of_z}
use Rattle.axis_types.specs.Lengths.{length_of}
use Rattle.instant.proofs.Range.{small}
use Rattle.fixed_axis.specs.Fixed.{time_after, read_whole}
use Rattle.fixed_axis.proofs.Readings.{inside}
use Rattle.fixed_axis.proofs.Displacements.{times_size, inner_size}
use Rattle.fixed_axis.proofs.time_after.Goals as goal

pub time_at-requires : goal.time_at-requires
unfolding read_whole
time_at-requires c =
    let a = c.args in
    let P = length_of a.p in
    let n : nat_abs a.n * P ≤ 2 ^ 61 = omega (arith, times_size a.n P, inner_size a.c a.reference (a.n *ℤ pos P) c.requires.begun (inside a.c (time_after a.p a.reference a.n) true c.requires.read)) in (
      subst (λ (z : ℤ). mag z < 2 ^ 59) (sym (to_z-of_z w64 a.reference c.ranges.reference)) (omega (arith, small a.c a.reference c.requires.begun)),
      subst (λ (z : ℤ). nat_abs z * P ≤ 2 ^ 61) (sym (to_z-of_z w64 a.n c.ranges.n)) n,
    )
