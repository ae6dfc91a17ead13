-- `fixed_axis::read_whole` meets its contract.
use mathlib.Core.Path.{◌≡◌, sym, ap, ◌∙◌, subst}
use mathlib.Core.Bool.{Bool, true}
use Prim.Native.Nat.{◌*◌, ◌≤◌, ◌<◌, ◌^◌}
use native.Mathlib.Nat.{le_trans, le_of_eq}
use native.Mathlib.Omega.{arith}
use lib.IntN.{ℤ, pos, nat_abs, ◌*ℤ◌}
use lib.Signed.{mag}
use mir.Syntax.{w64}
use mir.ValLaws.{to_z-of_z}
use Rattle.axis_types.specs.Lengths.{length_of}
use Rattle.instant.proofs.Range.{small}
use Rattle.fixed_axis.specs.Closed.{Reaches}
use Rattle.fixed_axis.specs.Fixed.{time_after, reading_at, read_whole}
use Rattle.fixed_axis.proofs.Readings.{settled}
use Rattle.fixed_axis.proofs.Displacements.{times_size, too_far}
use Rattle.fixed_axis.proofs.read_whole.Goals as goal
use Rattle.fixed_axis.proofs.read_whole.Goals.{After-reaches}

said : (b : After-reaches) {s : Bool} → b.reaches.result ≡ s → Reaches s (length_of b.args.p) b.args.n
said b {s} e =
    subst (λ (t : Bool). Reaches t (length_of b.args.p) b.args.n) e
    (subst (λ (z : ℤ). Reaches b.reaches.result (length_of b.args.p) z) (to_z-of_z w64 b.args.n b.ranges.n) b.reaches.ensures)

pub time_at-requires : goal.time_at-requires
time_at-requires c =
    let a = c in (
      subst (λ (z : ℤ). mag z < 2 ^ 59) (sym (to_z-of_z w64 a.args.reference a.ranges.reference)) (omega (arith, small a.args.c a.args.reference a.requires)),
      subst (λ (z : ℤ). nat_abs z * length_of a.args.p ≤ 2 ^ 61) (sym (to_z-of_z w64 a.args.n a.ranges.n)) (said (goal.at.time_at-requires c).After-reaches c.if-reaches.true),
    )

pub returns-then-reaches : goal.returns-then-reaches
unfolding read_whole
returns-then-reaches c =
    let t = c.time_at in
    let a = c in
    c.reading_at.ensures
    ∙ (ap (λ (z : ℤ). reading_at a.args.c z true) (to_z-of_z w64 t.result (record { sfits = t.type_inv }) ∙ t.ensures)
    ∙ (λ i. reading_at a.args.c (time_after a.args.p (to_z-of_z w64 a.args.reference a.ranges.reference i) (to_z-of_z w64 a.args.n a.ranges.n i)) true))

pub returns-else-reaches : goal.returns-else-reaches
unfolding read_whole
returns-else-reaches c =
    let a = c in
    let P = length_of a.args.p in
    settled a.args.c (time_after a.args.p a.args.reference a.args.n) true
    (too_far a.args.c a.args.reference (a.args.n *ℤ pos P) a.requires (le_trans (said (goal.at.returns-else-reaches c).After-reaches c.if-reaches.false) (le_of_eq (sym (times_size a.args.n P)))))
