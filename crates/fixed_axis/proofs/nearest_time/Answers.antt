-- `fixed_axis::nearest_time` meets its contract. proofs/Doubles.antt goes from the displacement to the definition.
use Rattle.std.specs.Prelude.{Ok}
use mathlib.Core.Path.{◌≡◌, sym, ap, ◌∙◌, subst}
use Prim.Native.Nat.{ℕ, ◌<◌, ◌^◌}
use native.Mathlib.Omega.{arith}
use lib.IntN.{ℤ, ◌+ℤ◌}
use lib.Signed.{mag}
use mir.Syntax.{w64}
use mir.Val.{SFits}
use borrow.Author.Rules.{rules}
use Rattle.axis_types.specs.Reading.{is_read, Reading}
use Rattle.instant.proofs.Range.{small}
use Rattle.double.specs.declared.Displacement.{Displacement}
use Rattle.double.specs.Displacement.{IsSmall, DisplacementOf}
use Rattle.fixed_axis.specs.Fixed.{reading_at, read_double}
use Rattle.fixed_axis.proofs.Readings.{read_is}
use Rattle.fixed_axis.proofs.Displacements.{sum_fits, sum_is}
use Rattle.fixed_axis.proofs.Doubles as Doubles
use Rattle.fixed_axis.proofs.nearest_time.Goals as goal
use Rattle.fixed_axis.proofs.nearest_time.Goals.{After-small_displacement-d}

pub small_displacement-d-requires : goal.small_displacement-d-requires
small_displacement-d-requires c =
    let a = c.args in
    subst (λ (P : ℕ). IsSmall P a.x) (sym c.requires.scaled) (Doubles.small a.c a.p a.reference c.requires.begun a.x c.requires.read)

module _ (c : After-small_displacement-d) where
  abbrev d : Displacement
  d = c.small_displacement-d.result

  fits : SFits w64 d.count
  fits = search rules

  near : mag c.args.reference < 2 ^ 59
  near = omega (arith, small c.args.c c.args.reference c.requires.begun)

  reading : reading_at c.args.c (c.args.reference +ℤ d.count) d.exact ≡ read_double c.args.c c.args.p c.args.reference c.args.x
  reading = Doubles.displaced c.args.c c.args.p c.args.reference d c.args.x (subst (λ (P : ℕ). DisplacementOf d P c.args.x) c.requires.scaled c.small_displacement-d.ensures.0)

pub overflow_add-result : goal.overflow_add-result
overflow_add-result c =
    let s = (goal.at.overflow_add-result c).After-small_displacement-d in
    sum_fits c.args.reference (d s).count c.ranges.reference (fits s) (near s) s.small_displacement-d.ensures.1

pub returns : goal.returns
returns c =
    let s = (goal.at.returns c).After-small_displacement-d in
    let at : ℤ → Reading = λ z. Ok (z, (d s).exact) in
    sym (reading s)
    ∙ (read_is s.args.c (s.args.reference +ℤ (d s).count) (d s).exact (ap is_read (reading s) ∙ s.requires.read)
    ∙ ap at (sym (sum_is s.args.reference (d s).count s.ranges.reference (fits s) (near s) s.small_displacement-d.ensures.1)))
