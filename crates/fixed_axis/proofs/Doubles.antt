-- From the nearest displacement of a double, as crate `double` gives it, to its reading.
use Rattle.std.specs.Prelude.{Ok, Err}
use mathlib.Core.Path.{◌≡◌, refl, sym, ◌∙◌, subst}
use mathlib.Core.Bool.{Bool, true, false≢true}
use Prim.Native.Nat.{ℕ, ◌<◌, ◌^◌}
use native.Mathlib.Nat.{le_trans, le_of_eq}
use lib.Dec.{eqb}
use lib.IntN.{ℤ, ◌+ℤ◌}
use lib.Ieee.{Float, nan, inf, fin}
use Rattle.refusal.specs.declared.Refusal.{Refusal}
use Rattle.refusal.specs.declared.Refusal.TheVariants.{OutOfRange, NotFinite}
use Rattle.calendar.specs.declared.Calendar.{Calendar}
use Rattle.axis_types.specs.Lengths.{length_of}
use Rattle.axis_types.specs.Reading.{is_read}
use Rattle.axis_types.specs.declared.Period.{Period}
use Rattle.instant.specs.Instant.{in_range}
use Rattle.double.specs.declared.Displacement.{Displacement}
use Rattle.double.specs.Nearest.{distance, nearest_size, nearest_displacement, nearest_count}
use Rattle.double.specs.Displacement.{DisplacementOf, DisplacementAnswerOf, IsSmall, IsLarge, IsNotFinite}
use Rattle.double.proofs.Distance.{count_exact}
use Rattle.fixed_axis.specs.Fixed.{reading_at, read_double}
use Rattle.fixed_axis.proofs.Readings.{Read, reading_of, inside, settled}
use Rattle.fixed_axis.proofs.Displacements.{signed_size, inner_size, too_far}

module _ (c : Calendar) (p : Period) (R : ℤ) where
  pub displaced : (d : Displacement) (x : Float) → DisplacementOf d (length_of p) x → reading_at c (R +ℤ d.count) d.exact ≡ read_double c p R x
  unfolding DisplacementOf read_double
  displaced d nan v = absurd v
  displaced d (inf s) v = absurd v
  displaced d (fin s m e) v = λ i. reading_at c (R +ℤ v.0 i) ((v.1 ∙ count_exact R (length_of p) s m e) i)

  pub not_finite : (x : Float) → IsNotFinite x → Err NotFinite ≡ read_double c p R x
  unfolding IsNotFinite read_double
  not_finite nan v = refl
  not_finite (inf s) v = refl
  not_finite (fin s m e) v = absurd v

  -- a finite double that was read
  pub double_of : (s : Bool) (m : ℕ) (e z : ℤ) (exact : Bool) → read_double c p R (fin s m e) ≡ Ok (z, exact) → Read c (nearest_count R (length_of p) s m e) z (eqb (distance R (length_of p) s m e (nearest_count R (length_of p) s m e)) 0) exact
  unfolding read_double
  double_of s m e z exact g = reading_of c (nearest_count R (length_of p) s m e) z (eqb (distance R (length_of p) s m e (nearest_count R (length_of p) s m e)) 0) exact g

  module _ (h : in_range c R ≡ true) where
    pub large : (x : Float) → IsLarge (length_of p) x → Err OutOfRange ≡ read_double c p R x
    unfolding IsLarge read_double
    large nan v = absurd v
    large (inf s) v = absurd v
    large (fin s m e) v =
        let w = nearest_displacement (length_of p) s m e in
        let z = R +ℤ w in
        settled c z (eqb (distance R (length_of p) s m e z) 0) (too_far c R w h (le_trans v (le_of_eq (sym (signed_size s (nearest_size (length_of p) m e))))))

    pub refused : (x : Float) (r : Refusal) → DisplacementAnswerOf (Err r) (length_of p) x → Err r ≡ read_double c p R x
    refused x OutOfRange v = large x v
    refused x NotFinite v = not_finite x v
    refused x r v = absurd v

    pub small : (x : Float) → is_read (read_double c p R x) ≡ true → IsSmall (length_of p) x
    unfolding IsSmall read_double
    small nan g = absurd (false≢true g)
    small (inf s) g = absurd (false≢true g)
    small (fin s m e) g =
        let n = nearest_size (length_of p) m e in
        let z = nearest_count R (length_of p) s m e in
        subst (λ (k : ℕ). k < 2 ^ 60) (signed_size s n) (inner_size c R (nearest_displacement (length_of p) s m e) h (inside c z (eqb (distance R (length_of p) s m e z) 0) g))
