-- From a double's bit pattern, and the displacement that it stands for, to its nearest displacement on an axis of P microseconds to the period.
use mathlib.Core.Path.{◌≡◌, sym, ap, ◌∙◌, subst}
use mathlib.Core.Bool.{Bool, true, false, not}
use Prim.Native.Nat.{ℕ, zero, suc, ◌*◌, ◌^◌, ◌≤◌, ◌<◌}
use native.Mathlib.Nat.{le_trans, le_of_eq, mul_right_comm}
use native.Mathlib.Omega.{arith}
use lib.Dec.{T}
use lib.IntN.{ℤ}
use lib.Signed.{mag}
use lib.Pow.{pow_pos}
use lib.Ieee.{Float, nan, inf, fin, binary64, up, down, fits, is_nan}
use lib.Ieee.Exact.{HasValue}
use lib.Ieee.Fits.{down_pos}
use lib.Ieee.Nearest.{closest, closest_same}
use Rattle.rounding.specs.Rounding.{is_exact}
use Rattle.rounding.proofs.Closest.{same_exact}
use Rattle.double.specs.declared.Pattern.{Pattern}
use Rattle.double.specs.declared.Displacement.{Displacement}
use Rattle.signed.specs.Sign.{with_sign}
use Rattle.double.specs.Displacement.{DisplacementOf, IsSmall, IsLarge, IsNotFinite}
use Rattle.double.specs.Fields.{pattern_of, PatternDisplacement}
use Rattle.double.proofs.Bits.{sign_of, field_of, size_of, finite, value, not_finite}

-- a size with its sign is no larger
pub signed_le : (s : Bool) (n : ℕ) → mag (with_sign s n) ≤ n
signed_le false n = omega arith
signed_le true zero = omega arith
signed_le true (suc n) = omega arith

-- a small displacement is a finite double's
pub small_number : (P : ℕ) (x : Float) → IsSmall P x → T (not (is_nan x))
unfolding IsSmall is_nan
small_number P nan h = absurd h
small_number P (inf s) h = tt
small_number P (fin s m e) h = tt

-- ---- by any fraction a / d that x is
module _ (P : ℕ) (x : Float) (s : Bool) (a d : ℕ) (D : 0 < d) (v : HasValue x s a d) where
  pub record AsFraction : Type 0 where
    pub m : ℕ
    pub e : ℤ
    pub is : x ≡ fin s m e
    pub size : closest (m * up e * P) (down e) ≡ closest (a * P) d
    pub exact : is_exact (m * up e * P) (down e) ≡ is_exact (a * P) d

as_fraction : (P : ℕ) (x : Float) (s : Bool) (a d : ℕ) (D : 0 < d) (v : HasValue x s a d) → AsFraction P x s a d D v
as_fraction P nan s a d D v = absurd v
as_fraction P (inf t) s a d D v = absurd v
as_fraction P (fin t m e) s a d D v =
    let q : m * up e * P * d ≡ a * P * down e = mul_right_comm (m * up e) P d ∙ (ap (λ (k : ℕ). k * P) v.1 ∙ mul_right_comm a (down e) P) in
    record { m = m; e = e; is = ap (λ (b : Bool). fin b m e) v.0; size = closest_same (m * up e * P) (down e) (a * P) d (down_pos e) D q; exact = same_exact (m * up e * P) (down e) (a * P) d (down_pos e) D q }

-- ---- by the pattern
module _ (x : Float) (F : T (fits binary64 x)) where
  pub infinite : field_of x ≡ 2047 → IsNotFinite x
  unfolding IsNotFinite
  infinite e = not_finite x F IsNotFinite tt tt e

module _ (x : Float) (F : T (fits binary64 x)) (P : ℕ) where
  pub small_field : IsSmall P x → field_of x < 2047
  unfolding IsSmall
  small_field h = finite x (λ (e : field_of x ≡ 2047). not_finite x F (λ (k : Float). IsSmall P k → ⊥) (λ g. g) (λ g. g) e h)

  module _ (h : field_of x < 2047) where
    abbrev size : ℕ
    size = closest (size_of x * P) (2 ^ 1074)

    at : AsFraction P x (sign_of x) (size_of x) (2 ^ 1074) (pow_pos 1074) (value x F h)
    at = as_fraction P x (sign_of x) (size_of x) (2 ^ 1074) (pow_pos 1074) (value x F h)

    pub large_is : 2 ^ 60 ≤ size → IsLarge P x
    unfolding IsLarge
    large_is g = subst (λ (k : Float). IsLarge P k) (sym at.is) (le_trans g (le_of_eq (sym at.size)))

    pub small_is : IsSmall P x → size < 2 ^ 60
    unfolding IsSmall
    small_is g = subst (λ (k : ℕ). k < 2 ^ 60) at.size (subst (λ (k : Float). IsSmall P k) at.is g)

    pub counted : (p : Pattern) → p ≡ pattern_of x → (d : Displacement) → PatternDisplacement d p P → DisplacementOf d P x
    unfolding DisplacementOf
    counted p e d v =
        let w : PatternDisplacement d (pattern_of x) P = subst (λ (k : Pattern). PatternDisplacement d k P) e v in
        subst (λ (k : Float). DisplacementOf d P k) (sym at.is) (w.count ∙ ap (with_sign (sign_of x)) (sym at.size), w.exact ∙ sym at.exact)
