-- From a double's bit pattern to its exact value: the fields that the code takes are the double's, and a finite one is ± significand * 2 ^ weight / 2 ^ 1074.
use mathlib.Core.Path.{◌≡◌, sym, ap, ◌∙◌, subst}
use mathlib.Core.Bool.{Bool, true, false, false≢true, not, cond}
use Prim.Native.Nat.{ℕ, zero, suc, ◌+◌, ◌*◌, ◌/◌, ◌%◌, ◌^◌, ◌<◌}
use native.Mathlib.Omega.{arith}
use lib.Dec.{T, eqb, not_T, eqb→eq}
use lib.Pow.{field}
use lib.Ieee.{Float, nan, inf, fin, binary64, odd, fits, is_nan, of_fields, of_bits, to_bits, ne}
use lib.Ieee.Bits.{of_bits-to_bits, cond_no}
use lib.Ieee.Compare.{nan_differs}
use lib.Ieee.Exact.{HasValue, odd_sign}
use Rattle.double.specs.declared.Pattern.{Pattern}
use Rattle.double.specs.Displacement.{IsNotFinite}
use Rattle.double.specs.Fields.{pattern_of, significand, weight, field_size}

-- what a pattern's fields stand for
value_of : (s : Bool) (x t : ℕ) → x < 2047 → HasValue (of_fields binary64 s x t) s (significand x t * 2 ^ weight x) (2 ^ 1074)
unfolding of_fields
value_of s zero t h = odd_sign 53 s t 0 1074
value_of s (suc j) t h =
    let v = odd 53 s (2 ^ 52 + t) j 1074 in
    subst (λ (k : Float). HasValue k s ((2 ^ 52 + t) * 2 ^ j) (2 ^ 1074)) (sym (cond_no (eqb (suc j) 2047) (cond (eqb t 0) (inf s) nan) v (not_T (eqb (suc j) 2047) (λ (k : T (eqb (suc j) 2047)). go j h (eqb→eq (suc j) 2047 k))))) (odd_sign 53 s (2 ^ 52 + t) j 1074)
  where
    go : (j : ℕ) → suc j < 2047 → suc j ≡ 2047 → ⊥
    go j h e = omega arith

-- a double that does not differ from itself
pub no_nan : (x : Float) → ne x x ≡ false → T (not (is_nan x))
unfolding is_nan
no_nan nan h = absurd (subst T (sym nan_differs ∙ h) tt)
no_nan (inf s) h = tt
no_nan (fin s m e) h = tt

pub nan_is_none : (x : Float) → true ≡ is_nan x → IsNotFinite x
unfolding is_nan IsNotFinite
nan_is_none nan h = tt
nan_is_none (inf s) h = tt
nan_is_none (fin s m e) h = absurd (false≢true (sym h))

-- ---- the fields, as the code takes them
abbrev pub sign_of : Float → Bool
sign_of x = (pattern_of x).negative

abbrev pub field_of : Float → ℕ
field_of x = (pattern_of x).field

abbrev pub digits_of : Float → ℕ
digits_of x = (pattern_of x).digits

abbrev pub size_of : Float → ℕ
size_of x = field_size (field_of x) (digits_of x)

-- a field that is not all ones is smaller
pub finite : (x : Float) → (field_of x ≡ 2047 → ⊥) → field_of x < 2047
finite x h = go (to_bits binary64 x / 2 ^ 52) h
  where
    go : (n : ℕ) → (n % 2048 ≡ 2047 → ⊥) → n % 2048 < 2047
    go n h = omega arith

-- of a pattern that a call gave
module _ (x : Float) (p : Pattern) (is : p ≡ pattern_of x) where
  pub given_field : p.field ≡ field_of x
  given_field = ap (λ (k : Pattern). k.field) is

  pub given_finite : (p.field ≡ 2047 → ⊥) → field_of x < 2047
  given_finite h = finite x (λ (e : field_of x ≡ 2047). h (given_field ∙ e))

module _ (x : Float) (F : T (fits binary64 x)) where
  pattern : x ≡ of_fields binary64 (sign_of x) (field_of x) (digits_of x)
  unfolding of_bits
  pattern = sym (of_bits-to_bits binary64 x F) ∙ ap (λ (k : ℕ). of_fields binary64 (sign_of x) k (digits_of x)) (field (to_bits binary64 x) 11 52)

  pub value : field_of x < 2047 → HasValue x (sign_of x) (size_of x) (2 ^ 1074)
  value h = subst (λ (k : Float). HasValue k (sign_of x) (size_of x) (2 ^ 1074)) (sym pattern) (value_of (sign_of x) (field_of x) (digits_of x) h)

  -- a field of all ones: what holds of infinities and of no number holds of x
  pub not_finite : (P : Float → Type 0) → P (inf (sign_of x)) → P nan → field_of x ≡ 2047 → P x
  unfolding of_fields
  not_finite P i n e = subst P (sym (pattern ∙ ap (λ (k : ℕ). of_fields binary64 (sign_of x) k (digits_of x)) e)) (go (eqb (digits_of x) 0))
    where
      go : (b : Bool) → P (cond b (inf (sign_of x)) nan)
      go true = i
      go false = n
