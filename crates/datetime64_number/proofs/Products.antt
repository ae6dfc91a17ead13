-- Products of signed numbers that have their bias of 2^63: v is k times u. Bounds on the product, divided by k, are bounds on the factor.
use mathlib.Core.Path.{◌≡◌, sym, ap, ◌∙◌}
use Prim.Native.Nat.{ℕ, ◌+◌, ◌-◌, ◌*◌, ◌/◌, ◌≤◌, ◌<◌}
use native.Mathlib.Nat.{add-mul, div-mul-le_self, le-div_iff_mul-le, eq_of_mul-eq-mul_right, mul-le-mul_right}
use native.Mathlib.Omega.{arith}
use native.Mathlib.Decide.{dec_le}
use lib.IntN.{pos, sub_ℕ, ◌*ℤ◌, +ℤ_idr}
use Rattle.signed.specs.Bias.{unbiased}
use Rattle.signed.proofs.Differences.{same_diff, sub_inj, times_plus}
use Rattle.ratio.specs.Multiples.{Place}

-- v - 2^63 is (u - 2^63) * k
abbrev pub Times : ℕ → ℕ → ℕ → Type 0
Times k u v = v + 9223372036854775808 * k ≡ u * k + 9223372036854775808

times_sub : (a b k : ℕ) → sub_ℕ a b *ℤ pos k ≡ sub_ℕ (a * k) (b * k)
times_sub a b k = sym (+ℤ_idr (sub_ℕ a b *ℤ pos k)) ∙ (times_plus a b k 0 ∙ ap (λ (n : ℕ). sub_ℕ n (b * k)) (omega arith))

diff_same : (a b c d : ℕ) → sub_ℕ a b ≡ sub_ℕ c d → a + d ≡ c + b
diff_same a b c d e = sub_inj (a + d) (c + b) (b + d) (same_diff (a + d) (b + d) a b (omega arith) ∙ (e ∙ same_diff c d (c + b) (b + d) (omega arith)))

pub product_of : (k u v : ℕ) → Times k u v → unbiased u *ℤ pos k ≡ unbiased v
product_of k u v e = times_sub u 9223372036854775808 k ∙ same_diff (u * k) (9223372036854775808 * k) v 9223372036854775808 (omega (arith, e))

pub product_is : (k u v : ℕ) → unbiased u *ℤ pos k ≡ unbiased v → Times k u v
product_is k u v e = omega (arith, diff_same (u * k) (9223372036854775808 * k) v 9223372036854775808 (sym (times_sub u 9223372036854775808 k) ∙ e))

-- ---- the place of the product is that of the factor
module _ (k below above u v : ℕ) (e : Times k u v) where
  pub place_of_product : (i : ℕ) → Place 1 below above u i → Place k below above v i
  place_of_product i p =
      let m : (u + below) * k ≡ (9223372036854775808 + i) * k = ap (λ (n : ℕ). n * k) (omega (arith, p.is)) in
      record { inside = p.inside; is = omega (arith, e, m, add-mul u below k, add-mul 9223372036854775808 i k) }

  pub place_of_factor : 0 < k → (i : ℕ) → Place k below above v i → Place 1 below above u i
  place_of_factor h i p =
      let m : (u + below) * k ≡ (9223372036854775808 + i) * k = omega (arith, e, p.is, add-mul u below k, add-mul 9223372036854775808 i k) in
      record { inside = p.inside; is = omega (arith, eq_of_mul-eq-mul_right k h (u + below) (9223372036854775808 + i) m) }

-- ---- a product that lies between -A and B
pub record Within (A B v : ℕ) : Type 0 where
  pub low : 9223372036854775808 ≤ v + A
  pub high : v ≤ 9223372036854775808 + B

module _ (A B k : ℕ) (positive : 0 < k) where
  pub within : (v i : ℕ) → Place k (A / k) (B / k) v i → Within A B v
  within v i p =
      let l = div-mul-le_self A k in
      let h = div-mul-le_self B k in
      let m = mul-le-mul_right k p.inside in
      record { low = omega (arith, p.is, l); high = omega (arith, p.is, h, m, add-mul (A / k) (B / k) k) }

  few_below : (u v : ℕ) → Times k u v → Within A B v → 9223372036854775808 ≤ u + A / k
  few_below u v e w =
      elim (dec_le 9223372036854775808 u) [
        | yes g ↦ omega arith
        | no g ↦
            let d : 9223372036854775808 ≡ u + (9223372036854775808 - u) = omega arith in
            let m : 9223372036854775808 * k ≡ u * k + (9223372036854775808 - u) * k = ap (λ (n : ℕ). n * k) d ∙ add-mul u (9223372036854775808 - u) k in
            let l : (9223372036854775808 - u) * k ≤ A = omega (arith, e, m, w.low) in
            omega (arith, (le-div_iff_mul-le {k = k} {x = 9223372036854775808 - u} {y = A} positive).1 l)
      ]

  few_above : (u v : ℕ) → Times k u v → Within A B v → u ≤ 9223372036854775808 + B / k
  few_above u v e w =
      elim (dec_le u 9223372036854775808) [
        | yes g ↦ omega arith
        | no g ↦
            let d : u ≡ 9223372036854775808 + (u - 9223372036854775808) = omega arith in
            let m : u * k ≡ 9223372036854775808 * k + (u - 9223372036854775808) * k = ap (λ (n : ℕ). n * k) d ∙ add-mul 9223372036854775808 (u - 9223372036854775808) k in
            let l : (u - 9223372036854775808) * k ≤ B = omega (arith, e, m, w.high) in
            omega (arith, (le-div_iff_mul-le {k = k} {x = u - 9223372036854775808} {y = B} positive).1 l)
      ]

  pub place_within : (u v : ℕ) → Times k u v → Within A B v → (i : ℕ) × Place 1 (A / k) (B / k) u i
  place_within u v e w = (u + A / k - 9223372036854775808, record { inside = omega (arith, few_above u v e w); is = omega (arith, few_below u v e w) })
