-- A number and its product with k, a number and its quotient by k: the places of crate `ratio` are those of the integers.
-- The product lies between -A and B.
use Rattle.std.specs.Prelude.{Ok}
use mathlib.Core.Path.{◌≡◌, refl, sym, ap, ◌∙◌, subst}
use Prim.Native.Nat.{ℕ, zero, suc, ◌+◌, ◌-◌, ◌*◌, ◌/◌, ◌≤◌, ◌<◌}
use native.Mathlib.Nat.{add-mul, div-mul-le_self, div-le_self, le-mul_of_pos_right}
use native.Mathlib.Omega.{arith}
use lib.IntN.{ℤ, pos, negsuc, neg_ℤ, ◌*ℤ◌}
use lib.Signed.{mag}
use mir.Syntax.{w64}
use mir.Val.{SFits}
use Rattle.signed.specs.Bias.{biased, unbiased}
use Rattle.signed.proofs.Differences.{unbiased_biased}
use Rattle.fixed_axis.specs.Fixed.{in_periods}
use Rattle.fixed_axis.proofs.Offsets.{quotient_of, in_periods_lem}
use Rattle.ratio.specs.Multiples.{Place}
use Rattle.datetime64_number.proofs.Products.{Times, product_of, product_is, place_of_product, place_of_factor, Within, within, place_within}

-- the factor of a 64-bit product is a 64-bit number
negative_factor : (a k x : ℕ) → 0 < k → suc a * k ≡ x → mag (neg_ℤ (pos x)) < 9223372036854775808 → a < 9223372036854775808
negative_factor a k zero h e f = absurd (omega (arith, le-mul_of_pos_right (suc a) h))
negative_factor a k (suc x) h e f = omega (arith, le-mul_of_pos_right (suc a) h)

factor_fits : (m : ℤ) (k : ℕ) → 0 < k → SFits w64 (m *ℤ pos k) → SFits w64 m
factor_fits (pos a) k h f = record { sfits = omega (arith, f.sfits, le-mul_of_pos_right a h) }
factor_fits (negsuc a) k h f = record { sfits = negative_factor a k (suc a * k) h refl f.sfits }

module _ (A B k : ℕ) (positive : 0 < k) (small : A ≤ 9223372036854775808) where
  few : A / k ≤ 9223372036854775808
  few = omega (arith, div-le_self A k)

  few_steps : A / k * k ≤ 9223372036854775808
  few_steps = omega (arith, div-mul-le_self A k)

  -- ---- a number n and its product
  pub record Product (n : ℤ) (i : ℕ) : Type 0 where
    pub biased_product : ℕ
    pub is : n *ℤ pos k ≡ unbiased biased_product
    pub place : Place k (A / k) (B / k) biased_product i
    pub bounded : Within A B biased_product

  pub product_at : (n : ℤ) → SFits w64 n → (i : ℕ) → Place 1 (A / k) (B / k) (biased n) i → Product n i
  product_at n f i p =
      let u = biased n in
      let v = 9223372036854775808 + i * k - A / k * k in
      let m : (u + A / k) * k ≡ (9223372036854775808 + i) * k = ap (λ (x : ℕ). x * k) (omega (arith, p.is)) in
      let t : Times k u v = omega (arith, m, add-mul u (A / k) k, add-mul 9223372036854775808 i k, few_steps) in
      let q = place_of_product k (A / k) (B / k) u v t i p in
      record { biased_product = v; is = ap (λ (z : ℤ). z *ℤ pos k) (sym (unbiased_biased n f)) ∙ product_of k u v t; place = q; bounded = within A B k positive v i q }

  pub product_place : (n : ℤ) → SFits w64 n → SFits w64 (n *ℤ pos k) → Within A B (biased (n *ℤ pos k)) → (i : ℕ) × Place 1 (A / k) (B / k) (biased n) i
  product_place n f g w =
      let u = biased n in
      let v = biased (n *ℤ pos k) in
      place_within A B k positive u v (product_is k u v (ap (λ (z : ℤ). z *ℤ pos k) (unbiased_biased n f) ∙ sym (unbiased_biased (n *ℤ pos k) g))) w

  -- ---- a number n and its quotient
  pub record Quotient (n : ℤ) (i : ℕ) : Type 0 where
    pub biased_quotient : ℕ
    pub is : in_periods n k ≡ Ok (unbiased biased_quotient)
    pub place : Place 1 (A / k) (B / k) biased_quotient i

  pub quotient_at : (n : ℤ) → SFits w64 n → (i : ℕ) → Place k (A / k) (B / k) (biased n) i → Quotient n i
  quotient_at n f i p =
      let v = biased n in
      let u = 9223372036854775808 + i - A / k in
      let d : u + A / k ≡ 9223372036854775808 + i = omega (arith, few) in
      let m : (u + A / k) * k ≡ (9223372036854775808 + i) * k = ap (λ (x : ℕ). x * k) d in
      let t : Times k u v = omega (arith, p.is, m, add-mul u (A / k) k, add-mul 9223372036854775808 i k) in
      let e : unbiased u *ℤ pos k ≡ n = product_of k u v t ∙ unbiased_biased n f in
      record { biased_quotient = u; is = ap (λ (z : ℤ). in_periods z k) (sym e) ∙ in_periods_lem (unbiased u) k positive; place = place_of_factor k (A / k) (B / k) u v t positive i p }

  pub quotient_place : (n m : ℤ) → SFits w64 n → Within A B (biased n) → in_periods n k ≡ Ok m → (i : ℕ) × Place k (A / k) (B / k) (biased n) i
  quotient_place n m f w e =
      let q = (quotient_of n k m e).is in
      let u = biased m in
      let v = biased n in
      let g = factor_fits m k positive (subst (SFits w64) (sym q) f) in
      let t : Times k u v = product_is k u v (ap (λ (z : ℤ). z *ℤ pos k) (unbiased_biased m g) ∙ (q ∙ sym (unbiased_biased n f))) in
      let p = place_within A B k positive u v t w in
      (p.0, place_of_product k (A / k) (B / k) u v t p.0 p.1)
