-- A number and its negative as signed numbers of 64 bits.
use Rattle.std.proofs.Common.{ℕ, Bool, true, false, nat_le, nat_lt, refl, zero, suc, ◌-◌, ◌≤◌, ◌<◌, ◌^◌, ◌≡◌, ℤ, pos, neg_ℤ, ◌+ℤ◌, ◌-ℤ◌, FitsSigned, w64, of_z, to_z, arith, ◌∙◌}
use borrow.Author.Tests.{leb-true, leb-false, ltb-true, ltb-false}
use Rattle.std.proofs.lemmas.Int.{ints}
use Rattle.std.proofs.Math.Facts.{to_z-of_z}

zero_minus : (n : ℕ) → pos 0 -ℤ pos n ≡ neg_ℤ (pos n)
zero_minus n = omega (arith, ints)

zero_plus : (n : ℕ) → pos 0 +ℤ pos n ≡ pos n
zero_plus n = omega (arith, ints)

minus_fits : (n : ℕ) → n ≤ 2 ^ 63 → FitsSigned w64 (neg_ℤ (pos n))
minus_fits zero h = record { sfits = omega arith }
minus_fits (suc n) h = record { sfits = omega arith }

fits_minus : (n : ℕ) → FitsSigned w64 (neg_ℤ (pos n)) → n ≤ 2 ^ 63
fits_minus zero h = omega arith
fits_minus (suc n) h = omega (arith, h.sfits)

plus_fits : (n : ℕ) → n < 2 ^ 63 → FitsSigned w64 (pos n)
plus_fits n h = record { sfits = h }

pub minus_large : (n : ℕ) → (FitsSigned w64 (pos 0 -ℤ pos n) → ⊥) → 2 ^ 63 < n
minus_large n h = go (nat_le n (2 ^ 63)) refl
  where
    go : (t : Bool) → nat_le n (2 ^ 63) ≡ t → 2 ^ 63 < n
    go true e = absurd (h (rw zero_minus (minus_fits n (leb-true n (2 ^ 63) e))))
    go false e = leb-false n (2 ^ 63) e

pub plus_large : (n : ℕ) → (FitsSigned w64 (pos 0 +ℤ pos n) → ⊥) → 2 ^ 63 - 1 < n
plus_large n h = go (nat_lt n (2 ^ 63)) refl
  where
    go : (t : Bool) → nat_lt n (2 ^ 63) ≡ t → 2 ^ 63 - 1 < n
    go true e = absurd (h (rw zero_plus (plus_fits n (ltb-true n (2 ^ 63) e))))
    go false e = omega (arith, ltb-false n (2 ^ 63) e)

pub minus_small : (n : ℕ) → FitsSigned w64 (pos 0 -ℤ pos n) → n ≤ 2 ^ 63
minus_small n h = fits_minus n (rw zero_minus at h)

pub plus_small : (n : ℕ) → FitsSigned w64 (pos 0 +ℤ pos n) → n ≤ 2 ^ 63 - 1
plus_small n h = let p : FitsSigned w64 (pos n) = rw zero_plus at h in omega (arith, p.sfits)

pub minus_is : (n : ℕ) (z : ℤ) → FitsSigned w64 (pos 0 -ℤ pos n) → z ≡ pos 0 -ℤ pos n → to_z w64 (of_z w64 z) ≡ neg_ℤ (pos n)
minus_is n z f e = rw e (to_z-of_z f ∙ zero_minus n)

pub plus_is : (n : ℕ) (z : ℤ) → FitsSigned w64 (pos 0 +ℤ pos n) → z ≡ pos 0 +ℤ pos n → to_z w64 (of_z w64 z) ≡ pos n
plus_is n z f e = rw e (to_z-of_z f ∙ zero_plus n)
