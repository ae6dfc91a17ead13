-- Displacements w from a reference R of the range: those of 2^60 microseconds or more lead out of it, and the others fit 64 bits.
use mathlib.Core.Path.{◌≡◌, refl, sym, ap, ◌∙◌, subst}
use mathlib.Core.Bool.{Bool, true, false}
use Prim.Native.Nat.{ℕ, suc, ◌+◌, ◌*◌, ◌≤◌, ◌<◌, ◌^◌}
use native.Mathlib.Omega.{arith}
use lib.IntN.{ℤ, pos, negsuc, nat_abs, ◌+ℤ◌, ◌-ℤ◌, ◌*ℤ◌}
use lib.Signed.{mag}
use mir.Syntax.{w64}
use mir.Val.{SFits, to_z, of_z}
use mir.ValLaws.{to_z-of_z}
use Rattle.signed.proofs.Tests.{to_false}
use Rattle.signed.proofs.Integers.{plus_minus, abs_neg, mag_plus, mag_minus}
use Rattle.calendar.specs.declared.Calendar.{Calendar}
use Rattle.instant.specs.Instant.{in_range}
use Rattle.instant.proofs.Range.{small}
use Rattle.signed.specs.Sign.{with_sign}

pub signed_size : (s : Bool) (n : ℕ) → nat_abs (with_sign s n) ≡ n
signed_size true n = abs_neg (pos n)
signed_size false n = refl

pub times_size : (n : ℤ) (P : ℕ) → nat_abs (n *ℤ pos P) ≡ nat_abs n * P
times_size (pos n) P = refl
times_size (negsuc n) P = abs_neg (pos (suc n * P))

pub mag_le : (z : ℤ) → mag z ≤ nat_abs z
mag_le (pos n) = omega arith
mag_le (negsuc n) = omega arith

size_le : (z : ℤ) → nat_abs z ≤ mag z + 1
size_le (pos n) = omega arith
size_le (negsuc n) = omega arith

-- the differences and sums of integers
pub apart : (t R : ℤ) → mag (t -ℤ R) ≤ mag t + mag R + 1
apart t (pos r) = omega (arith, mag_minus t r)
apart t (negsuc r) = omega (arith, mag_plus t (suc r))

mag_sum : (R w : ℤ) → mag (R +ℤ w) ≤ mag R + nat_abs w
mag_sum R (pos n) = mag_plus R n
mag_sum R (negsuc n) = mag_minus R (suc n)

module _ (c : Calendar) (R w : ℤ) (h : in_range c R ≡ true) where
  pub inner_size : in_range c (R +ℤ w) ≡ true → nat_abs w < 2 ^ 60
  inner_size g =
      let e = ap mag (plus_minus R w) in
      omega (arith, size_le w, apart (R +ℤ w) R, small c R h, small c (R +ℤ w) g)

  pub too_far : 2 ^ 60 ≤ nat_abs w → in_range c (R +ℤ w) ≡ false
  too_far l = to_false (in_range c (R +ℤ w)) (λ g. omega (arith, inner_size g))

-- a number near 1970 and a displacement of at most 2^62, as machine words
module _ (R w : ℤ) (F : SFits w64 R) (G : SFits w64 w) (h : mag R < 2 ^ 59) (l : mag w ≤ 2 ^ 62) where
  sum : to_z w64 (of_z w64 R) +ℤ to_z w64 (of_z w64 w) ≡ R +ℤ w
  sum = λ i. to_z-of_z w64 R F i +ℤ to_z-of_z w64 w G i

  pub sum_fits : SFits w64 (to_z w64 (of_z w64 R) +ℤ to_z w64 (of_z w64 w))
  sum_fits = subst (SFits w64) (sym sum) (record { sfits = omega (arith, mag_sum R w, size_le w) })

  pub sum_is : to_z w64 (of_z w64 (to_z w64 (of_z w64 R) +ℤ to_z w64 (of_z w64 w))) ≡ R +ℤ w
  sum_is = to_z-of_z w64 (to_z w64 (of_z w64 R) +ℤ to_z w64 (of_z w64 w)) sum_fits ∙ sum
