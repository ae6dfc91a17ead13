-- A displacement in periods of P microseconds, by the distance of two instants and their order.
use Rattle.std.specs.Prelude.{Result, Ok, Err}
use mathlib.Core.Path.{◌≡◌, sym, ap, ◌∙◌, subst}
use mathlib.Core.Bool.{Bool, cond}
use Prim.Native.Nat.{ℕ, suc, ◌+◌, ◌-◌, ◌/◌, ◌%◌}
use native.Mathlib.Omega.{arith}
use lib.Dec.{eqb, ltb}
use lib.IntN.{ℤ, pos, negsuc, nat_abs, sub_ℕ, ◌+ℤ◌, ◌-ℤ◌}
use borrow.Author.Tests.{lt-ltb, le-ltb}
use lib.Signed.{lt_z}
use Rattle.refusal.specs.declared.Refusal.{Refusal}
use Rattle.refusal.specs.declared.Refusal.TheVariants.{Inexact}
use Rattle.signed.proofs.Differences.{by_sign, common, sub_lt, sub_low, sub_high, same_diff}
use Rattle.signed.proofs.Integers.{plus_minus}
use Rattle.signed.specs.Sign.{with_sign}
use Rattle.fixed_axis.specs.Fixed.{in_periods}

-- ---- sums and differences of integers that are differences of natural numbers; `sub_ℕ a b` is a - b
sub_plus : (a b m d : ℕ) → sub_ℕ a b +ℤ sub_ℕ m d ≡ sub_ℕ (a + m) (b + d)
sub_plus a b m d =
    by_sign (λ (z : ℤ). z +ℤ sub_ℕ m d ≡ sub_ℕ (a + m) (b + d)) a b
    (λ h. by_sign (λ (w : ℤ). negsuc (b - suc a) +ℤ w ≡ sub_ℕ (a + m) (b + d)) m d
    (λ g. ap negsuc (omega arith) ∙ sym (sub_low (a + m) (b + d) (omega arith)))
    (λ g. same_diff (m - d) (suc (b - suc a)) (a + m) (b + d) (omega arith)))
    (λ h. by_sign (λ (w : ℤ). pos (a - b) +ℤ w ≡ sub_ℕ (a + m) (b + d)) m d
    (λ g. same_diff (a - b) (suc (d - suc m)) (a + m) (b + d) (omega arith))
    (λ g. ap pos (omega arith) ∙ sym (sub_high (a + m) (b + d) (omega arith))))

sub_minus : (a m b : ℕ) → sub_ℕ a b -ℤ sub_ℕ m b ≡ sub_ℕ a m
sub_minus a m b = ap (λ (z : ℤ). z -ℤ sub_ℕ m b) (sym (sub_plus m b a m ∙ same_diff (m + a) (b + m) a b (omega arith))) ∙ plus_minus (sub_ℕ m b) (sub_ℕ a m)

-- ---- one quotient serves both signs

module _ (P : ℕ) where
  abbrev pub answer : ℤ → Bool → Result ℤ Refusal
  answer z s = cond (eqb (nat_abs z % P) 0) (Ok (with_sign s (nat_abs z / P))) (Err Inexact)

  by_parts : (m n : ℕ) → in_periods (sub_ℕ m n) P ≡ answer (sub_ℕ m n) (ltb m n)
  unfolding in_periods
  by_parts m n =
      by_sign (λ (z : ℤ). in_periods z P ≡ answer z (ltb m n)) m n
      (λ h. ap (answer (negsuc (n - suc m))) (sym (lt-ltb m n h)))
      (λ h. ap (answer (pos (m - n))) (sym (le-ltb m n h)))

  pub periods : (t R : ℤ) → in_periods (t -ℤ R) P ≡ answer (t -ℤ R) (lt_z t R)
  periods t R =
      let c = common t R in
      subst (λ (z : ℤ). in_periods (z -ℤ R) P ≡ answer (z -ℤ R) (lt_z z R)) c.is_left
      (subst (λ (z : ℤ). in_periods (sub_ℕ c.left c.least -ℤ z) P ≡ answer (sub_ℕ c.left c.least -ℤ z) (lt_z (sub_ℕ c.left c.least) z)) c.is_right (go c.left c.right c.least))
    where
      go : (m n b : ℕ) → in_periods (sub_ℕ m b -ℤ sub_ℕ n b) P ≡ answer (sub_ℕ m b -ℤ sub_ℕ n b) (lt_z (sub_ℕ m b) (sub_ℕ n b))
      go m n b =
          ap (λ (z : ℤ). in_periods z P) (sub_minus m n b) ∙ (by_parts m n ∙ (λ i. answer (sym (sub_minus m n b) i) (sym (sub_lt m n b) i)))
