-- The day number of a date is the number whose date it is.
use mathlib.Core.Path.{◌≡◌, sym, ap, ◌∙◌}
use mathlib.Core.Bool.{Bool, true, false, cond, true≢false}
use Prim.Native.Nat.{ℕ, zero, suc, ◌+◌, ◌<◌, ◌≤◌}
use native.Mathlib.Omega.{arith}
use native.Mathlib.Decide.{dec_le}
use lib.IntN.{ℤ, suc_ℤ, sub_ℕ}
use Rattle.signed.proofs.Tests.{test_is, to_false}
use Rattle.signed.proofs.Differences.{sub_suc, sub_inj}
use Rattle.calendar.specs.Calendar.{date_of, in_years, row_of}
use Rattle.calendar.specs.Order.{same_date}
use Rattle.calendar.specs.Answers.{number_from, day_number}
use Rattle.calendar.specs.declared.Calendar.{Calendar}
use Rattle.calendar.specs.declared.Date.{Date}
pub use Rattle.calendar.proofs.Ordered.{same_of, same_self}
use Rattle.calendar.proofs.Walk as Walk
use Rattle.calendar.proofs.Days.{row_chain, row_start_lem}
use Rattle.calendar.proofs.Rows.{cutover}
use Rattle.calendar.proofs.Range.{near}

module _ (c : Calendar) where
  -- no two day numbers share a date
  pub one_day : (z w : ℤ) → date_of c z ≡ date_of c w → z ≡ w
  unfolding date_of
  one_day = Walk.one_day (row_of c) (row_chain (row_of c) (cutover c)) (row_start_lem (row_of c) (cutover c))

  -- so of two day numbers the dates are the same just where a test that tells whether the numbers are holds
  pub same_day : (z w : ℤ) (t : Bool) → (z ≡ w → t ≡ true) → ((z ≡ w → ⊥) → t ≡ false) → same_date (date_of c z) (date_of c w) ≡ t
  same_day z w t f g =
      test_is (same_date (date_of c z) (date_of c w)) t
      (λ h. f (one_day z w (same_of (date_of c z) (date_of c w) h)))
      (λ h. g (λ e. true≢false (sym (same_self (date_of c w)) ∙ (ap (λ (y : ℤ). same_date (date_of c y) (date_of c w)) (sym e) ∙ h))))

  -- the search finds the number n of a date, from any s at or below it
  search : (x : Date) (k s n b : ℕ) → s ≤ n → n < s + k → date_of c (sub_ℕ n b) ≡ x → number_from c x k (sub_ℕ s b) ≡ sub_ℕ n b
  unfolding number_from
  search x zero s n b h g e = absurd (omega arith)
  search x (suc k) s n b h g e =
      elim (dec_le (suc s) n) [
        | yes l ↦
            let other : same_date (date_of c (sub_ℕ s b)) x ≡ false = to_false (same_date (date_of c (sub_ℕ s b)) x) (λ u. omega (arith, sub_inj s n b (one_day (sub_ℕ s b) (sub_ℕ n b) (same_of (date_of c (sub_ℕ s b)) x u ∙ sym e)))) in
            ap (λ (t : Bool). cond t (sub_ℕ s b) (number_from c x k (suc_ℤ (sub_ℕ s b)))) other
            ∙ (ap (number_from c x k) (sub_suc s b) ∙ search x k (suc s) n b l (omega arith) e)
        | no l ↦
            let at_n : s ≡ n = omega arith in
            let here : same_date (date_of c (sub_ℕ s b)) x ≡ true = ap (λ (d : Date). same_date d x) (ap (λ (m : ℕ). date_of c (sub_ℕ m b)) at_n ∙ e) ∙ same_self x in
            ap (λ (t : Bool). cond t (sub_ℕ s b) (number_from c x k (suc_ℤ (sub_ℕ s b)))) here ∙ ap (λ (m : ℕ). sub_ℕ m b) at_n
      ]

  -- the day number of a date of the years -9999 to 9999
  pub number_is : (x : Date) (z : ℤ) → in_years x.year ≡ true → date_of c z ≡ x → day_number c x ≡ z
  unfolding day_number
  number_is x z h e =
      let k = near c z (ap (λ (d : Date). in_years d.year) e ∙ h) in
      search x 10000000 0 k.number 5000000 (omega arith) k.low (ap (date_of c) k.is ∙ e) ∙ k.is
