-- Dates that end with a leap second, by their day numbers.
use mathlib.Core.Path.{◌≡◌, sym, ap, ◌∙◌}
use mathlib.Core.Bool.{false}
use mathlib.Core.List.{List}
use Prim.Native.Nat.{ℕ, zero, suc, ◌-◌, ◌/◌, ◌<◌, ◌≤◌, ◌^◌}
use native.Mathlib.Omega.{arith}
use lib.Dec.{eqb}
use lib.IntN.{ℤ, pos, pred_ℤ}
use lib.ListN.{length}
use lib.Signed.{mag}
use borrow.Author.Tests.{eq-eqb, ne_eqb}
use Rattle.signed.proofs.Tests.{to_false}
use Rattle.calendar.specs.Calendar.{date_of}
use Rattle.calendar.specs.Order.{same_date}
use Rattle.calendar.specs.declared.Calendar.TheVariants.{ProlepticGregorian}
use Rattle.calendar.specs.declared.Date.{Date}
use Rattle.calendar.proofs.Numbering.{same_day, same_of}
use Rattle.leap_seconds.specs.Leaps.{Leap, leap_at, leaps, is_natural}
use Rattle.leap_seconds.specs.Utc.{is_leap_day}
use Rattle.leap_seconds.specs.Closed.{day_at}
use Rattle.leap_seconds.proofs.Listed.{Listed, listed_small}
use Rattle.leap_seconds.proofs.OnDays.{same_later, none_later, day_test, after_first}
use Rattle.tt2000.specs.Tt2000.{is_leap_date}

module _ (s : List ℕ) (l : Listed s) (x : Date) where
  -- the day before a record's
  pub eve : (k : ℕ) → 1 ≤ k → k < length s / 16 → pred_ℤ (leap_at s k).day ≡ pos (day_at s k - 1)
  eve k a b = ap pred_ℤ (l.days k b) ∙ pred_pos (day_at s k) (omega (arith, after_first s l k a b))
    where
      pred_pos : (n : ℕ) → 1 ≤ n → pred_ℤ (pos n) ≡ pos (n - 1)
      pred_pos zero h = absurd (omega arith)
      pred_pos (suc n) h = ap pos (omega arith)

  eve_test : (k m : ℕ) → 1 ≤ k → k < length s / 16 → date_of ProlepticGregorian (pos m) ≡ x → same_date (date_of ProlepticGregorian (pred_ℤ (leap_at s k).day)) x ≡ is_natural (leap_at s k).day (suc m)
  eve_test k m a b e =
      let n = day_at s k in
      let later = after_first s l k a b in
      (λ i. same_date (date_of ProlepticGregorian (eve k a b i)) (sym e i))
      ∙ (same_day ProlepticGregorian (pos (n - 1)) (pos m) (eqb n (suc m)) (λ g. eq-eqb n (suc m) (omega (arith, ap mag g))) (λ g. ne_eqb n (suc m) (λ h. let f : n - 1 ≡ m = omega arith in g (ap pos f)))
      ∙ sym (day_test s l (suc m) k b))

  -- the date of day m
  pub leap_date_is : (m : ℕ) → date_of ProlepticGregorian (pos m) ≡ x → is_leap_date (leaps s) x ≡ is_leap_day (leaps s) m
  unfolding is_leap_date is_leap_day
  leap_date_is m e = same_later s l (λ (r : Leap). same_date (date_of ProlepticGregorian (pred_ℤ r.day)) x) (λ (r : Leap). is_natural r.day (suc m)) (λ k a b. eve_test k m a b e)

  -- a date that no day has
  pub no_leap_date : ((m : ℕ) → m < 2 ^ 63 → date_of ProlepticGregorian (pos m) ≡ x → ⊥) → is_leap_date (leaps s) x ≡ false
  unfolding is_leap_date
  no_leap_date f =
      none_later s l (λ (r : Leap). same_date (date_of ProlepticGregorian (pred_ℤ r.day)) x)
      (λ k a b.
      ap (λ (z : ℤ). same_date (date_of ProlepticGregorian z) x) (eve k a b)
      ∙ to_false (same_date (date_of ProlepticGregorian (pos (day_at s k - 1))) x) (λ h. f (day_at s k - 1) (omega (arith, listed_small s l k b)) (same_of (date_of ProlepticGregorian (pos (day_at s k - 1))) x h)))
