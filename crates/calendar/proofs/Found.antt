-- From the count of a date to its day number plus 2^63, or that there is none.
use Rattle.std.specs.Prelude.{Some, None}
use mathlib.Core.Path.{◌≡◌, refl, sym, ap, ◌∙◌}
use mathlib.Core.Bool.{Bool, true, false, ◌&&◌, cond, true≢false}
use Prim.Native.Nat.{ℕ, ◌+◌, ◌-◌, ◌<◌, ◌≤◌}
use native.Mathlib.Omega.{arith}
use lib.Dec.{ltb}
use lib.IntN.{ℤ, sub_ℕ}
use borrow.Author.Tests.{ltb-true, ltb-false}
use Rattle.signed.specs.Bias.{unbiased}
use Rattle.signed.proofs.Tests.{to_false}
use Rattle.signed.proofs.Differences.{same_diff}
use Rattle.calendar.specs.Plain.{month_days, date}
use Rattle.calendar.specs.Calendar.{date_by, exists, date_of, has_year_zero, row_of}
use Rattle.calendar.specs.Closed.{CountedRow, kind_at, count, year_at, day_place, has_day_at, counts, late_from, lag, is_early, row_epoch, early_day, DayOrNone}
use Rattle.calendar.specs.Answers.{is_possible}
use Rattle.calendar.specs.declared.Calendar.{Calendar}
use Rattle.calendar.specs.declared.Date.{Date}
use Rattle.calendar.proofs.Years.{year_least}
use Rattle.calendar.proofs.Rows.{cutover}
use Rattle.calendar.proofs.Range.{small}
use Rattle.calendar.proofs.Existing.{exists_possible}
use Rattle.calendar.proofs.Counting.{by_length, DayIs, early_there, late_there, counted_early, counted_late}

module _ (c : Calendar) (y m d : ℕ) where
  abbrev x : Date
  x = date (year_at (has_year_zero c) y) m d

  abbrev k : CountedRow
  k = counts c

  none : (exists c x ≡ true → ⊥) → DayOrNone c x None
  none f = to_false (exists c x) f

  some : (n : ℕ) (z : ℤ) → unbiased n ≡ z → DayIs (row_of c) (cutover c) y m d z → DayOrNone c x (Some n)
  unfolding exists date_of
  some n z e i = (i.there, ap (date_by (row_of c)) e ∙ i.dated)

  pub none_possible : is_possible m d ≡ false → DayOrNone c x None
  none_possible e = none (λ h. true≢false (sym (exists_possible c x h) ∙ e))

  module _ (possible : is_possible m d ≡ true) where
    module _ (low : 1 ≤ y) (e : is_early k y m d ≡ true) where
      abbrev j : ℕ
      j = count k.early (day_place y m d)

      lagging : lag k ≤ j
      unfolding count
      lagging = omega (arith, low, year_least k.early y, (cutover c).lag_small)

      kept : (exists c x ≡ true) → (has_day_at k.early y m d ≡ true) × (j < late_from k + lag k)
      unfolding exists
      kept there = counted_early (row_of c) (cutover c) y m d there e

      pub early_answer : DayOrNone c x (early_day k (day_place y m d))
      unfolding early_day
      early_answer = go (ltb (d - 1) (month_days (kind_at k.early y) (m - 1))) (ltb (j - lag k) (late_from k)) refl refl
        where
          go : (a b : Bool) → ltb (d - 1) (month_days (kind_at k.early y) (m - 1)) ≡ a → ltb (j - lag k) (late_from k) ≡ b
              → DayOrNone c x (cond (a && b) (Some (j - lag k + (9223372036854775808 - row_epoch k))) None)
          go true true p q =
              some (j - lag k + (9223372036854775808 - row_epoch k)) (sub_ℕ j (row_epoch k + lag k))
              (same_diff (j - lag k + (9223372036854775808 - row_epoch k)) 9223372036854775808 j (row_epoch k + lag k) (omega (arith, lagging, small c)))
              (early_there (row_of c) (cutover c) y m d (by_length k.early y m d possible ∙ p) (omega (arith, ltb-true (j - lag k) (late_from k) q)))
          go true false p q = none (λ t. omega (arith, (kept t).1, ltb-false (j - lag k) (late_from k) q, lagging))
          go false b p q = none (λ t. true≢false (sym (kept t).0 ∙ (by_length k.early y m d possible ∙ p)))

    module _ (e : is_early k y m d ≡ false) where
      abbrev n : ℕ
      n = count k.late (day_place y m d)

      pub late_answer : ltb (d - 1) (month_days (kind_at k.late y) (m - 1)) ≡ true → DayOrNone c x (Some (n + (9223372036854775808 - row_epoch k)))
      late_answer p =
          some (n + (9223372036854775808 - row_epoch k)) (sub_ℕ n (row_epoch k)) (same_diff (n + (9223372036854775808 - row_epoch k)) 9223372036854775808 n (row_epoch k) (omega (arith, small c)))
          (late_there (row_of c) (cutover c) y m d (by_length k.late y m d possible ∙ p) (ltb-false n (late_from k) e))

      pub late_none : ltb (d - 1) (month_days (kind_at k.late y) (m - 1)) ≡ false → DayOrNone c x None
      unfolding exists
      late_none p = none (λ t. true≢false (sym (counted_late (row_of c) (cutover c) y m d t e) ∙ (by_length k.late y m d possible ∙ p)))
