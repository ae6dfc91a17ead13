-- The date of a day number and the day number of a date, each found by the closed forms of crate `calendar`.
use Rattle.std.specs.Prelude.{Ok, Err}
use mathlib.Core.Path.{◌≡◌, refl, sym, ap, ◌∙◌}
use mathlib.Core.Bool.{Bool, true, false, ◌&&◌}
use Prim.Native.Nat.{ℕ, ◌+◌, ◌-◌}
use native.Mathlib.Omega.{arith}
use lib.IntN.{ℤ, pos, negsuc, sub_ℕ}
use lib.Signed.{le_z}
use Rattle.refusal.specs.declared.Refusal.TheVariants.{OutOfRange}
use Rattle.signed.specs.Bias.{lift}
use Rattle.signed.proofs.Tests.{and_parts}
use Rattle.signed.proofs.Differences.{lift_sub}
use Rattle.calendar.specs.Plain.{has_day, kind, month_days}
use Rattle.calendar.specs.Order.{earlier}
use Rattle.calendar.specs.Cutover.{cutover_after, last_kept_after}
use Rattle.calendar.specs.Calendar.{times, date, date_of, exists, exists_by, dropped, dropped_by, has_year_zero, in_years}
use Rattle.calendar.specs.Answers.{date_answer, fault_with, refusal_with, day_with, day_number}
use Rattle.calendar.specs.Closed.{before_place, count, counts, cutover_day, day_place, epoch_day, kind_at, label, lag, lag_at, month_start, row_end, row_epoch, row_start, rule_at, year_at, year_start}
use Rattle.calendar.specs.declared.Calendar.{Calendar}
use Rattle.calendar.specs.declared.Date.{Date}
use Rattle.calendar.proofs.Existing.{date_eq, valid_of, valid_year}
use Rattle.calendar.proofs.Labels.{by_year}
use Rattle.calendar.proofs.Range.{high_day, inside_of, low_day}
use Rattle.calendar.proofs.Counting.{numbered}
use Rattle.calendar.proofs.Numbering.{number_is}
use Rattle.calendar.proofs.Theorems.{count_of, place_by_rule, date_by_place, range}
use Rattle.cases.proofs.Known.{Known, itself, equal, applied, chosen}

-- ---- the date of a day number

module _ (c : Calendar) where
  -- the date of day n, counted from place 0 0 0 of the late rule
  unfoldable pub counted_known : (n : ℕ) → Known (date_of c (sub_ℕ n (epoch_day c)))
  unfolding cutover_after last_kept_after times lag cutover_day count kind_at year_start month_start month_days
  counted_known n = record { value = label (has_year_zero c) (place_by_rule c n); is = date_by_place c n }

  -- the date of a day number of the range
  unfoldable pub date_of_known : (z : ℤ) → in_years (date_of c z).year ≡ true → Known (date_of c z)
  unfolding cutover_after last_kept_after times counted_known row_epoch
  date_of_known z h =
      let b = epoch_day c in
      let k = inside_of c z h in
      equal (ap (date_of c) (sym k.is ∙ ap (λ (n : ℕ). sub_ℕ n b) (sym (lift_sub k.number b) ∙ ap (λ (w : ℤ). lift w b) k.is))) (counted_known (lift z b))

  -- whether a day number lies in the range
  unfoldable pub in_years_known : (z : ℤ) → Known (in_years (date_of c z).year)
  unfolding cutover_after last_kept_after times row_start row_end row_epoch lag cutover_day count kind_at year_start month_start month_days
  in_years_known z = record { value = le_z (low_day c) z && le_z z (high_day c); is = range c z }

  -- the date of a day number, or its refusal
  unfoldable pub date_answer_known : (z : ℤ) → Known (date_answer c z)
  unfolding date_answer in_years_known date_of_known
  date_answer_known z = chosen (in_years_known z) (λ h. applied Ok (date_of_known z h)) (Err OutOfRange)

-- ---- the day number of a date

-- the count of a year from -10000
unfoldable pub year_count : Bool → ℤ → ℕ
year_count true y = lift y 10000
year_count false (pos n) = n + 10000
year_count false (negsuc n) = 10000 - n

pub count_at : (z : Bool) (n : ℕ) → year_count z (year_at z n) ≡ n
unfolding year_count
count_at true n = lift_sub n 10000
count_at false n = by_year (λ (y : ℤ). year_count false y ≡ n) n (λ h. omega arith) (λ h. omega arith)

module _ (c : Calendar) (x : Date) where
  unfoldable pub day_number_known : in_years x.year ≡ true → exists c x ≡ true → Known (day_number c x)
  unfolding cutover_after last_kept_after times year_count count before_place lag cutover_day row_epoch kind_at year_start month_start month_days
  day_number_known h g =
      let z = has_year_zero c in
      let y = year_count z x.year in
      let k = count_of z x.year h (valid_year c x (valid_of c x g)) in
      let is : year_at z y ≡ x.year = ap (year_at z) (ap (year_count z) (sym k.is) ∙ count_at z k.count) ∙ k.is in
      let e : date (year_at z y) x.month x.day ≡ x = date_eq is refl refl in
      let n = sub_ℕ (count (rule_at (counts c) y x.month x.day) (day_place y x.month x.day)) (epoch_day c + lag_at (counts c) y x.month x.day) in
      record { value = n; is = number_is c x n h (numbered c y x.month x.day (ap (exists c) e ∙ g) ∙ e) }

  -- the day number of a date with what stands beside it, or its refusal
  unfoldable pub day_with_known : (rest : Bool) → Known (day_with rest c x)
  unfolding cutover_after last_kept_after times day_with refusal_with fault_with exists exists_by dropped dropped_by earlier has_day kind month_days day_number_known
  day_with_known rest =
      chosen (itself (rest && (in_years x.year && exists c x)))
      (λ h. let w = and_parts (in_years x.year) (exists c x) (and_parts rest (in_years x.year && exists c x) h).1 in applied Ok (day_number_known w.0 w.1))
      (Err (refusal_with rest c x))
