-- `proleptic_gregorian` in any year: which dates exist, and the day number of each from 1970-01-01 on.
use mathlib.Core.Path.{◌≡◌, refl, sym, ap, ◌∙◌}
use mathlib.Core.Bool.{Bool, true, ◌&&◌}
use Prim.Native.Nat.{ℕ, ◌+◌, ◌-◌, ◌%◌, ◌<◌, ◌≤◌, ◌^◌}
use native.Mathlib.Omega.{arith}
use lib.Dec.{leb}
use lib.IntN.{ℤ, pos, sub_ℕ}
use Rattle.signed.specs.Bias.{unbiased}
use Rattle.signed.proofs.Differences.{sub_high, sub_inj, same_diff}
use Rattle.calendar.specs.Plain.{leap_gregorian, of_leap, month_days, kind, has_day}
use Rattle.calendar.specs.Calendar.{date, exists, date_by, date_of, row_of}
use Rattle.calendar.specs.Closed.{kind_at, year_start, month_start, year_at, day_place, count, row_epoch, epoch_day}
use Rattle.calendar.specs.declared.Calendar.TheVariants.{ProlepticGregorian}
use Rattle.calendar.specs.declared.Date.{Date}
use Rattle.calendar.specs.declared.rule.Rule.{Rule}
use Rattle.calendar.proofs.Years.{year_least}
use Rattle.calendar.proofs.Places.{at, at_proper, at_count, within_year, grows_to, year_grows, year_ge}
use Rattle.calendar.proofs.Labels.{gregorian_leap}
use Rattle.calendar.proofs.Days.{day_date, dated_late}
use Rattle.calendar.proofs.Rows.{cutover, plain_exists}
use Rattle.calendar.proofs.Range.{small}
use Rattle.calendar.proofs.Counting.{late_there, gregorian_has}
use Rattle.calendar.proofs.Months.{first_there}

-- ---- which dates exist

-- years that are both leap or both not have the same dates
by_leap : (y z : ℤ) (m d : ℕ) → leap_gregorian y ≡ leap_gregorian z → exists ProlepticGregorian (date y m d) ≡ exists ProlepticGregorian (date z m d)
unfolding exists has_day kind
by_leap y z m d e =
    plain_exists Rule.Gregorian true (date y m d)
    ∙ (ap (λ (b : Bool). ((leb 1 m && leb m 12) && (leb 1 d && leb d (month_days (of_leap b) (m - 1)))) && true) e
    ∙ sym (plain_exists Rule.Gregorian true (date z m d)))

-- the year k - 2^63 has those of a year from 0 to 399, counted from -10000
pub same_remainder : (k m d : ℕ) → exists ProlepticGregorian (date (year_at true ((k % 400 + 192) % 400)) m d) ≡ exists ProlepticGregorian (date (unbiased k) m d)
same_remainder k m d =
    let y = (k % 400 + 192) % 400 in
    by_leap (year_at true y) (unbiased k) m d (gregorian_leap y 10000 y (omega arith) ∙ sym (gregorian_leap k 9223372036854775808 y (omega arith)))

-- ---- the day numbers from 1970-01-01 on

-- the year k - 2^63 of a day number below 2^63 lies from 1970 to 2^55 - 10001
pub year_of_day : (n k : ℕ) → n < 2 ^ 63 → (date_of ProlepticGregorian (pos n)).year ≡ unbiased k → (9223372036854775808 + 1970 ≤ k) × (k < 9223372036854775808 + 2 ^ 55 - 10000)
unfolding date_of day_date row_epoch
year_of_day n k h f =
    let e = epoch_day ProlepticGregorian in
    let r = Rule.Gregorian in
    let p = at r (n + e) in
    let number : pos n ≡ sub_ℕ (n + e) e = sym (sub_high (n + e) e (omega arith) ∙ ap pos (omega arith)) in
    let day = ap (date_by (row_of ProlepticGregorian)) number ∙ dated_late (row_of ProlepticGregorian) (cutover ProlepticGregorian) (n + e) (omega arith) in
    let name : year_at true p.y ≡ unbiased (p.y + 9223372036854765808) = same_diff p.y 10000 (p.y + 9223372036854765808) 9223372036854775808 (omega arith) in
    let is = sub_inj k (p.y + 9223372036854765808) 9223372036854775808 (sym f ∙ (ap (λ (x : Date). x.year) day ∙ name)) in (
      omega (arith, is, year_ge r (n + e) 11970 (omega arith)),
      omega (arith, is, (within_year r p (at_proper r (n + e))).0, at_count r (n + e), year_least r p.y, small ProlepticGregorian),
    )

module _ (y m d : ℕ) (h : 11970 ≤ y) where
  pub from_1970 : epoch_day ProlepticGregorian ≤ count Rule.Gregorian (day_place y m d)
  unfolding count row_epoch
  from_1970 = omega (arith, grows_to (year_start Rule.Gregorian) (year_grows Rule.Gregorian) 11970 y h)

  pub day_number_lem : exists ProlepticGregorian (date (year_at true y) m d) ≡ true → date_of ProlepticGregorian (pos (count Rule.Gregorian (day_place y m d) - epoch_day ProlepticGregorian)) ≡ date (year_at true y) m d
  unfolding date_of
  day_number_lem g =
      let n = count Rule.Gregorian (day_place y m d) in
      let e = epoch_day ProlepticGregorian in
      ap (date_of ProlepticGregorian) (sym (sub_high n e from_1970)) ∙ (late_there (row_of ProlepticGregorian) (cutover ProlepticGregorian) y m d (sym (gregorian_has y m d) ∙ g) (omega arith)).dated

-- the first day of 1972, and of 2000
pub day_730 : date_of ProlepticGregorian (pos 730) ≡ date (pos 1972) 1 1
unfolding count year_start month_start kind_at row_epoch
day_730 = day_number_lem 11972 1 1 (omega arith) (first_there ProlepticGregorian (pos 1972) 1 (record { year = refl; low = omega arith; high = omega arith }))

pub day_10957 : date_of ProlepticGregorian (pos 10957) ≡ date (pos 2000) 1 1
unfolding count year_start month_start kind_at row_epoch
day_10957 = day_number_lem 12000 1 1 (omega arith) (first_there ProlepticGregorian (pos 2000) 1 (record { year = refl; low = omega arith; high = omega arith }))
