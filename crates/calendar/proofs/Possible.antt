-- What no date of any calendar has, months but 1 to 12 and days but 1 to 31; and the days that were dropped, which `standard` lists.
use mathlib.Core.Path.{◌≡◌, refl, ◌∙◌}
use mathlib.Core.Bool.{true, false, ◌&&◌}
use Prim.Native.Nat.{ℕ}
use native.Mathlib.Omega.{arith}
use lib.Dec.{leb}
use lib.IntN.{pos}
use borrow.Author.Tests.{leb-true}
use Rattle.signed.proofs.Tests.{to_false, both, and_parts}
use Rattle.calendar.specs.Plain.{plain, has_day, kind, month_days}
use Rattle.calendar.specs.Calendar.{CalendarRow, date, days_used, row_of, early_part, exists, dropped_by, dropped}
use Rattle.calendar.specs.Cutover.{julian, dropped_dates, is_listed}
use Rattle.calendar.specs.Order.{earlier}
use Rattle.calendar.specs.Answers.{is_month, is_month_day}
use Rattle.calendar.specs.declared.Calendar.{Calendar}
use Rattle.calendar.specs.declared.Calendar.TheVariants.{Standard, ProlepticGregorian, Julian, NoLeap, AllLeap, Day360}
use Rattle.calendar.specs.declared.Date.{Date}
use Rattle.calendar.specs.declared.rule.Rule.{Rule}
use Rattle.calendar.proofs.Ordered.{Before, before_of, earlier_of, in_month}
use Rattle.calendar.proofs.Plain.{exists_of}
use Rattle.calendar.proofs.Cutovers.{used, dropped_in, dropped_listed, listed_between}
use Rattle.calendar.proofs.Rows.{plain_exists}
use Rattle.calendar.proofs.Existing.{exists_possible}
use Rattle.calendar.proofs.Months.{first_there}

-- ---- months and days

module _ (c : Calendar) (x : Date) (h : exists c x ≡ true) where
  pub month_of : is_month x.month ≡ true
  month_of = (and_parts (is_month x.month) (is_month_day x.day) (exists_possible c x h)).0

  pub day_of_lem : is_month_day x.day ≡ true
  day_of_lem = (and_parts (is_month x.month) (is_month_day x.day) (exists_possible c x h)).1

-- the first of each month of 2000 exists, and each day of its January
pub month_had : (m : ℕ) → is_month m ≡ true → exists NoLeap (date (pos 2000) m 1) ≡ true
month_had m h =
    let w = and_parts (leb 1 m) (leb m 12) h in
    first_there NoLeap (pos 2000) m (record { year = refl; low = leb-true 1 m w.0; high = leb-true m 12 w.1 })

pub day_had : (d : ℕ) → is_month_day d ≡ true → exists NoLeap (date (pos 2000) 1 d) ≡ true
unfolding exists month_days kind
day_had d h =
    let w = and_parts (leb 1 d) (leb d 31) h in
    plain_exists Rule.Common true (date (pos 2000) 1 d)
    ∙ exists_of (plain Rule.Common true) (date (pos 2000) 1 d) (record { month_low = omega arith; month_high = omega arith; day_low = leb-true 1 d w.0; day_high = leb-true d 31 w.1; there = refl })

-- ---- the days that were dropped

-- between the last day kept and the first of the late part
between : (r : CalendarRow) (x : Date) → dropped_by r x ≡ true → Before r.last x × Before x r.first
unfolding dropped_by
between r x h =
    let w = and_parts (earlier x r.first) (has_day (early_part r) x && earlier r.last x) h in
    (before_of r.last x (and_parts (has_day (early_part r) x) (earlier r.last x) w.1).1, before_of x r.first w.0)

early_has : (r : CalendarRow) (x : Date) → dropped_by r x ≡ true → has_day (early_part r) x ≡ true
unfolding dropped_by
early_has r x h = (and_parts (has_day (early_part r) x) (earlier r.last x) (and_parts (earlier x r.first) (has_day (early_part r) x && earlier r.last x) h).1).0

-- no date lies between two days that follow each other
none_between : (x : Date) → Before (date (pos 1582) 10 14) x × Before x (date (pos 1582) 10 15) → ⊥
none_between x (a, b) = let w = in_month (pos 1582) 10 14 15 x a b in omega (arith, w.after, w.before)

pub dropped_only : (c : Calendar) (x : Date) → dropped c x ≡ true → (k : ℕ) × (c ≡ Standard k) × (is_listed x (dropped_dates (days_used k)) ≡ true)
unfolding dropped
dropped_only (Standard k) x h =
    let u = used k in
    let w = between (row_of (Standard k)) x h in
    (k, refl, dropped_listed (days_used k) u.fits u.most x (dropped_in (days_used k) u.fits x (early_has (row_of (Standard k)) x h) w.0 w.1))
dropped_only ProlepticGregorian x h = absurd (none_between x (between (row_of ProlepticGregorian) x h))
dropped_only Julian x h = absurd (none_between x (between (row_of Julian) x h))
dropped_only NoLeap x h = absurd (none_between x (between (row_of NoLeap) x h))
dropped_only AllLeap x h = absurd (none_between x (between (row_of AllLeap) x h))
dropped_only Day360 x h = absurd (none_between x (between (row_of Day360) x h))

pub never_dropped : (x : Date) → dropped ProlepticGregorian x ≡ false
unfolding dropped
never_dropped x = to_false (dropped ProlepticGregorian x) (λ h. none_between x (between (row_of ProlepticGregorian) x h))

pub dropped_all : (k : ℕ) (x : Date) → is_listed x (dropped_dates (days_used k)) ≡ true → dropped (Standard k) x ≡ true
unfolding dropped dropped_by
dropped_all k x h =
    let r = row_of (Standard k) in
    let w = listed_between (days_used k) (used k).fits (used k).most x h in
    both (earlier x r.first) (has_day julian x && earlier r.last x) (earlier_of x r.first w.2) (both (has_day julian x) (earlier r.last x) w.0 (earlier_of r.last x w.1))
