-- The six calendars by their next-day rule: document 01, "Calendars", and for the years of `julian` document 02, CR 2. Theorems tie the
-- day before, and which dates exist, to `next`.
-- A calendar is a row: two plain calendars, of one of which it keeps the days through `last`, and of the other those from `first` on.
use Rattle.std.specs.Prelude.{◌≡◌, Bool, true, false, not, ◌&&◌, cond, ℕ, zero, suc, ℤ, pos, negsuc}
use Rattle.std.specs.Int.Signed.{le_z}
use Rattle.calendar.specs.Plain.{Plain, plain, next_year, prev_year, day_after, day_before, has_day}
pub use Rattle.calendar.specs.Plain.{date}
unfoldable pub use Rattle.calendar.specs.Plain.{times}
use Rattle.calendar.specs.Cutover.{cutover_after, last_kept_after, allowed_after}
use Rattle.calendar.specs.Order.{earlier, same_date}
use Rattle.calendar.specs.declared.Calendar.{Calendar}
use Rattle.calendar.specs.declared.Calendar.TheVariants.{Standard, ProlepticGregorian, Julian, NoLeap, AllLeap, Day360}
use Rattle.calendar.specs.declared.Date.{Date}
use Rattle.calendar.specs.declared.rule.Rule.{Rule}

-- whether it has a year 0, the rules of years of its two parts, the last day of the early part and the first of the late one
pub record CalendarRow : Type 0 where
  pub zero : Bool
  pub early : Rule
  pub late : Rule
  pub last : Date
  pub first : Date

abbrev pub early_part : CalendarRow → Plain
early_part r = plain r.early r.zero

abbrev pub late_part : CalendarRow → Plain
late_part r = plain r.late r.zero

-- ---- the rows

-- a plain calendar, joined with itself at two days that follow each other in each of them
abbrev pub plain_row : Rule → Bool → CalendarRow
plain_row r z = record { zero = z; early = r; late = r; last = date (pos 1582) 10 14; first = date (pos 1582) 10 15 }

-- `standard` joins the Julian calendar, through the last day kept, to the Gregorian from the cutover on
abbrev pub standard_row : ℕ → CalendarRow
standard_row k = record { zero = false; early = Rule.Julian; late = Rule.Gregorian; last = last_kept_after k; first = cutover_after k }

-- it carries its cutover as the days after 1582-10-15. Those of a cutover that is not allowed are read as 0; no call of the library makes them
abbrev pub days_used : ℕ → ℕ
days_used zero = zero
days_used (suc k) = cond (allowed_after (suc k)) (suc k) zero

-- `standard` and `julian` lack the year 0 that all others have
abbrev pub row_of : Calendar → CalendarRow
row_of (Standard k) = standard_row (days_used k)
row_of ProlepticGregorian = plain_row Rule.Gregorian true
row_of Julian = plain_row Rule.Julian false
row_of NoLeap = plain_row Rule.Common true
row_of AllLeap = plain_row Rule.Leap true
row_of Day360 = plain_row Rule.Thirty true

-- ---- the next day, and the day before, of a row

-- `first` comes after `last`; else the next day of the part that the date belongs to by its order
unfoldable pub next_by : CalendarRow → Date → Date
next_by r x = cond (same_date x r.last) r.first (cond (earlier x r.first) (day_after (early_part r) x) (day_after (late_part r) x))

-- `next_by` undone
unfoldable pub prev_by : CalendarRow → Date → Date
prev_by r x = cond (same_date x r.first) r.last (cond (earlier x r.first) (day_before (early_part r) x) (day_before (late_part r) x))

-- a date exists where its part has it, and none after `last` and before `first`
unfoldable pub exists_by : CalendarRow → Date → Bool
exists_by r x = cond (earlier x r.first) (has_day (early_part r) x && not (earlier r.last x)) (has_day (late_part r) x)

-- the dates that the early part has there are dropped
unfoldable pub dropped_by : CalendarRow → Date → Bool
dropped_by r x = earlier x r.first && (has_day (early_part r) x && earlier r.last x)

-- ---- the date of a day number: so many steps of the next-day rule from 1970-01-01, or as many back

abbrev pub epoch : Date
epoch = date (pos 1970) 1 1

unfoldable pub date_by : CalendarRow → ℤ → Date
date_by r (pos n) = times n (next_by r) epoch
date_by r (negsuc n) = times (suc n) (prev_by r) epoch

-- ---- the same of the calendars

unfoldable pub next : Calendar → Date → Date
next c = next_by (row_of c)

unfoldable pub prev : Calendar → Date → Date
prev c = prev_by (row_of c)

unfoldable pub exists : Calendar → Date → Bool
exists c = exists_by (row_of c)

unfoldable pub dropped : Calendar → Date → Bool
dropped c = dropped_by (row_of c)

unfoldable pub date_of : Calendar → ℤ → Date
date_of c = date_by (row_of c)

-- y lies n days after x: n steps of the next-day rule lead from x to y, and of a negative number as many from y to x
abbrev pub DaysOn : Calendar → Date → ℤ → Date → Type 0
DaysOn c x (pos n) y = times n (next c) x ≡ y
DaysOn c x (negsuc n) y = times (suc n) (next c) y ≡ x

abbrev pub has_year_zero : Calendar → Bool
has_year_zero c = (row_of c).zero

unfoldable pub year_after : Calendar → ℤ → ℤ
year_after c y = next_year (has_year_zero c) y

unfoldable pub year_before : Calendar → ℤ → ℤ
year_before c y = prev_year (has_year_zero c) y

-- the years that are handed out: -9999 to 9999
abbrev pub in_years : ℤ → Bool
in_years y = le_z (negsuc 9998) y && le_z y (pos 9999)
