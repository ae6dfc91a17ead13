-- Closed forms, which only inner functions compute; no promise to a caller of the library rests on them. proofs/ joins them to the next-day rule.
-- All over natural numbers: year y of a place is counted from year -10000, a month and a day from 0.
use Rattle.std.specs.Prelude.{Bool, true, false, not, ◌&&◌, ◌||◌, cond, ℕ, zero, suc, ◌+◌, ◌-◌, ◌*◌, ◌/◌, ◌%◌, ◌<◌, ◌^◌, leb, ltb, eqb, ℤ, pos, ◌≡◌, Option, Some, None}
use Rattle.std.proofs.Math.IntN.{sub_ℕ}
use Rattle.signed.specs.Bias.{lift, unbiased}
use Rattle.calendar.specs.Plain.{month_days, of_leap, date}
use Rattle.calendar.specs.Calendar.{CalendarRow, row_of, has_year_zero, exists, date_of, in_years}
use Rattle.calendar.specs.declared.Calendar.{Calendar}
use Rattle.calendar.specs.declared.Calendar.TheVariants.{ProlepticGregorian}
use Rattle.calendar.specs.declared.Date.{Date}
use Rattle.calendar.specs.declared.rule.Rule.{Rule}
use Rattle.calendar.specs.declared.rule.YearDay.{YearDay}
use Rattle.calendar.specs.declared.place.Place.{Place}
use Rattle.calendar.specs.declared.row.Parts.{Parts}

-- ---- years

abbrev pub leap : ℕ → Bool
leap y = (eqb (y % 4) 0 && not (eqb (y % 100) 0)) || eqb (y % 400) 0

-- the kind of year y
unfoldable pub kind_at : Rule → ℕ → ℕ
kind_at Rule.Gregorian y = of_leap (leap y)
kind_at Rule.Julian y = of_leap (eqb (y % 4) 0)
kind_at Rule.Common y = 0
kind_at Rule.Leap y = 1
kind_at Rule.Thirty y = 2

-- the days before year y
unfoldable pub year_start : Rule → ℕ → ℕ
year_start Rule.Gregorian y = 365 * y + (y + 3) / 4 + (y + 399) / 400 - (y + 99) / 100
year_start Rule.Julian y = 365 * y + (y + 3) / 4
year_start Rule.Common y = 365 * y
year_start Rule.Leap y = 366 * y
year_start Rule.Thirty y = 360 * y

-- day n of the Gregorian rule by the Julian one, which has a day more in three of four century years
abbrev pub julian_count : ℕ → ℕ
julian_count n = n + 3 * ((4 * n + 144636) / 146097) / 4

abbrev pub day_of_year : ℕ → ℕ → YearDay
day_of_year y d = record { y = y; d = d }

-- day n within its year
abbrev pub year_day : Rule → ℕ → YearDay
year_day Rule.Gregorian n = day_of_year (4 * julian_count n / 1461) (4 * julian_count n % 1461 / 4)
year_day Rule.Julian n = day_of_year (4 * n / 1461) (4 * n % 1461 / 4)
year_day Rule.Common n = day_of_year (n / 365) (n % 365)
year_day Rule.Leap n = day_of_year (n / 366) (n % 366)
year_day Rule.Thirty n = day_of_year (n / 360) (n % 360)

-- ---- months

-- the days before month m of a year of kind k
unfoldable pub month_start : ℕ → ℕ → ℕ
month_start k zero = 0
month_start k (suc m) = month_start k m + month_days k m

-- ---- places

abbrev pub place_at : ℕ → ℕ → ℕ → Place
place_at y m i = record { y = y; m = m; i = i }

-- the days before a place
unfoldable pub count : Rule → Place → ℕ
count r p = year_start r p.y + month_start (kind_at r p.y) p.m + p.i

-- the month of day d of a year that begins with March, from March on, and its day of that month
abbrev pub month_from_march : ℕ → ℕ
month_from_march d = (5 * d + 2) / 153

abbrev pub day_in_month : ℕ → ℕ
day_in_month d = d - (153 * month_from_march d + 2) / 5

-- March to December, 306 days, lie in the year before that of January and February
abbrev pub years_back : ℕ → ℕ
years_back d = cond (ltb d 306) 1 0

-- the place of a day of the year that begins with March and ends with February of year y
abbrev pub from_march : YearDay → Place
from_march t = place_at (t.y - years_back t.d) (month_from_march t.d + 12 * years_back t.d - 10) (day_in_month t.d)

-- the place of a day of a year of 360 days
abbrev pub of_thirty : YearDay → Place
of_thirty t = place_at t.y (t.d / 30) (t.d % 30)

-- the place of day n
abbrev pub place_of : Rule → ℕ → Place
place_of Rule.Gregorian n = from_march (year_day Rule.Gregorian (n + 306))
place_of Rule.Julian n = from_march (year_day Rule.Julian (n + 306))
place_of Rule.Common n = from_march (year_day Rule.Common (n + 306))
place_of Rule.Leap n = from_march (year_day Rule.Leap (n + 306))
place_of Rule.Thirty n = of_thirty (year_day Rule.Thirty n)

-- the place that a number stands for
abbrev pub unpacked_place : ℕ → Place
unpacked_place w = place_at (w / 512) (w / 32 % 16) (w % 32)

-- ---- places as dates

-- the year that year y of a place is called, with or without a year 0
abbrev pub year_at : Bool → ℕ → ℤ
year_at z y = sub_ℕ y (cond (not z && leb y 10000) 10001 10000)

abbrev pub label : Bool → Place → Date
label z p = date (year_at z p.y) (p.m + 1) (p.i + 1)

-- the count from -10000 of a year, where the calendar has the year
abbrev pub Counted : Bool → ℤ → Option ℕ → Type 0
Counted z y (Some n) = year_at z n ≡ y
Counted z y None = (z ≡ false) × (y ≡ pos 0)

-- the day number of a date of the years -9999 to 9999 that exists, or that there is none
abbrev pub Found : Calendar → Date → Option ℤ → Type 0
Found c x (Some n) = ((in_years x.year && exists c x) ≡ true) × (date_of c n ≡ x)
Found c x None = (in_years x.year && exists c x) ≡ false

-- the day number of a date of `proleptic_gregorian`, or that none from 0 to 2^63 - 1 has the date
abbrev pub IsDaySince : Date → Option ℕ → Type 0
IsDaySince x (Some n) = date_of ProlepticGregorian (pos n) ≡ x
IsDaySince x None = (n : ℕ) → n < 2 ^ 63 → date_of ProlepticGregorian (pos n) ≡ x → ⊥

-- the tests of a date of year y by its month and day, and its place

abbrev pub day_place : ℕ → ℕ → ℕ → Place
day_place y m d = place_at y (m - 1) (d - 1)

-- a rule of years has the date
unfoldable pub has_day_at : Rule → ℕ → ℕ → ℕ → Bool
has_day_at r y m d = (leb 1 m && leb m 12) && (leb 1 d && leb d (month_days (kind_at r y) (m - 1)))

-- the date comes before a place, as it is written
unfoldable pub before_place : ℕ → ℕ → ℕ → Place → Bool
before_place y m d p = ltb y p.y || (eqb y p.y && (ltb m (p.m + 1) || (eqb m (p.m + 1) && ltb d (p.i + 1))))

-- ---- rows

-- a row whose cutover is counted: the early part ends before the place `until`, which is that after its last day as it is written
pub record CountedRow : Type 0 where
  pub zero : Bool
  pub early : Rule
  pub late : Rule
  pub until : Place
  pub from : Place

abbrev pub counted_row : CalendarRow → CountedRow
counted_row r = record { zero = r.zero; early = r.early; late = r.late; until = place_at (lift r.last.year 10000) (r.last.month - 1) r.last.day; from = day_place (lift r.first.year 10000) r.first.month r.first.day }

-- its two rules, and whether it has a year 0
abbrev pub parts_of : CountedRow → Parts
parts_of k = record { zero = k.zero; early = k.early; late = k.late }

-- the two parts of a calendar that is not mixed meet at one place
abbrev pub mixed : CountedRow → Bool
mixed k = not (eqb k.until.y k.from.y && (eqb k.until.m k.from.m && eqb k.until.i k.from.i))

-- the cutover's day, by the late rule
unfoldable pub cutover_day : CountedRow → ℕ
cutover_day k = count k.late k.from

-- the days by which the late rule lags behind the early one
unfoldable pub lag : CountedRow → ℕ
lag k = count k.early k.until - cutover_day k

-- the first day of the late part; in a calendar that is not mixed that is all of it
abbrev pub late_from : CountedRow → ℕ
late_from k = cond (mixed k) (cutover_day k) 0

-- year -9999 by its count
abbrev pub first_year : Bool → ℕ
first_year z = cond z 1 2

-- a date belongs to the early part, if it exists at all, where the late rule counts it before the late one
abbrev pub is_early : CountedRow → ℕ → ℕ → ℕ → Bool
is_early k y m d = ltb (count k.late (day_place y m d)) (late_from k)

-- the rule of the part that a date belongs to, and the days by which the late rule lags behind it
abbrev pub rule_at : CountedRow → ℕ → ℕ → ℕ → Rule
rule_at k y m d = cond (is_early k y m d) k.early k.late

abbrev pub lag_at : CountedRow → ℕ → ℕ → ℕ → ℕ
lag_at k y m d = cond (is_early k y m d) (lag k) 0

-- the rule of the part that day n belongs to, and the day's count by that rule
abbrev pub rule_of_day : CountedRow → ℕ → Rule
rule_of_day k n = cond (ltb n (late_from k)) k.early k.late

abbrev pub day_by_rule : CountedRow → ℕ → ℕ
day_by_rule k n = cond (ltb n (late_from k)) (n + lag k) n

-- ---- a calendar's numbers, in days from place 0 0 0 of its late rule

-- 1970-01-01
unfoldable pub row_epoch : CountedRow → ℕ
row_epoch k = year_start k.late 11970

-- the first day of year -9999
unfoldable pub row_start : CountedRow → ℕ
row_start k = year_start k.early (first_year k.zero) - lag k

-- the first day of year 10000
unfoldable pub row_end : CountedRow → ℕ
row_end k = year_start k.late 20000

abbrev pub counts : Calendar → CountedRow
counts c = counted_row (row_of c)

abbrev pub epoch_day : Calendar → ℕ
epoch_day c = row_epoch (counts c)

abbrev pub first_day : Calendar → ℕ
first_day c = row_start (counts c)

abbrev pub end_day : Calendar → ℕ
end_day c = row_end (counts c)

-- the day number of a place of the early part plus 2^63; none where the early rule does not have it, or has it after the last day kept
unfoldable pub early_day : CountedRow → Place → Option ℕ
early_day k p =
    let n = count k.early p - lag k in
    cond (ltb p.i (month_days (kind_at k.early p.y) p.m) && ltb n (late_from k)) (Some (n + (9223372036854775808 - row_epoch k))) None

-- the day number of a date plus 2^63; none where the date does not exist
abbrev pub DayOrNone : Calendar → Date → Option ℕ → Type 0
DayOrNone c x (Some n) = (exists c x ≡ true) × (date_of c (unbiased n) ≡ x)
DayOrNone c x None = exists c x ≡ false

-- the number w stands for the place of day z
pub record PlaceOfDay (c : Calendar) (z : ℤ) (w : ℕ) : Type 0 where
  pub small : w < 2 ^ 40
  pub dated : label (has_year_zero c) (unpacked_place w) ≡ date_of c z
