-- The cutovers of `standard`: document 02, CR 8. A cutover is the first Gregorian date, and every one is counted from that of 1582.
use Rattle.std.specs.Prelude.{Bool, true, false, not, ◌&&◌, ◌||◌, cond, List, [], ◌∷◌, ℕ, zero, suc, ◌-◌, eqb, length, pos}
use Rattle.calendar.specs.Plain.{Plain, plain, date, times, day_after, has_day}
use Rattle.calendar.specs.Order.{earlier, same_year, same_date}
use Rattle.calendar.specs.declared.Date.{Date}
use Rattle.calendar.specs.declared.rule.Rule.{Rule}

-- the two calendars that a cutover joins
abbrev pub julian : Plain
julian = plain Rule.Julian false

abbrev pub gregorian : Plain
gregorian = plain Rule.Gregorian false

-- the first and the last date that can be a cutover; the first is the default
abbrev pub first_cutover : Date
first_cutover = date (pos 1582) 10 15

abbrev pub last_cutover : Date
last_cutover = date (pos 1923) 12 31

-- ---- the cutover k Gregorian days after 1582-10-15

unfoldable pub cutover_after : ℕ → Date
cutover_after k = times k (day_after gregorian) first_cutover

-- the last day kept: as many Julian days after 1582-10-04
unfoldable pub last_kept_after : ℕ → Date
last_kept_after k = times k (day_after julian) (date (pos 1582) 10 4)

abbrev pub list_if : Bool → List Date → List Date
list_if true l = l
list_if false l = []

-- the dates of a plain calendar from a on that come before x, at most n of them
unfoldable pub dates_to : Plain → Date → ℕ → Date → List Date
dates_to p x zero a = []
dates_to p x (suc n) a = list_if (earlier a x) (a ∷ dates_to p x n (day_after p a))

-- the dropped dates: the Julian calendar's, after the last day kept and before the cutover as it is written. They are at most 13
unfoldable pub dropped_dates : ℕ → List Date
dropped_dates k = dates_to julian (cutover_after k) 31 (day_after julian (last_kept_after k))

unfoldable pub every_date : (Date → Bool) → List Date → Bool
every_date p [] = true
every_date p (x ∷ l) = p x && every_date p l

abbrev pub same_month : Date → Date → Bool
same_month x y = same_year x.year y.year && eqb x.month y.month

-- dates of one month
abbrev pub one_month : List Date → Bool
one_month [] = true
one_month (x ∷ l) = every_date (same_month x) l

-- and none of them its first day
abbrev pub no_first : List Date → Bool
no_first l = every_date (λ x. not (eqb x.day 1)) l

-- which cutovers are allowed
unfoldable pub allowed_after : ℕ → Bool
allowed_after k = not (earlier last_cutover (cutover_after k)) && (one_month (dropped_dates k) && no_first (dropped_dates k))

-- a date of a list
unfoldable pub is_listed : Date → List Date → Bool
is_listed x [] = false
is_listed x (y ∷ l) = same_date x y || is_listed x l

-- the days by which a day of the dropped dates' month is stepped back at most (CR 7): their number; or, where the cutover is the first of the
-- next month, the days from the last one kept to the 31st
unfoldable pub most_back : ℕ → ℕ
most_back k = cond (eqb (cutover_after k).day 1) (31 - (last_kept_after k).day) (length (dropped_dates k))

-- ---- a cutover as a date

-- the days from a to x by the Gregorian calendar, if there are fewer than n
unfoldable pub days_to : Date → ℕ → Date → ℕ
days_to x zero a = zero
days_to x (suc n) a = cond (same_date a x) zero (suc (days_to x n (day_after gregorian a)))

-- the days from 1582-10-15 to a date up to 1923-12-31
unfoldable pub cutover_days : Date → ℕ
cutover_days x = days_to x 150000 first_cutover

-- which dates are allowed: a Gregorian date from 1582-10-15 to 1923-12-31 whose dropped dates lie in one month and do not hold its first day
unfoldable pub allowed : Date → Bool
allowed x = has_day gregorian x && (not (earlier x first_cutover) && allowed_after (cutover_days x))
