-- A plain calendar by its next-day rule: a rule of years, with or without a year 0 (document 01, "Calendars").
-- An integer is `pos n`, the number n, or `negsuc n`, the number -(n + 1). Months and days of a date count from 1.
use Rattle.std.specs.Prelude.{Bool, true, false, not, ◌&&◌, ◌||◌, cond, List, [], ◌∷◌, ℕ, zero, suc, ◌+◌, ◌-◌, ◌%◌, leb, ltb, eqb, get_or, ℤ, pos, negsuc, nat_abs}
use Rattle.std.proofs.Math.IntN.{suc_ℤ, pred_ℤ}
use Rattle.calendar.specs.declared.Date.{Date}
use Rattle.calendar.specs.declared.rule.Rule.{Rule}

pub record Plain : Type 0 where
  pub rule : Rule
  pub zero : Bool

abbrev pub plain : Rule → Bool → Plain
plain r z = record { rule = r; zero = z }

-- ---- months

-- month lengths by kind of year: 0 common, 1 leap, 2 of 360 days
abbrev pub lengths : List (List ℕ)
lengths =
    (31 ∷ 28 ∷ 31 ∷ 30 ∷ 31 ∷ 30 ∷ 31 ∷ 31 ∷ 30 ∷ 31 ∷ 30 ∷ 31 ∷ [])
    ∷ (31 ∷ 29 ∷ 31 ∷ 30 ∷ 31 ∷ 30 ∷ 31 ∷ 31 ∷ 30 ∷ 31 ∷ 30 ∷ 31 ∷ [])
    ∷ (30 ∷ 30 ∷ 30 ∷ 30 ∷ 30 ∷ 30 ∷ 30 ∷ 30 ∷ 30 ∷ 30 ∷ 30 ∷ 30 ∷ [])
    ∷ []

-- the length of the month at place m of the table's line, from 0, in a year of kind k
unfoldable pub month_days : ℕ → ℕ → ℕ
month_days k m = get_or (get_or lengths k []) m 0

-- ---- leap years; k divides a year where it divides its absolute value

abbrev pub divides : ℕ → ℤ → Bool
divides k y = eqb (nat_abs y % k) 0

abbrev pub leap_gregorian : ℤ → Bool
leap_gregorian y = (divides 4 y && not (divides 100 y)) || divides 400 y

abbrev pub leap_julian : ℤ → Bool
leap_julian y = divides 4 y

abbrev pub of_leap : Bool → ℕ
of_leap b = cond b 1 0

-- the kind of a year by its rule
abbrev pub kind_by : Rule → ℤ → ℕ
kind_by Rule.Gregorian y = of_leap (leap_gregorian y)
kind_by Rule.Julian y = of_leap (leap_julian y)
kind_by Rule.Common y = 0
kind_by Rule.Leap y = 1
kind_by Rule.Thirty y = 2

-- the leap rule takes years as if there were a year 0: without one, -1 stands for 0, -2 for -1, and so on
abbrev pub counted : Bool → ℤ → ℤ
counted true y = y
counted false (pos n) = pos n
counted false (negsuc n) = suc_ℤ (negsuc n)

unfoldable pub kind : Plain → ℤ → ℕ
kind p y = kind_by p.rule (counted p.zero y)

-- the last day of month m of year y
abbrev pub last_day : Plain → ℤ → ℕ → ℕ
last_day p y m = month_days (kind p y) (m - 1)

-- ---- the year after and the year before

abbrev pub skip_after : ℤ → ℤ
skip_after (pos n) = pos (suc n)
skip_after (negsuc zero) = pos 1
skip_after (negsuc (suc n)) = negsuc n

abbrev pub skip_before : ℤ → ℤ
skip_before (pos zero) = negsuc zero
skip_before (pos (suc zero)) = negsuc zero
skip_before (pos (suc (suc n))) = pos (suc n)
skip_before (negsuc n) = negsuc (suc n)

-- without a year 0, year 1 comes after year -1
abbrev pub next_year : Bool → ℤ → ℤ
next_year z y = cond z (suc_ℤ y) (skip_after y)

abbrev pub prev_year : Bool → ℤ → ℤ
prev_year z y = cond z (pred_ℤ y) (skip_before y)

abbrev pub is_year : ℕ → ℤ → Bool
is_year y (pos n) = eqb n y
is_year y (negsuc n) = false

-- year 0, where there is none
abbrev pub lacks_year : Bool → ℤ → Bool
lacks_year z y = not z && is_year 0 y

-- ---- the next day, and the day before

abbrev pub date : ℤ → ℕ → ℕ → Date
date y m d = record { year = y; month = m; day = d }

unfoldable pub times : {A : Type 0} → ℕ → (A → A) → A → A
times zero f x = x
times (suc n) f x = f (times n f x)

-- the next day of the month, the first of the next month, or of the next year
unfoldable pub day_after : Plain → Date → Date
day_after p x =
    cond (ltb x.day (last_day p x.year x.month))
    (date x.year x.month (x.day + 1))
    (cond (ltb x.month 12)
    (date x.year (x.month + 1) 1)
    (date (next_year p.zero x.year) 1 1))

-- `day_after` undone
unfoldable pub day_before : Plain → Date → Date
day_before p x =
    cond (ltb 1 x.day)
    (date x.year x.month (x.day - 1))
    (cond (ltb 1 x.month)
    (date x.year (x.month - 1) (last_day p x.year (x.month - 1)))
    (date (prev_year p.zero x.year) 12 (last_day p (prev_year p.zero x.year) 12)))

-- which dates there are
unfoldable pub has_day : Plain → Date → Bool
has_day p x =
    ((leb 1 x.month && leb x.month 12) && (leb 1 x.day && leb x.day (last_day p x.year x.month))) && not (lacks_year p.zero x.year)
