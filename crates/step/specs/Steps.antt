-- Steps by months and years in a calendar: document 01, "Periods", calendar mode.
-- The month or year number of a date moves by all the steps at once. Only then, where the month that is reached lacks the day, the day is
-- lowered one by one to one that it has. So no step rests on a date that another step has changed.
use Rattle.std.specs.Prelude.{cond, ℕ, zero, suc, ◌+◌, ◌-◌, ltb, ℤ, pos, negsuc}
use Rattle.calendar.specs.Calendar.{year_after, year_before, times, exists, date}
use Rattle.calendar.specs.declared.Calendar.{Calendar}
use Rattle.calendar.specs.declared.Date.{Date}
use Rattle.step.specs.declared.Part.{Part}

-- a month of a year; months count from 1
pub record YearMonth : Type 0 where
  pub year : ℤ
  pub month : ℕ

abbrev pub year_month : ℤ → ℕ → YearMonth
year_month y m = record { year = y; month = m }

-- the month of a date
abbrev pub year_month_of : Date → YearMonth
year_month_of x = year_month x.year x.month

-- ---- one step on, and one step back: by a month, or to the same month of another year. The calendar says which year comes after a year

unfoldable pub step_after : Part → Calendar → YearMonth → YearMonth
step_after Part.Month c p = cond (ltb p.month 12) (year_month p.year (p.month + 1)) (year_month (year_after c p.year) 1)
step_after Part.Year c p = year_month (year_after c p.year) p.month

unfoldable pub step_before : Part → Calendar → YearMonth → YearMonth
step_before Part.Month c p = cond (ltb 1 p.month) (year_month p.year (p.month - 1)) (year_month (year_before c p.year) 12)
step_before Part.Year c p = year_month (year_before c p.year) p.month

-- ---- z steps

-- that many times on, or for a negative z that many times back
unfoldable pub steps : {A : Type 0} → (A → A) → (A → A) → ℤ → A → A
steps on back (pos n) x = times n on x
steps on back (negsuc n) x = times (suc n) back x

abbrev pub month_reached : Part → Calendar → ℤ → YearMonth → YearMonth
month_reached part c z p = steps (step_after part c) (step_before part c) z p

-- ---- the day

-- day d of month m of year y, or the nearest day below it that exists; 0 where there is none
unfoldable pub down_to : Calendar → ℤ → ℕ → ℕ → ℕ
down_to c y m zero = 0
down_to c y m (suc d) = cond (exists c (date y m (suc d))) (suc d) (down_to c y m d)

-- how many days it lies below day d: the steps that `down_to` takes
unfoldable pub steps_down : Calendar → ℤ → ℕ → ℕ → ℕ
steps_down c y m zero = 0
steps_down c y m (suc d) = cond (exists c (date y m (suc d))) 0 (suc (steps_down c y m d))

abbrev pub date_down : Calendar → YearMonth → ℕ → Date
date_down c p d = date p.year p.month (down_to c p.year p.month d)

-- the date z steps after x
unfoldable pub date_after : Part → Calendar → ℤ → Date → Date
date_after part c z x = date_down c (month_reached part c z (year_month_of x)) x.day

-- the days that it is stepped back: document 02, CR 7
unfoldable pub days_back : Part → Calendar → ℤ → Date → ℕ
days_back part c z x = let p = month_reached part c z (year_month_of x) in steps_down c p.year p.month x.day
