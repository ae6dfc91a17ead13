-- Closed forms, which only inner functions compute; no promise to a caller of the library rests on them. proofs/ joins them to the steps.
-- Years are counted from -10000 as in `calendar`, and months from January of that year.
use Rattle.std.specs.Prelude.{true, ◌≡◌, ℕ, ◌+◌, ◌-◌, ◌*◌, ◌/◌, ◌%◌}
use Rattle.calendar.specs.Calendar.{has_year_zero, exists, in_years}
use Rattle.calendar.specs.Closed.{year_at}
use Rattle.calendar.specs.declared.Calendar.{Calendar}
use Rattle.calendar.specs.declared.Date.{Date}
use Rattle.step.specs.Steps.{YearMonth, year_month}
use Rattle.step.specs.declared.Part.{Part}

-- month i
abbrev pub month_at : Calendar → ℕ → YearMonth
month_at c i = year_month (year_at (has_year_zero c) (i / 12)) (i % 12 + 1)

-- the count of month m of year y
abbrev pub month_count : ℕ → ℕ → ℕ
month_count y m = 12 * y + (m - 1)

-- the months that a step leads on: z steps lead from month i to month i + z * months_of part
abbrev pub months_of : Part → ℕ
months_of Part.Month = 1
months_of Part.Year = 12

-- a date that has a day number: one that exists in the years -9999 to 9999
pub record HasNumber (c : Calendar) (x : Date) : Type 0 where
  pub inside : in_years x.year ≡ true
  pub there : exists c x ≡ true

-- y is the year of such a date
pub record YearOf (c : Calendar) (x : Date) (y : ℕ) : Type 0 where
  pub date : HasNumber c x
  pub is : year_at (has_year_zero c) y ≡ x.year
