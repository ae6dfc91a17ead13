-- What is demanded of the days that the day of the month is stepped back, by months and years in calendar mode: document 02, CR 7, with the
-- bound that CR 8 restates.
-- proofs/Back.antt proves it of every offset that is read.
use Rattle.std.specs.Prelude.{◌≡◌, false, ℕ, ◌+◌, ◌<◌, ◌≤◌}
use Rattle.calendar.specs.Calendar.{date, exists, days_used, row_of}
use Rattle.calendar.specs.Cutover.{most_back}
use Rattle.calendar.specs.declared.Calendar.{Calendar}
use Rattle.calendar.specs.declared.Calendar.TheVariants.{Standard}
use Rattle.calendar.specs.declared.Date.{Date}
use Rattle.axis_types.specs.declared.Period.{Period}

-- the periods that move the date in calendar mode
pub data MonthsOrYears : Period → Type 0 where
  months : MonthsOrYears Period.Month
  years : MonthsOrYears Period.Year

-- the month of the dropped dates, which is that of the last day that `standard` kept; its cutover lies k days after 1582-10-15
pub record CutoverMonth (c : Calendar) (k : ℕ) (d : Date) : Type 0 where
  pub calendar : c ≡ Standard k
  pub year : d.year ≡ (row_of c).last.year
  pub month : d.month ≡ (row_of c).last.month

-- n days back to the date that is given, where `asked` has the day of the month that is asked for
pub record MovedBack (c : Calendar) (asked given : Date) (n : ℕ) : Type 0 where
  -- the asked day less the given day
  pub difference : n + given.day ≡ asked.day
  -- of the days that are passed none exists
  pub passed : (d : ℕ) → given.day < d → d ≤ asked.day → exists c (date given.year given.month d) ≡ false
  -- never above 3, save in the month of the dropped dates; there never above their number, or above 31 less the last day kept where the
  -- cutover is the first of a month
  pub few : ((k : ℕ) → CutoverMonth c k given → ⊥) → n ≤ 3
  pub most : (k : ℕ) → CutoverMonth c k given → n ≤ most_back (days_used k)
