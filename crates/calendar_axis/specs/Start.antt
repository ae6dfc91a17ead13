-- Where steps start: what is found once for a reference. No promise to a caller of the library rests on it.
use Rattle.std.specs.Prelude.{◌≡◌, ℤ}
use Rattle.calendar.specs.declared.Calendar.{Calendar}
use Rattle.instant.specs.Instant.{time_of}
use Rattle.step.specs.Closed.{YearOf}
use Rattle.calendar_axis.specs.Steps.{date_at}
use Rattle.calendar_axis.specs.declared.Start.{Start}

-- the start of steps from the reference R
pub record StartOf (c : Calendar) (R : ℤ) (s : Start) : Type 0 where
  pub date : s.date ≡ date_at c R
  pub year : YearOf c s.date s.year
  pub time : s.time ≡ time_of R
