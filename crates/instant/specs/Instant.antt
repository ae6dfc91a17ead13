-- Instants and their fields: document 01, "Instants and axes". An instant is a count of microseconds since the start of 1970.
use Rattle.std.specs.Prelude.{Bool, true, ◌&&◌, ℕ, ◌+◌, ◌-◌, ◌*◌, ◌/◌, ◌%◌, ltb, ℤ, pos, negsuc, ◌+ℤ◌, ◌*ℤ◌, Result, Ok, Err}
use Rattle.calendar.specs.Calendar.{date, date_of, in_years}
use Rattle.calendar.specs.Answers.{date_answer, day_with}
use Rattle.calendar.specs.declared.Calendar.{Calendar}
use Rattle.calendar.specs.declared.Date.{Date}
use Rattle.instant.specs.declared.Fields.{Fields}
use Rattle.refusal.specs.declared.Refusal.{Refusal}

-- ---- the day of an instant and its time of day

-- the microseconds of a day
abbrev pub day_length : ℕ
day_length = 86400000000

-- the day number: the count divided by a day, rounded down. Of -(n + 1) that is -(n / day + 1)
unfoldable pub day_of : ℤ → ℤ
day_of (pos n) = pos (n / day_length)
day_of (negsuc n) = negsuc (n / day_length)

-- what is left, from the beginning of the day
unfoldable pub time_of : ℤ → ℕ
time_of (pos n) = n % day_length
time_of (negsuc n) = day_length - 1 - n % day_length

-- the instant of a day at a time of day
abbrev pub instant_at : ℤ → ℕ → ℤ
instant_at z s = z *ℤ pos day_length +ℤ pos s

-- an instant lies in the years -9999 to 9999 where the date of its day does
abbrev pub in_range : Calendar → ℤ → Bool
in_range c t = in_years (date_of c (day_of t)).year

-- ---- the fields of an instant

abbrev pub fields_at : Date → ℕ → Fields
fields_at d s =
    record {
      year = d.year;
      month = d.month;
      day = d.day;
      hour = s / 3600000000;
      minute = s / 60000000 % 60;
      second = s / 1000000 % 60;
      microsecond = s % 1000000;
    }

abbrev pub with_time : Result Date Refusal → ℕ → Result Fields Refusal
with_time (Ok d) s = Ok (fields_at d s)
with_time (Err r) s = Err r

-- refused as the date of its day is
unfoldable pub fields_answer : Calendar → ℤ → Result Fields Refusal
fields_answer c t = with_time (date_answer c (day_of t)) (time_of t)

-- ---- the instant of fields

abbrev pub date_in : Fields → Date
date_in f = date f.year f.month f.day

-- the fields name a time of day: each is one that some instant has
abbrev pub is_clock : Fields → Bool
is_clock f = (ltb f.hour 24 && ltb f.minute 60) && (ltb f.second 60 && ltb f.microsecond 1000000)

abbrev pub clock_time : Fields → ℕ
clock_time f = ((f.hour * 60 + f.minute) * 60 + f.second) * 1000000 + f.microsecond

abbrev pub with_clock : Result ℤ Refusal → Fields → Result ℤ Refusal
with_clock (Ok n) f = Ok (instant_at n (clock_time f))
with_clock (Err r) f = Err r

-- the instant of fields with what stands beside them, a zone; `rest` says that it is possible. Refused as their date is, which has the time of
-- day and the rest beside it
unfoldable pub instant_with : Bool → Calendar → Fields → Result ℤ Refusal
instant_with rest c f = with_clock (day_with (rest && is_clock f) c (date_in f)) f

-- the instant of fields alone
abbrev pub instant_answer : Calendar → Fields → Result ℤ Refusal
instant_answer c f = instant_with true c f
