-- Calendar mode for months and years: document 01, "Periods". An offset is so many steps from the reference's date
-- (specs/Steps.antt of crate `step`), at its time of day. The reference, and an instant that is written, lie in the years -9999 to
-- 9999; crate `axis` tests that.
use Rattle.std.specs.Prelude.{Bool, true, cond, ℕ, eqb, ℤ, Result, Ok, Err, Option, Some, None}
use Rattle.refusal.specs.declared.Refusal.TheVariants.{Inexact}
use Rattle.calendar.specs.Calendar.{date_of}
use Rattle.calendar.specs.Answers.{day_answer}
use Rattle.calendar.specs.declared.Calendar.{Calendar}
use Rattle.calendar.specs.declared.Date.{Date}
use Rattle.instant.specs.Instant.{day_of, time_of, instant_at}
use Rattle.step.specs.Steps.{date_after, days_back}
use Rattle.step.specs.Answers.{steps_between}
use Rattle.step.specs.declared.Part.{Part}
use Rattle.axis_types.specs.Reading.{Reading}
use Rattle.refusal.specs.declared.Refusal.{Refusal}

-- the date of an instant
abbrev pub date_at : Calendar → ℤ → Date
date_at c t = date_of c (day_of t)

-- ---- reading

-- a day number with a time of day, which is exact; refused as the day number is
abbrev pub on_day : Result ℤ Refusal → ℕ → Reading
on_day (Ok n) s = Ok (instant_at n s, true)
on_day (Err r) s = Err r

-- n steps from the date x, at the time of day s
abbrev pub read_from : Part → Calendar → Date → ℕ → ℤ → Reading
read_from part c x s n = on_day (day_answer c (date_after part c n x)) s

-- n steps from the reference R
unfoldable pub read_steps : Part → Calendar → ℤ → ℤ → Reading
read_steps part c R n = read_from part c (date_at c R) (time_of R) n

-- the days that the day of the month is stepped back by them
abbrev pub back_steps : Part → Calendar → ℤ → ℤ → ℕ
back_steps part c R n = days_back part c n (date_at c R)

-- ---- writing

-- the number of steps between two dates as an offset; there is none where the times of day differ
abbrev pub offset_from : Option ℤ → Bool → Result ℤ Refusal
offset_from (Some n) same = cond same (Ok n) (Err Inexact)
offset_from None same = Err Inexact

-- the steps from the date x, at the time of day s, to the instant t
abbrev pub write_from : Part → Calendar → Date → ℕ → ℤ → Result ℤ Refusal
write_from part c x s t = offset_from (steps_between part c x (date_at c t)) (eqb s (time_of t))

-- the steps from the reference R
unfoldable pub write_steps : Part → Calendar → ℤ → ℤ → Result ℤ Refusal
write_steps part c R t = write_from part c (date_at c R) (time_of R) t
