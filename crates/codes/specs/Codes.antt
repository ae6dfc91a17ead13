-- The numbers by which calendars, periods and modes cross the C boundary, beside the cutover, which crosses as a date.
use Rattle.std.specs.Prelude.{ℕ, zero, suc, Result, Ok, Err, Option, Some, None}
use Rattle.refusal.specs.declared.Refusal.TheVariants.{UnknownCalendar, IllFormed}
use Rattle.calendar.specs.declared.Calendar.{Calendar}
use Rattle.calendar.specs.declared.Calendar.TheVariants.{Standard, ProlepticGregorian, Julian, NoLeap, AllLeap, Day360}
use Rattle.calendar.specs.declared.Date.{Date}
use Rattle.cutover.specs.Calendars.{with_cutover}
use Rattle.axis_types.specs.declared.Period.{Period}
use Rattle.axis_types.specs.declared.Period.TheVariants.{Second, Millisecond, Minute, Hour, Day, Week, Month, Year}
use Rattle.axis_types.specs.declared.Mode.{Mode}
use Rattle.axis_types.specs.declared.Axis.{Axis}
use Rattle.codes.specs.declared.UppinaloAxis.{UppinaloAxis}
use Rattle.refusal.specs.declared.Refusal.{Refusal}

-- ---- what a code names

-- 0 standard, here with the cutover of 1582, 1 proleptic_gregorian, 2 julian, 3 noleap, 4 all_leap, 5 360_day, and no other
abbrev pub coded_calendar : ℕ → Option Calendar
coded_calendar zero = Some (Standard 0)
coded_calendar (suc zero) = Some ProlepticGregorian
coded_calendar (suc (suc zero)) = Some Julian
coded_calendar (suc (suc (suc zero))) = Some NoLeap
coded_calendar (suc (suc (suc (suc zero)))) = Some AllLeap
coded_calendar (suc (suc (suc (suc (suc zero))))) = Some Day360
coded_calendar (suc (suc (suc (suc (suc (suc n)))))) = None

-- the calendar that a code names, with the cutover x: refused for the code (2), then for the cutover (16)
abbrev pub calendar_with : Option Calendar → Date → Result Calendar Refusal
calendar_with (Some c) x = with_cutover c x
calendar_with None x = Err UnknownCalendar

abbrev pub calendar_given : ℕ → Date → Result Calendar Refusal
calendar_given code x = calendar_with (coded_calendar code) x

-- 0 second, 1 millisecond, 2 minute, 3 hour, 4 day, 5 week, 6 month, 7 year, and no other
abbrev pub coded_period : ℕ → Option Period
coded_period zero = Some Second
coded_period (suc zero) = Some Millisecond
coded_period (suc (suc zero)) = Some Minute
coded_period (suc (suc (suc zero))) = Some Hour
coded_period (suc (suc (suc (suc zero)))) = Some Day
coded_period (suc (suc (suc (suc (suc zero))))) = Some Week
coded_period (suc (suc (suc (suc (suc (suc zero)))))) = Some Month
coded_period (suc (suc (suc (suc (suc (suc (suc zero))))))) = Some Year
coded_period (suc (suc (suc (suc (suc (suc (suc (suc n)))))))) = None

-- 0 fixed, 1 calendar, and no other
abbrev pub coded_mode : ℕ → Option Mode
coded_mode zero = Some Mode.Fixed
coded_mode (suc zero) = Some Mode.Calendar
coded_mode (suc (suc n)) = None

abbrev pub axis_in : Result Calendar Refusal → Period → Mode → UppinaloAxis → Result Axis Refusal
axis_in (Ok c) p m a = Ok (record { calendar = c; period = p; mode = m; reference = a.reference })
axis_in (Err r) p m a = Err r

-- an axis, where its three codes name something and its calendar takes the cutover: else the calendar is unknown (2), the period or the mode
-- ill-formed (3), or the cutover not allowed (16)
abbrev pub axis_with : Option Calendar → Option Period → Option Mode → UppinaloAxis → Result Axis Refusal
axis_with None p m a = Err UnknownCalendar
axis_with (Some c) None m a = Err IllFormed
axis_with (Some c) (Some p) None a = Err IllFormed
axis_with (Some c) (Some p) (Some m) a = axis_in (with_cutover c a.cutover) p m a

unfoldable pub coded_axis : UppinaloAxis → Result Axis Refusal
coded_axis a = axis_with (coded_calendar a.calendar) (coded_period a.period) (coded_mode a.mode) a

-- ---- the code of a name

abbrev pub calendar_code : Calendar → ℕ
calendar_code (Standard k) = 0
calendar_code ProlepticGregorian = 1
calendar_code Julian = 2
calendar_code NoLeap = 3
calendar_code AllLeap = 4
calendar_code Day360 = 5

abbrev pub period_code : Period → ℕ
period_code Second = 0
period_code Millisecond = 1
period_code Minute = 2
period_code Hour = 3
period_code Day = 4
period_code Week = 5
period_code Month = 6
period_code Year = 7

abbrev pub mode_code : Mode → ℕ
mode_code Mode.Fixed = 0
mode_code Mode.Calendar = 1

-- and the codes of an axis, beside a cutover
abbrev pub axis_code : Axis → Date → UppinaloAxis
axis_code a x = record { calendar = calendar_code a.calendar; period = period_code a.period; mode = mode_code a.mode; reference = a.reference; cutover = x }
