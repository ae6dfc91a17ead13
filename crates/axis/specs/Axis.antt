-- One offset on an axis, read and written: document 01, "Instants and axes", "Periods" and "Numbers returned".
-- Fixed mode is that of specs/Fixed.antt of crate `fixed_axis`; months and years in calendar mode are those of specs/Steps.antt of crate
-- `calendar_axis`. Both speak of a reference in the range, which is tested here and nowhere else.
use Rattle.std.specs.Prelude.{cond, ℕ, ℤ, Float, Result, Ok, Err}
use Rattle.refusal.specs.declared.Refusal.{Refusal}
use Rattle.refusal.specs.declared.Refusal.TheVariants.{OutOfRange}
use Rattle.calendar.specs.declared.Calendar.{Calendar}
use Rattle.instant.specs.Instant.{in_range, instant_answer}
use Rattle.instant.specs.declared.Fields.{Fields}
use Rattle.axis_types.specs.declared.Period.{Period}
use Rattle.axis_types.specs.declared.Period.TheVariants.{Second, Millisecond, Minute, Hour, Day, Week, Month, Year}
use Rattle.axis_types.specs.declared.Mode.{Mode}
use Rattle.axis_types.specs.declared.Axis.{Axis}
use Rattle.axis_types.specs.declared.Offset.{Offset}
use Rattle.double.specs.Whole.{whole_of}
use Rattle.step.specs.declared.Part.{Part}
use Rattle.fixed_axis.specs.Fixed.{read_whole, read_double, write_instant}
use Rattle.calendar_axis.specs.Steps.{read_steps, back_steps, write_steps}
use Rattle.axis.specs.declared.Step.{Step}
use Rattle.axis_types.specs.Reading.{Reading}

-- ---- the axis itself

-- an axis whose reference lies past the range is refused before all else
unfoldable pub axis_check : Axis → Result (Unit {0}) Refusal
axis_check a = cond (in_range a.calendar a.reference) (Ok tt) (Err OutOfRange)

-- the answer of a call on an axis that is good, or its refusal
abbrev pub on_good : {A : Type 0} → Result (Unit {0}) Refusal → (Refusal → A) → A → A
on_good (Ok good) refuse answer = answer
on_good (Err r) refuse answer = refuse r

-- what an offset moves: in calendar mode the month or the year number, by periods of these names; else the time
abbrev pub step_in : Mode → Period → Step
step_in Mode.Fixed p = Step.Time
step_in Mode.Calendar Second = Step.Time
step_in Mode.Calendar Millisecond = Step.Time
step_in Mode.Calendar Minute = Step.Time
step_in Mode.Calendar Hour = Step.Time
step_in Mode.Calendar Day = Step.Time
step_in Mode.Calendar Week = Step.Time
step_in Mode.Calendar Month = Step.Date Part.Month
step_in Mode.Calendar Year = Step.Date Part.Year

abbrev pub step_on : Axis → Step
step_on a = step_in a.mode a.period

-- ---- offsets on a good axis

abbrev pub read_by : Step → Calendar → Period → ℤ → ℤ → Reading
read_by Step.Time c p R n = read_whole c p R n
read_by (Step.Date part) c p R n = read_steps part c R n

abbrev pub write_by : Step → Calendar → Period → ℤ → ℤ → Result ℤ Refusal
write_by Step.Time c p R t = write_instant p R t
write_by (Step.Date part) c p R t = write_steps part c R t

-- a whole offset
abbrev pub whole_on : Axis → ℤ → Reading
whole_on a n = read_by (step_on a) a.calendar a.period a.reference n

-- a double as the whole offset that it is; refused where it is none
abbrev pub as_whole : Result ℤ Refusal → (ℤ → Reading) → Reading
as_whole (Ok n) read = read n
as_whole (Err r) read = Err r

abbrev pub by_whole : (ℤ → Reading) → Float → Reading
by_whole read x = as_whole (whole_of x) read

-- a double: by its exact meaning in fixed mode, and in calendar mode, with any period, as a whole offset
abbrev pub double_in : Mode → Axis → Float → Reading
double_in Mode.Fixed a x = read_double a.calendar a.period a.reference x
double_in Mode.Calendar a x = by_whole (whole_on a) x

abbrev pub double_on : Axis → Float → Reading
double_on a x = double_in a.mode a x

-- the whole offset of an instant of the range
abbrev pub offset_on : Axis → ℤ → Result ℤ Refusal
offset_on a t = write_by (step_on a) a.calendar a.period a.reference t

-- ---- reading an offset

unfoldable pub read_whole_on : Axis → ℤ → Reading
read_whole_on a n = on_good (axis_check a) Err (whole_on a n)

unfoldable pub read_double_on : Axis → Float → Reading
read_double_on a x = on_good (axis_check a) Err (double_on a x)

unfoldable pub read_offset : Axis → Offset → Reading
read_offset a (Offset.Whole n) = read_whole_on a n
read_offset a (Offset.Double x) = read_double_on a x

-- ---- how far the day of the month is stepped back: document 02, CR 7. Only months and years in calendar mode move it

-- by a whole offset
abbrev pub back_by : Step → Calendar → ℤ → ℤ → ℕ
back_by Step.Time c R n = 0
back_by (Step.Date part) c R n = back_steps part c R n

abbrev pub whole_back : Axis → ℤ → ℕ
whole_back a n = back_by (step_on a) a.calendar a.reference n

-- by a double: in calendar mode, by the whole offset that it is
abbrev pub as_whole_back : Result ℤ Refusal → (ℤ → ℕ) → ℕ
as_whole_back (Ok n) back = back n
as_whole_back (Err r) back = 0

abbrev pub by_whole_back : (ℤ → ℕ) → Float → ℕ
by_whole_back back x = as_whole_back (whole_of x) back

abbrev pub double_back_in : Mode → Axis → Float → ℕ
double_back_in Mode.Fixed a x = 0
double_back_in Mode.Calendar a x = by_whole_back (whole_back a) x

abbrev pub double_back : Axis → Float → ℕ
double_back a x = double_back_in a.mode a x

abbrev pub offset_back : Axis → Offset → ℕ
offset_back a (Offset.Whole n) = whole_back a n
offset_back a (Offset.Double x) = double_back a x

-- ---- writing an instant, or fields

-- refused for the axis, then for the instant, then where there is no whole offset
unfoldable pub write_instant_on : Axis → ℤ → Result ℤ Refusal
write_instant_on a t = on_good (axis_check a) Err (cond (in_range a.calendar t) (offset_on a t) (Err OutOfRange))

abbrev pub on_instant : Result ℤ Refusal → (ℤ → Result ℤ Refusal) → Result ℤ Refusal
on_instant (Ok t) write = write t
on_instant (Err r) write = Err r

-- refused for the axis, then as the instant of the fields is, then where there is no whole offset
unfoldable pub write_fields_on : Axis → Fields → Result ℤ Refusal
write_fields_on a f = on_good (axis_check a) Err (on_instant (instant_answer a.calendar f) (offset_on a))
