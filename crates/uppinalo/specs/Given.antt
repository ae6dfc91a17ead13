-- What a caller hands in for a calendar, and for an axis: codes, and a cutover that the calendar carries (document 02, CR 8). In `standard` that is
-- any cutover that is allowed, and the calendar goes by it; in the other calendars it is any date. proofs/Cutovers.antt shows both.
use Rattle.std.specs.Prelude.{ℤ}
use Rattle.calendar.specs.declared.Calendar.{Calendar}
use Rattle.calendar.specs.declared.Date.{Date}
use Rattle.cutover.specs.Calendars.{Carries}
use Rattle.axis_types.specs.declared.Axis.{Axis}
use Rattle.axis_types.specs.declared.Mode.{Mode}
use Rattle.axis_types.specs.declared.Period.{Period}
use Rattle.codes.specs.Codes.{axis_code}
use Rattle.codes.specs.declared.UppinaloAxis.{UppinaloAxis}

pub record GivenCalendar : Type 0 where
  pub calendar : Calendar
  pub cutover : Date
  pub carries : Carries calendar cutover

pub record GivenAxis : Type 0 where
  pub calendar : Calendar
  pub period : Period
  pub mode : Mode
  pub reference : ℤ
  pub cutover : Date
  pub carries : Carries calendar cutover

abbrev pub axis_given : GivenAxis → Axis
axis_given x = record { calendar = x.calendar; period = x.period; mode = x.mode; reference = x.reference }

abbrev pub calendar_on : GivenAxis → GivenCalendar
calendar_on x = record { calendar = x.calendar; cutover = x.cutover; carries = x.carries }

abbrev pub axis_codes : GivenAxis → UppinaloAxis
axis_codes x = axis_code (axis_given x) x.cutover
