-- Why a date is refused, whatever is written beside it: a mistyped date told from a missing one. Document 02, CR 5. 4 is exactly for what no date
-- of any calendar has; 12 exactly for what is possible, and this calendar lacks; 13 exactly for the dates that `standard` dropped
-- with its cutover (CR 8).
use Rattle.std.specs.Prelude.{◌≡◌, true, false, List, ◌↔◌, ℕ, ◌≤◌, ◌<◌, ℤ, length, Ok}
use Rattle.calendar.specs.Calendar.{days_used, exists, in_years}
use Rattle.calendar.specs.Cutover.{dropped_dates, is_listed}
use Rattle.calendar.specs.declared.Calendar.{Calendar}
use Rattle.calendar.specs.declared.Calendar.TheVariants.{Standard}
use Rattle.calendar.specs.declared.Date.{Date}
use Rattle.instant.specs.Instant.{in_range, date_in}
use Rattle.instant.specs.declared.Fields.{Fields}
use Rattle.named_text.specs.Texts.{named_calendar}
use Rattle.grammar.specs.Grammar.{Derives}
use Rattle.date_text.specs.DateRule.{date_rule}
use Rattle.date_text.specs.declared.WrittenDate.{WrittenDate}
use Rattle.units_text.specs.UnitsRule.{units}
use Rattle.units_text.specs.declared.Units.{Units}
use Rattle.written_instant.specs.Instants.{local_fields}
use Rattle.codes.specs.Codes.{calendar_code}
use Rattle.uppinalo.specs.Given.{GivenCalendar, GivenAxis, axis_codes}
use Rattle.uppinalo.specs.Days.{uppinalo_day_of_date, uppinalo_fields_of}
use Rattle.uppinalo.specs.Offsets.{uppinalo_write_fields}
use Rattle.uppinalo.specs.Texts.{uppinalo_read_units, uppinalo_read_iso}

-- ---- what no date has

-- no date of any of the six calendars has the month m, or the day d
abbrev pub NoMonth : ℕ → Type 0
NoMonth m = (c : Calendar) (x : Date) → exists c x ≡ true → x.month ≡ m → ⊥

abbrev pub NoDay : ℕ → Type 0
NoDay d = (c : Calendar) (x : Date) → exists c x ≡ true → x.day ≡ d → ⊥

-- of no instant in any of them are fields given in which this one is n
abbrev pub NoInstant : (Fields → ℕ) → ℕ → Type 0
NoInstant field n = (g : GivenCalendar) (t : ℤ) (f : Fields) → uppinalo_fields_of (calendar_code g.calendar) g.cutover t ≡ record { number = 0; fields = f } → field f ≡ n → ⊥

-- some field of a date is such a one, or of fields, or of a date as it is written
pub data ImpossibleDate (x : Date) : Type 0 where
  by_month : NoMonth x.month → ImpossibleDate x
  by_day : NoDay x.day → ImpossibleDate x

pub data ImpossibleFields (f : Fields) : Type 0 where
  by_date : ImpossibleDate (date_in f) → ImpossibleFields f
  by_hour : NoInstant (λ (g : Fields). g.hour) f.hour → ImpossibleFields f
  by_minute : NoInstant (λ (g : Fields). g.minute) f.minute → ImpossibleFields f
  by_second : NoInstant (λ (g : Fields). g.second) f.second → ImpossibleFields f
  by_microsecond : NoInstant (λ (g : Fields). g.microsecond) f.microsecond → ImpossibleFields f

pub data ImpossibleWritten (w : WrittenDate) : Type 0 where
  by_fields : ImpossibleFields (local_fields w) → ImpossibleWritten w
  by_zone_hour : 23 < w.time.zone.hours → ImpossibleWritten w
  by_zone_minute : 59 < w.time.zone.minutes → ImpossibleWritten w

-- ---- the dropped dates

-- those of `standard` with its cutover k days after 1582-10-15
pub record DroppedDay (c : Calendar) (x : Date) : Type 0 where
  pub days : ℕ
  pub calendar : c ≡ Standard days
  pub listed : is_listed x (dropped_dates (days_used days)) ≡ true

-- ---- the numbers 4, 12 and 13

-- of an answer about the date x, where `Impossible` says that some field of the date, or beside it, is one that no date has
pub record WhyRefused (Impossible : Type 0) (c : Calendar) (x : Date) (number : ℕ) : Type 0 where
  pub impossible : (number ≡ 4) ↔ Impossible
  pub missing : (number ≡ 12) ↔ ((Impossible → ⊥) × (exists c x ≡ false) × (DroppedDay c x → ⊥))
  pub dropped : (number ≡ 13) ↔ ((Impossible → ⊥) × DroppedDay c x)
  -- a date that exists is none of the dropped ones, so with nothing impossible beside it it gets none of the three
  pub there : exists c x ≡ true → DroppedDay c x → ⊥

-- each call that takes a date: a year past -9999 to 9999, and what comes before it, is refused first; the end of fragments answers as
-- `uppinalo_read_units` does
pub record RefusedDates : Type 0 where
  pub day_of_date : (g : GivenCalendar) (x : Date) → in_years x.year ≡ true → WhyRefused (ImpossibleDate x) g.calendar x (uppinalo_day_of_date (calendar_code g.calendar) g.cutover x).number
  pub write_fields : (a : GivenAxis) (f : Fields) → in_range a.calendar a.reference ≡ true → in_years f.year ≡ true → WhyRefused (ImpossibleFields f) a.calendar (date_in f) (uppinalo_write_fields (axis_codes a) f).number
  pub read_units_lem : (name : List ℕ) (cutover : Date) (text : List ℕ) (c : Calendar) (u : Units) → length text ≤ 128 → named_calendar name cutover ≡ Ok c → Derives units text u → WhyRefused (ImpossibleWritten u.reference) c (date_in (local_fields u.reference)) (uppinalo_read_units name cutover text).number
  pub read_iso_lem : (name : List ℕ) (cutover : Date) (text : List ℕ) (c : Calendar) (w : WrittenDate) → length text ≤ 128 → named_calendar name cutover ≡ Ok c → Derives date_rule text w → WhyRefused (ImpossibleWritten w) c (date_in (local_fields w)) (uppinalo_read_iso name cutover text).number
