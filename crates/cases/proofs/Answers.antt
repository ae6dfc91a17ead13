-- The answers of the calls, known for all inputs, from the dates and day numbers of Days.antt.
use Rattle.std.specs.Prelude.{Result, Ok, Err}
use mathlib.Core.Path.{◌≡◌}
use mathlib.Core.Bool.{Bool, true, ◌&&◌, cond}
use mathlib.Core.List.{List}
use mathlib.Core.Option.{Option, none, some}
use Prim.Native.Nat.{ℕ}
use lib.Dec.{eqb}
use lib.IntN.{ℤ, ◌-ℤ◌}
use lib.Ieee.{Float, nan, inf, fin}
use Rattle.refusal.specs.declared.Refusal.{Refusal}
use Rattle.calendar.specs.Calendar.{times, year_after, year_before}
use Rattle.calendar.specs.declared.Calendar.{Calendar}
use Rattle.calendar.specs.declared.Date.{Date}
use Rattle.axis_types.specs.Lengths.{length_of}
use Rattle.axis_types.specs.declared.Mode.{Mode}
use Rattle.axis_types.specs.declared.Period.{Period}
use Rattle.instant.specs.Instant.{day_of, time_of, in_range, with_time, fields_answer, date_in, is_clock, with_clock, instant_with}
use Rattle.instant.specs.declared.Fields.{Fields}
use Rattle.double.specs.Nearest.{distance, nearest_count}
use Rattle.double.specs.Whole.{whole_of}
use Rattle.step.specs.Steps.{date_after, down_to, step_after, step_before, steps}
use Rattle.fixed_axis.specs.Fixed.{time_after, reading_at, read_whole, read_double}
use Rattle.calendar_axis.specs.Steps.{on_day, read_from, read_steps}
use Rattle.axis_types.specs.declared.Offset.{Offset}
use Rattle.axis.specs.Axis.{axis_check, on_good, step_on, read_by, as_whole, double_in, read_whole_on, read_double_on, read_offset}
use Rattle.axis.specs.declared.Step.{Step}
use Rattle.axis_types.specs.declared.Axis.{Axis}
use Rattle.axis_text.specs.Units.{axis_at, axis_of, read_units}
use Rattle.date_text.specs.declared.WrittenDate.{WrittenDate}
use Rattle.date_text.specs.declared.Zone.{Zone}
use Rattle.grammar.specs.Grammar.{within as withinClass, inside}
use Rattle.grammar.specs.Reader.{read}
use Rattle.iso_form.specs.Form.{iso_text}
use Rattle.calendar_name.specs.Names.{calendar_of}
use Rattle.units_text.specs.UnitsRule.{units}
use Rattle.units_text.specs.declared.Units.{Units}
use Rattle.written_instant.specs.Instants.{local_fields, is_zone, ahead, less_zone, written_instant}
use Rattle.calendar.specs.Cutover.{first_cutover}
use Rattle.calendar.specs.declared.Calendar.TheVariants.{Standard, ProlepticGregorian, Julian, NoLeap, AllLeap, Day360}
use Rattle.cutover.specs.Calendars.{with_cutover}
use Rattle.cutover.proofs.Theorems.{first_carried}
use Rattle.named_text.specs.Texts.{too_long, of_name, text_calendar, in_calendar, read_text}
use Rattle.cases.specs.Cases.{text_answer, reading_answer, axis_answer, Case, case_answer}
use Rattle.cases.proofs.Known.{Known, itself, applied, through, tested, chosen}
use Rattle.cases.proofs.Days.{date_of_known, in_years_known, date_answer_known, day_with_known}
use Rattle.axis_types.specs.Reading.{Reading}

-- `fKnown` is what is known of the definition f. What its value needs to compute stands on its `unfolding` line.

-- ---- instants and fields
module _ (c : Calendar) where
  unfoldable pub in_range_known : (t : ℤ) → Known (in_range c t)
  unfolding in_years_known day_of
  in_range_known t = in_years_known c (day_of t)

  unfoldable pub fields_answer_known : (t : ℤ) → Known (fields_answer c t)
  unfolding fields_answer date_answer_known day_of time_of
  fields_answer_known t = applied (λ (a : Result Date Refusal). with_time a (time_of t)) (date_answer_known c (day_of t))

  unfoldable pub instant_with_known : (rest : Bool) (f : Fields) → Known (instant_with rest c f)
  unfolding instant_with day_with_known
  instant_with_known rest f = applied (λ (a : Result ℤ Refusal). with_clock a f) (day_with_known c (date_in f) (rest && is_clock f))

-- ---- the axis of a units text
module _ (c : Calendar) where
  unfoldable pub less_zone_known : (z : Zone) (a : Result ℤ Refusal) → Known (less_zone c z a)
  unfolding in_range_known
  less_zone_known z (Ok t) =
      let u = t -ℤ ahead z in
      chosen (in_range_known c u) (λ g. itself (Ok u)) (Err Refusal.OutOfRange)
  less_zone_known z (Err r) = itself (Err r)

  unfoldable pub written_instant_known : (w : WrittenDate) → Known (written_instant c w)
  unfolding written_instant less_zone_known instant_with_known
  written_instant_known w = through (less_zone c w.time.zone) (less_zone_known w.time.zone) (instant_with_known c (is_zone w.time.zone) (local_fields w))

  unfoldable pub axis_of_known : (u : Units) → Known (axis_of c u)
  unfolding written_instant_known
  axis_of_known u = applied (axis_at c u) (written_instant_known u.reference)

unfoldable pub in_calendar_known : (k : Result Calendar Refusal) (u : Option Units) → Known (in_calendar Err axis_of k u)
unfolding axis_of_known
in_calendar_known (Err r) u = itself (Err r)
in_calendar_known (Ok c) none = itself (Err Refusal.IllFormed)
in_calendar_known (Ok c) (some u) = axis_of_known c u

-- the calendar of a name with the cutover of 1582
unfoldable pub of_name_known : (o : Option Calendar) → Known (of_name o first_cutover)
unfolding with_cutover
of_name_known none = itself (Err Refusal.UnknownCalendar)
of_name_known (some (Standard k)) = record { value = Ok (Standard 0); is = first_carried }
of_name_known (some ProlepticGregorian) = itself (Ok ProlepticGregorian)
of_name_known (some Julian) = itself (Ok Julian)
of_name_known (some NoLeap) = itself (Ok NoLeap)
of_name_known (some AllLeap) = itself (Ok AllLeap)
of_name_known (some Day360) = itself (Ok Day360)

unfoldable pub text_known : (name text : List ℕ) → Known (text_calendar name first_cutover text)
unfolding text_calendar of_name_known calendar_of
text_known name text =
    tested (λ (b : Bool). cond b (Err Refusal.TextTooLong) (of_name (calendar_of name) first_cutover)) (itself (too_long text)) (λ h. itself (Err Refusal.TextTooLong)) (λ h. of_name_known (calendar_of name))

unfoldable pub read_units_known : (name text : List ℕ) → Known (read_units name first_cutover text)
unfolding read_units read_text text_known in_calendar_known read withinClass inside
read_units_known name text = through (λ (q : Result Calendar Refusal). in_calendar Err axis_of q (read units text)) (λ (q : Result Calendar Refusal). in_calendar_known q (read units text)) (text_known name text)

-- ---- the reading of an offset
module _ (c : Calendar) where
  unfoldable pub reading_at_known : (z : ℤ) (exact : Bool) → Known (reading_at c z exact)
  unfolding in_range_known
  reading_at_known z exact = chosen (in_range_known c z) (λ h. itself (Ok (z, exact))) (Err Refusal.OutOfRange)

module _ (c : Calendar) (p : Period) (R : ℤ) where
  unfoldable pub read_whole_known : (n : ℤ) → Known (read_whole c p R n)
  unfolding read_whole reading_at_known
  read_whole_known n = reading_at_known c (time_after p R n) true

  unfoldable pub read_double_known : (x : Float) → Known (read_double c p R x)
  unfolding read_double reading_at_known distance
  read_double_known nan = itself (Err Refusal.NotFinite)
  read_double_known (inf s) = itself (Err Refusal.NotFinite)
  read_double_known (fin s m e) = let z = nearest_count R (length_of p) s m e in reading_at_known c z (eqb (distance R (length_of p) s m e z) 0)

  -- in calendar mode the reference has a date, since it lies in the range
  module _ (h : in_range c R ≡ true) where
    unfoldable pub read_by_known : (s : Step) (n : ℤ) → Known (read_by s c p R n)
    unfolding read_whole_known read_steps date_of_known day_with_known day_of time_of date_after step_after step_before steps times year_after year_before down_to
    read_by_known Step.Time n = read_whole_known n
    read_by_known (Step.Date part) n =
        through (λ (x : Date). read_from part c x (time_of R) n) (λ (x : Date). applied (λ (a : Result ℤ Refusal). on_day a (time_of R)) (day_with_known c (date_after part c n x) true)) (date_of_known c (day_of R) h)

    unfoldable pub as_whole_known : (s : Step) (w : Result ℤ Refusal) → Known (as_whole w (read_by s c p R))
    unfolding read_by_known
    as_whole_known s (Ok n) = read_by_known s n
    as_whole_known s (Err r) = itself (Err r)

module _ (a : Axis) where
  unfoldable pub double_in_known : (m : Mode) (x : Float) → in_range a.calendar a.reference ≡ true → Known (double_in m a x)
  unfolding read_double_known as_whole_known whole_of
  double_in_known Mode.Fixed x h = read_double_known a.calendar a.period a.reference x
  double_in_known Mode.Calendar x h = as_whole_known a.calendar a.period a.reference h (step_on a) (whole_of x)

  -- a reading on the axis, known where the axis is good
  unfoldable pub on_good_known : {r : Reading} → (in_range a.calendar a.reference ≡ true → Known r) → Known (on_good (axis_check a) Err r)
  unfolding axis_check in_range_known
  on_good_known {r} k =
      tested (λ (b : Bool). on_good (cond b (Ok tt) (Err Refusal.OutOfRange)) Err r) (in_range_known a.calendar a.reference) k (λ h. itself (Err Refusal.OutOfRange))

  unfoldable pub read_offset_known : (o : Offset) → Known (read_offset a o)
  unfolding read_offset read_whole_on read_double_on on_good_known read_by_known double_in_known
  read_offset_known (Offset.Whole n) = on_good_known (λ h. read_by_known a.calendar a.period a.reference h (step_on a) n)
  read_offset_known (Offset.Double x) = on_good_known (double_in_known a.mode x)

-- ---- the answer of a case
unfoldable pub reading_answer_known : (c : Calendar) (r : Reading) → Known (reading_answer c r)
unfolding fields_answer_known iso_text
reading_answer_known c (Ok (t, exact)) = applied (λ (a : Result Fields Refusal). text_answer a exact) (fields_answer_known c t)
reading_answer_known c (Err r) = itself (reading_answer c (Err r))

unfoldable pub axis_answer_known : (o : Offset) (a : Result Axis Refusal) → Known (axis_answer a o)
unfolding reading_answer_known read_offset_known
axis_answer_known o (Ok a) = through (reading_answer a.calendar) (reading_answer_known a.calendar) (read_offset_known a o)
axis_answer_known o (Err r) = itself (axis_answer (Err r) o)

unfoldable pub case_answer_known : (k : Case) → Known (case_answer k)
unfolding case_answer axis_answer_known read_units_known
case_answer_known k = through (λ (a : Result Axis Refusal). axis_answer a k.offset) (axis_answer_known k.offset) (read_units_known k.calendar k.units)
