-- What the boundary adds to the answers of the library: the codes of an axis or a calendar, with its cutover, name it, and the number of an answer tells which it was.
use Rattle.std.specs.Prelude.{Result, Ok, Err}
use mathlib.Core.Path.{◌≡◌, refl, sym, ap, ◌∙◌}
use mathlib.Core.Bool.{Bool, true}
use Prim.Native.Nat.{ℕ}
use lib.IntN.{ℤ}
use lib.Ieee.{Float}
use Rattle.refusal.specs.Number.{number_of}
use Rattle.refusal.specs.declared.Refusal.{Refusal}
use Rattle.refusal.proofs.Numbers.{one_number, not_success}
use Rattle.calendar.specs.Answers.{date_answer, day_answer}
use Rattle.calendar.specs.declared.Calendar.{Calendar}
use Rattle.calendar.specs.declared.Date.{Date}
use Rattle.instant.specs.Instant.{fields_answer}
use Rattle.instant.specs.declared.Fields.{Fields}
use Rattle.axis_types.specs.Reading.{is_read, with_days_back, Reading}
use Rattle.axis_types.specs.declared.Axis.{Axis}
use Rattle.axis_types.specs.declared.OffsetReading.{OffsetReading}
use Rattle.axis.specs.Axis.{read_whole_on, whole_back, read_double_on, double_back}
use Rattle.codes.specs.Codes.{calendar_given, coded_axis, calendar_code}
use Rattle.codes.proofs.Back.{calendar_back, axis_back}
use Rattle.uppinalo.specs.Days.{of_date, of_day, of_fields, date_by_code, day_by_code, fields_by_code, uppinalo_date_of_day, uppinalo_day_of_date, uppinalo_fields_of}
use Rattle.uppinalo.specs.Offsets.{of_offset_reading, of_reading, read_on, uppinalo_read_whole, uppinalo_read_double, of_offset, write_on}
use Rattle.uppinalo.specs.Given.{GivenCalendar, GivenAxis, axis_given, axis_codes}
use Rattle.uppinalo.specs.Demands.{ReadsAt, fields_given}
use Rattle.uppinalo.specs.declared.days.UppinaloFieldsAnswer.{UppinaloFieldsAnswer}
use Rattle.uppinalo.specs.declared.texts.UppinaloReading.{UppinaloReading}

-- ---- by codes

module _ (x : GivenAxis) where
  abbrev b : Axis
  b = axis_given x

  pub axis_is : coded_axis (axis_codes x) ≡ Ok (axis_given x)
  axis_is = axis_back b x.cutover x.carries

  pub read_is : (read : Axis → Reading) (back : Axis → ℕ) → read_on (coded_axis (axis_codes x)) read back ≡ of_reading (read b) (back b)
  read_is read back = ap (λ (k : Result Axis Refusal). read_on k read back) axis_is

  -- where it is known what the reading is
  pub whole_is : (n : ℤ) {r : Reading} → read_whole_on (axis_given x) n ≡ r → uppinalo_read_whole (axis_codes x) n ≡ of_reading r (whole_back (axis_given x) n)
  whole_is n h = read_is (λ (a : Axis). read_whole_on a n) (λ (a : Axis). whole_back a n) ∙ ap (λ (r : Reading). of_reading r (whole_back b n)) h

  pub double_is : (y : Float) {r : Reading} → read_double_on (axis_given x) y ≡ r → uppinalo_read_double (axis_codes x) y ≡ of_reading r (double_back (axis_given x) y)
  double_is y h = read_is (λ (a : Axis). read_double_on a y) (λ (a : Axis). double_back a y) ∙ ap (λ (r : Reading). of_reading r (double_back b y)) h

  pub write_is : (write : Axis → Result ℤ Refusal) → write_on (coded_axis (axis_codes x)) write ≡ of_offset (write (axis_given x))
  write_is write = ap (λ (k : Result Axis Refusal). write_on k write) axis_is

module _ (g : GivenCalendar) where
  abbrev c : Calendar
  c = g.calendar

  pub calendar_is : calendar_given (calendar_code g.calendar) g.cutover ≡ Ok g.calendar
  calendar_is = calendar_back c g.cutover g.carries

  pub date_is : (n : ℤ) → uppinalo_date_of_day (calendar_code c) g.cutover n ≡ of_date (date_answer c n)
  date_is n = ap (λ (k : Result Calendar Refusal). date_by_code k n) calendar_is

  pub day_is : (d : Date) → uppinalo_day_of_date (calendar_code c) g.cutover d ≡ of_day (day_answer c d)
  day_is d = ap (λ (k : Result Calendar Refusal). day_by_code k d) calendar_is

  pub fields_is : (t : ℤ) → uppinalo_fields_of (calendar_code c) g.cutover t ≡ of_fields (fields_answer c t)
  fields_is t = ap (λ (k : Result Calendar Refusal). fields_by_code k t) calendar_is

-- ---- what a call shows of a reading

-- the days stepped back, of a reading that has them
pub shown : (a : Result OffsetReading Refusal) (r : Reading) (k : ℕ) → a ≡ with_days_back r k → of_offset_reading a ≡ of_reading r k
shown a r k e = ap of_offset_reading e ∙ days r
  where
    days : (q : Reading) → of_offset_reading (with_days_back q k) ≡ of_reading q k
    days (Ok (t, exact)) = refl
    days (Err q) = refl

-- ---- by the number

pub reading_at_lem : (r : Reading) (k : ℕ) (t : ℤ) (exact : Bool) → ReadsAt (of_reading r k) t exact → r ≡ Ok (t, exact)
reading_at_lem (Ok (u, i)) k t exact h = λ j. Ok (h.instant j, (h.mark j))
reading_at_lem (Err r) k t exact h = absurd (not_success r h.success)

pub at_reading : (a : UppinaloReading) (k : ℕ) (t : ℤ) (exact : Bool) → a ≡ of_reading (Ok (t, exact)) k → ReadsAt a t exact
at_reading a k t exact h = record { success = ap (λ (b : UppinaloReading). b.number) h; instant = ap (λ (b : UppinaloReading). b.instant) h; mark = ap (λ (b : UppinaloReading). b.exact) h }

pub reading_refused : (r : Reading) (k : ℕ) (q : Refusal) → (of_reading r k).number ≡ number_of q → r ≡ Err q
reading_refused (Ok (t, exact)) k q h = absurd (not_success q (sym h))
reading_refused (Err r) k q h = ap Err (one_number r q h)

pub reading_read : (r : Reading) (k : ℕ) → (of_reading r k).number ≡ 0 → is_read r ≡ true
reading_read (Ok (t, exact)) k h = refl
reading_read (Err r) k h = absurd (not_success r h)

pub fields_shown : (a : Result Fields Refusal) (f : Fields) → of_fields a ≡ fields_given f → a ≡ Ok f
fields_shown (Ok g) f h = ap (λ (a : UppinaloFieldsAnswer). Ok a.fields) h
fields_shown (Err r) f h = absurd (not_success r (ap (λ (a : UppinaloFieldsAnswer). a.number) h))
