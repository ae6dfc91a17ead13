-- Demand 1: a refused answer has zeros beside its number, and what was lent to be written is as it was.
use Rattle.std.specs.Prelude.{Option, Result, Ok, Err}
use mathlib.Core.Path.{refl}
use mathlib.Core.Bool.{Bool, true, false, cond}
use mathlib.Core.List.{List, ◌++◌}
use Prim.Native.Nat.{ℕ}
use lib.Dec.{leb}
use lib.IntN.{ℤ}
use lib.ListN.{length, drop}
use Rattle.refusal.specs.declared.Refusal.TheVariants.{NoRoom}
use Rattle.calendar.specs.Answers.{date_answer, day_answer}
use Rattle.calendar.specs.declared.Date.{Date}
use Rattle.instant.specs.Instant.{fields_answer}
use Rattle.axis_types.specs.declared.Axis.{Axis}
use Rattle.axis.specs.Axis.{axis_check, read_whole_on, whole_back, read_double_on, double_back, write_instant_on, write_fields_on}
use Rattle.runs.specs.Run.{rounded_count, overlaid, run_check, check_answer, chosen, Check}
use Rattle.iso_form.specs.Form.{length_answer, over}
use Rattle.iso_text.specs.Iso.{text_of, iso_length, iso_room, read_iso, write_iso, room_iso}
use Rattle.axis_text.specs.Units.{read_units}
use Rattle.datetime64_type.specs.declared.Datetime64Type.{Datetime64Type}
use Rattle.datetime64_runs.specs.Records.{record_count}
use Rattle.datetime64_runs.specs.Runs.{type_named, read_check, instants_over, read_answer, read_destination, write_check, records_over, write_answer, write_room}
use Rattle.tt2000.specs.Tt2000.{read_tt2000, write_tt2000}
use Rattle.codes.specs.Codes.{calendar_given, coded_axis}
use Rattle.uppinalo.specs.Days.{of_date, of_day, of_fields, date_by_code, day_by_code, fields_by_code}
use Rattle.uppinalo.specs.Offsets.{of_reading, read_on, of_offset, write_on}
use Rattle.uppinalo.specs.Runs.{run_on, destination_on}
use Rattle.uppinalo.specs.Texts.{of_instant, of_axis, of_length, length_by_code, room_by_code}
use Rattle.uppinalo.specs.Utc.{of_utc, of_tt2000}
use Rattle.uppinalo.proofs.SoFar.{end_outcome}
use Rattle.uppinalo.specs.Demands.{DateOrZero, DayOrZero, FieldsOrZero, ReadingOrZero, OffsetOrZero, UtcFieldsOrZero, Tt2000OrZero, AxisOrZero, LengthOrZero, RunOrZero, ZeroBesideRefusal}
use Rattle.axis_types.specs.Reading.{Reading}
use Rattle.calendar.specs.declared.Calendar.{Calendar}
use Rattle.instant.specs.declared.Fields.{Fields}
use Rattle.refusal.specs.declared.Refusal.{Refusal}
use Rattle.tt2000.specs.declared.UtcFields.{UtcFields}

of_date_lem : (a : Result Date Refusal) → DateOrZero (of_date a)
of_date_lem (Ok d) h = absurd (h refl)
of_date_lem (Err r) h = refl

of_day_lem : (a : Result ℤ Refusal) → DayOrZero (of_day a)
of_day_lem (Ok n) h = absurd (h refl)
of_day_lem (Err r) h = refl

of_fields_lem : (a : Result Fields Refusal) → FieldsOrZero (of_fields a)
of_fields_lem (Ok f) h = absurd (h refl)
of_fields_lem (Err r) h = refl

of_reading_lem : (a : Reading) (k : ℕ) → ReadingOrZero (of_reading a k)
of_reading_lem (Ok (t, exact)) k h = absurd (h refl)
of_reading_lem (Err r) k h = (refl, refl, refl)

of_offset_lem : (a : Result ℤ Refusal) → OffsetOrZero (of_offset a)
of_offset_lem (Ok n) h = absurd (h refl)
of_offset_lem (Err r) h = refl

of_utc_lem : (a : Result UtcFields Refusal) → UtcFieldsOrZero (of_utc a)
of_utc_lem (Ok f) h = absurd (h refl)
of_utc_lem (Err r) h = refl

of_tt2000_lem : (a : Result ℤ Refusal) → Tt2000OrZero (of_tt2000 a)
of_tt2000_lem (Ok t) h = absurd (h refl)
of_tt2000_lem (Err r) h = refl

of_instant_lem : (a : Result ℤ Refusal) → ReadingOrZero (of_instant a)
of_instant_lem (Ok t) h = absurd (h refl)
of_instant_lem (Err r) h = (refl, refl, refl)

of_axis_lem : (a : Result Axis Refusal) (cutover : Date) → AxisOrZero (of_axis a cutover)
of_axis_lem (Ok a) cutover h = absurd (h refl)
of_axis_lem (Err r) cutover h = refl

of_check : {A : Type 0} (k : Check) (n r : ℕ) (written kept : List A) → RunOrZero (check_answer k n r) kept (chosen k written kept)
of_check (Ok tt) n r written kept h = absurd (h refl)
of_check (Err e) n r written kept h = (refl, refl, refl)

of_room : (text room : List ℕ) → LengthOrZero (of_length (length_answer text room)) room (over text room)
unfolding length_answer over
of_room text room = go (leb (length text) (length room))
  where
    go : (b : Bool) → LengthOrZero (of_length (cond b (Ok (length text)) (Err NoRoom))) room (cond b (text ++ drop (length text) room) room)
    go true h = absurd (h refl)
    go false h = (refl, refl)

of_iso : (a : Result Fields Refusal) (room : List ℕ) → LengthOrZero (of_length (iso_length a room)) room (iso_room a room)
of_iso (Ok f) room = of_room (text_of f) room
of_iso (Err r) room = λ h. (refl, refl)

date_zero : (k : Result Calendar Refusal) (n : ℤ) → DateOrZero (date_by_code k n)
date_zero (Ok c) n = of_date_lem (date_answer c n)
date_zero (Err r) n = λ h. refl

day_zero : (k : Result Calendar Refusal) (x : Date) → DayOrZero (day_by_code k x)
day_zero (Ok c) x = of_day_lem (day_answer c x)
day_zero (Err r) x = λ h. refl

fields_zero : (k : Result Calendar Refusal) (t : ℤ) → FieldsOrZero (fields_by_code k t)
fields_zero (Ok c) t = of_fields_lem (fields_answer c t)
fields_zero (Err r) t = λ h. refl

length_zero : (k : Result Calendar Refusal) (t : ℤ) (room : List ℕ) → LengthOrZero (length_by_code k t room) room (room_by_code k t room)
unfolding write_iso room_iso
length_zero (Ok c) t room = of_iso (fields_answer c t) room
length_zero (Err r) t room = λ h. (refl, refl)

reading_zero : (k : Result Axis Refusal) (read : Axis → Reading) (back : Axis → ℕ) → ReadingOrZero (read_on k read back)
reading_zero (Ok a) read back = of_reading_lem (read a) (back a)
reading_zero (Err r) read back = λ h. (refl, refl, refl)

offset_zero : (k : Result Axis Refusal) (write : Axis → Result ℤ Refusal) → OffsetOrZero (write_on k write)
offset_zero (Ok a) write = of_offset_lem (write a)
offset_zero (Err r) write = λ h. refl

run_zero : {A : Type 0} (k : Result Axis Refusal) (read : Axis → A → Reading) (xs : List A) (ds : List ℤ) → RunOrZero (run_on k read xs ds) ds (destination_on k read xs ds)
run_zero (Ok a) read xs ds = of_check (run_check (read a) (axis_check a) xs (length ds)) (length xs) (rounded_count (read a) xs) (overlaid (read a) xs ds) ds
run_zero (Err r) read xs ds = λ h. (refl, refl, refl)

read_zero : (k : Option Datetime64Type) (s : List ℕ) (ds : List ℤ) → RunOrZero (read_answer k s ds) ds (read_destination k s ds)
read_zero k s ds = of_check (read_check k s (length ds)) (record_count s) 0 (instants_over k s ds) ds

write_zero : (k : Option Datetime64Type) (xs : List ℤ) (room : List ℕ) → RunOrZero (write_answer k xs room) room (write_room k xs room)
write_zero k xs room = of_check (write_check k xs (length room)) (length xs) 0 (records_over k xs room) room

pub refusals : ZeroBesideRefusal
refusals =
    record {
      date_of_day = λ calendar cutover. date_zero (calendar_given calendar cutover);
      day_of_date = λ calendar cutover. day_zero (calendar_given calendar cutover);
      fields_of = λ calendar cutover. fields_zero (calendar_given calendar cutover);
      read_whole = λ a n. reading_zero (coded_axis a) (λ x. read_whole_on x n) (λ x. whole_back x n);
      read_double_lem = λ a y. reading_zero (coded_axis a) (λ x. read_double_on x y) (λ x. double_back x y);
      write_instant_lem = λ a t. offset_zero (coded_axis a) (λ x. write_instant_on x t);
      write_fields = λ a f. offset_zero (coded_axis a) (λ x. write_fields_on x f);
      read_wholes = λ a. run_zero (coded_axis a) read_whole_on;
      read_doubles = λ a. run_zero (coded_axis a) read_double_on;
      read_iso_lem = λ name cutover text. of_instant_lem (read_iso name cutover text);
      read_units_lem = λ name cutover text. of_axis_lem (read_units name cutover text) cutover;
      end_units = λ s name cutover. end_outcome s name cutover AxisOrZero (λ r _. refl) (λ text. of_axis_lem (read_units name cutover text) cutover);
      write_iso_lem = λ calendar cutover. length_zero (calendar_given calendar cutover);
      read_datetime64 = λ text. read_zero (type_named text);
      write_datetime64 = λ text. write_zero (type_named text);
      read_tt2000_lem = λ s t. of_utc_lem (read_tt2000 s t);
      write_tt2000_lem = λ s f. of_tt2000_lem (write_tt2000 s f);
    }
