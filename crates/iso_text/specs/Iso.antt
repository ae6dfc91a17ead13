-- Reading and writing ISO text: document 01, "The units text" and "Numbers returned", and document 02, CR 5 and CR 8. A text is refused with 1, 2, 16, 3,
-- then as its date is, and writing with 5, then 7.
use Rattle.std.specs.Prelude.{Bool, true, false, List, ℕ, ℤ, pos, negsuc, nat_abs, Result, Ok, Err}
use Rattle.calendar.specs.declared.Calendar.{Calendar}
use Rattle.calendar.specs.declared.Date.{Date}
use Rattle.instant.specs.Instant.{fields_answer}
use Rattle.instant.specs.declared.Fields.{Fields}
use Rattle.date_text.specs.declared.WrittenDate.{WrittenDate}
use Rattle.date_text.specs.DateRule.{utc, date_rule}
use Rattle.written_instant.specs.Instants.{written_instant}
use Rattle.named_text.specs.Texts.{read_text}
use Rattle.iso_form.specs.Form.{iso_text, length_answer, over}
use Rattle.refusal.specs.declared.Refusal.{Refusal}

-- ---- reading

unfoldable pub read_iso : List ℕ → Date → List ℕ → Result ℤ Refusal
read_iso name x text = read_text Err date_rule written_instant name x text

-- ---- writing

abbrev pub is_negative : ℤ → Bool
is_negative (pos n) = false
is_negative (negsuc n) = true

-- fields, which are in UTC, as a date that is written
abbrev pub utc_date : Fields → WrittenDate
utc_date f =
    record {
      negative = is_negative f.year;
      year = nat_abs f.year;
      month = f.month;
      day = f.day;
      time = record { hour = f.hour; minute = f.minute; second = f.second; microsecond = f.microsecond; zone = utc };
    }

abbrev pub text_of : Fields → List ℕ
text_of f = iso_text (utc_date f)

abbrev pub iso_length : Result Fields Refusal → List ℕ → Result ℕ Refusal
iso_length (Ok f) room = length_answer (text_of f) room
iso_length (Err r) room = Err r

abbrev pub iso_room : Result Fields Refusal → List ℕ → List ℕ
iso_room (Ok f) room = over (text_of f) room
iso_room (Err r) room = room

-- what writing an instant answers, and what it leaves in the room
unfoldable pub write_iso : Calendar → ℤ → List ℕ → Result ℕ Refusal
write_iso c t room = iso_length (fields_answer c t) room

unfoldable pub room_iso : Calendar → ℤ → List ℕ → List ℕ
room_iso c t room = iso_room (fields_answer c t) room
