-- The cases of document 01, "Cases by hand", that it marks for proof, row by row: one list, and proofs/Cases.antt has one proof of it.
use Rattle.std.specs.Prelude.{Bool, true, false, List, [], ◌∷◌, ℕ, pos, negsuc, Float, Result, Ok, Err}
use Prim.Native.String.{String}
use Rattle.std.specs.Float.{fin}
use Rattle.refusal.specs.Number.{number_of}
use Rattle.calendar.specs.declared.Calendar.{Calendar}
use Rattle.calendar.specs.Cutover.{first_cutover}
use Rattle.instant.specs.Instant.{fields_answer}
use Rattle.axis.specs.Axis.{read_offset}
use Rattle.axis_types.specs.declared.Offset.{Offset}
use Rattle.axis_text.specs.Units.{read_units}
use Rattle.iso_text.specs.Iso.{text_of}
use Rattle.grammar.specs.Rules.{bytes}
use Rattle.axis_types.specs.Reading.{Reading}
use Rattle.axis_types.specs.declared.Axis.{Axis}
use Rattle.instant.specs.declared.Fields.{Fields}
use Rattle.refusal.specs.declared.Refusal.{Refusal}

-- ---- what an offset reads as, by the definitions of the calls

-- the ISO text of an instant, and whether the reading is exact; or a refusal's number
pub data Answer : Type 0 where
  text : List ℕ → Bool → Answer
  refused : ℕ → Answer

abbrev pub text_answer : Result Fields Refusal → Bool → Answer
text_answer (Ok f) exact = text (text_of f) exact
text_answer (Err r) exact = refused (number_of r)

-- the text of an instant that was read
abbrev pub reading_answer : Calendar → Reading → Answer
reading_answer c (Ok (t, exact)) = text_answer (fields_answer c t) exact
reading_answer c (Err r) = refused (number_of r)

-- an offset on the axis that was read
abbrev pub axis_answer : Result Axis Refusal → Offset → Answer
axis_answer (Ok a) o = reading_answer a.calendar (read_offset a o)
axis_answer (Err r) o = refused (number_of r)

-- ---- the cases

-- a calendar's name, a units text and an offset, and the answer that they are to have
pub record Case : Type 0 where
  pub calendar : List ℕ
  pub units : List ℕ
  pub offset : Offset
  pub expected : Answer

-- the units text makes an axis in the calendar, with the cutover of 1582, the offset is read on it, and the fields of the instant are written
unfoldable pub case_answer : Case → Answer
case_answer k = axis_answer (read_units k.calendar first_cutover k.units) k.offset

-- a row with a whole offset, which is exact
abbrev pub whole_case : String → String → ℕ → String → Case
whole_case calendar units n answer = record { calendar = bytes calendar; units = bytes units; offset = Offset.Whole (pos n); expected = text (bytes answer) true }

-- a row with a double that is rounded
abbrev pub rounded_case : String → String → Float → String → Case
rounded_case calendar units x answer = record { calendar = bytes calendar; units = bytes units; offset = Offset.Double x; expected = text (bytes answer) false }

abbrev pub cases : List Case
cases =
    whole_case "standard" "days since 1582-10-04" 1 "1582-10-15T00:00:00.000000Z"
    ∷ whole_case "proleptic_gregorian" "days since 1582-10-04" 1 "1582-10-05T00:00:00.000000Z"
    ∷ whole_case "standard" "days since -1-12-31" 1 "0001-01-01T00:00:00.000000Z"
    ∷ whole_case "julian" "days since 1900-02-28" 1 "1900-02-29T00:00:00.000000Z"
    ∷ whole_case "360_day" "days since 2023-02-30" 1 "2023-03-01T00:00:00.000000Z"
    ∷ whole_case "noleap" "days since 2000-02-28" 1 "2000-03-01T00:00:00.000000Z"
    ∷ whole_case "standard" "months since 1930-01-01" 1 "1930-01-31T10:29:03.831225Z"
    ∷ whole_case "standard" "years since 1850-01-01" 10 "1860-01-01T10:07:39.747000Z"
    ∷ whole_case "standard" "calendar months since 1930-01-31" 1 "1930-02-28T00:00:00.000000Z"
    ∷ whole_case "standard" "calendar months since 1582-09-10" 1 "1582-10-04T00:00:00.000000Z"
    ∷ whole_case "standard" "hours since 1930-01-01 00:30 +01:00" 1 "1930-01-01T00:30:00.000000Z"
    -- 3/128 s, written as 3 times 2 to the power of -7: 23437.5 microseconds, a tie
    ∷ rounded_case "standard" "seconds since 1970-01-01" (fin false 3 (negsuc 6)) "1970-01-01T00:00:00.023438Z"
    ∷ []
