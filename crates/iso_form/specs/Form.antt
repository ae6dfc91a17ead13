-- The one form in which ISO text is written (document 01, "The units text"), and what writing a text into lent room does.
use Rattle.std.specs.Prelude.{ℕ, ◌+◌, ◌/◌, ◌%◌, cond, List, [], ◌∷◌, ◌++◌, length, drop, leb, Result, Ok, Err}
use Rattle.grammar.specs.Rules.{bytes}
use Rattle.date_text.specs.declared.WrittenDate.{WrittenDate}
use Rattle.refusal.specs.declared.Refusal.TheVariants.{NoRoom}
use Rattle.refusal.specs.declared.Refusal.{Refusal}

-- ---- the text

-- the digit of n at the power p of ten, and the last two, four and six digits of n
abbrev pub digit_at : ℕ → ℕ → ℕ
digit_at p n = n / p % 10 + 48

abbrev pub two_digits : ℕ → List ℕ
two_digits n = digit_at 10 n ∷ digit_at 1 n ∷ []

abbrev pub four_digits : ℕ → List ℕ
four_digits n = digit_at 1000 n ∷ digit_at 100 n ∷ two_digits n

abbrev pub six_digits : ℕ → List ℕ
six_digits n = digit_at 100000 n ∷ digit_at 10000 n ∷ four_digits n

-- YYYY-MM-DDThh:mm:ss.ffffffZ of a date in UTC
abbrev pub body : WrittenDate → List ℕ
body w =
    four_digits w.year ++ bytes "-" ++ two_digits w.month ++ bytes "-" ++ two_digits w.day ++ bytes "T" ++ two_digits w.time.hour ++ bytes ":"
    ++ two_digits w.time.minute ++ bytes ":" ++ two_digits w.time.second ++ bytes "." ++ six_digits w.time.microsecond ++ bytes "Z"

-- with - before it for negative years
unfoldable pub iso_text : WrittenDate → List ℕ
iso_text w = cond w.negative (bytes "-" ++ body w) (body w)

-- ---- a text written into room

-- the text's length, or that the room is too short for it
unfoldable pub length_answer : List ℕ → List ℕ → Result ℕ Refusal
length_answer text room = cond (leb (length text) (length room)) (Ok (length text)) (Err NoRoom)

-- the text, and beyond it the room as it was; room that is too short stays as it was
unfoldable pub over : List ℕ → List ℕ → List ℕ
over text room = cond (leb (length text) (length room)) (text ++ drop (length text) room) room
