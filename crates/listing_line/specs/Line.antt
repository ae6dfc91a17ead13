-- What one line of the listing program prints: document 01, "The listing program".
use Rattle.std.specs.Prelude.{ℕ, ◌+◌, Bool, cond, List, [], ◌∷◌, ◌++◌, leb, ltb, eqb, ℤ, length, Result, Ok, Err}
use Prim.Native.Char.{code}
use Rattle.std.proofs.Math.Option.{Option, none, some}
use Rattle.refusal.specs.Number.{number_of}
use Rattle.refusal.specs.declared.Refusal.{Refusal}
use Rattle.refusal.specs.declared.Refusal.TheVariants.{TextTooLong, IllFormed}
use Rattle.calendar.specs.Calendar.{date_of}
use Rattle.calendar.specs.declared.Calendar.{Calendar}
use Rattle.instant.specs.Instant.{day_of, time_of, fields_at}
use Rattle.instant.specs.declared.Fields.{Fields}
use Rattle.axis.specs.Axis.{read_offset}
use Rattle.axis_types.specs.declared.Offset.{Offset}
use Rattle.grammar.specs.Reader.{read}
use Rattle.grammar.specs.Rules.{bytes}
use Rattle.iso_form.specs.Form.{two_digits}
use Rattle.iso_text.specs.Iso.{text_of}
use Rattle.calendar.specs.Cutover.{first_cutover}
use Rattle.axis_text.specs.Units.{read_units}
use Rattle.offset_text.specs.OffsetRule.{offset}
use Rattle.listing_line.specs.declared.Shown.{Shown}
use Rattle.axis_types.specs.Reading.{Reading}
use Rattle.axis_types.specs.declared.Axis.{Axis}

-- ---- the parts of a line

-- a byte before the first of some texts
abbrev pub on_first : ℕ → List (List ℕ) → List (List ℕ)
on_first b [] = (b ∷ []) ∷ []
on_first b (p ∷ ps) = (b ∷ p) ∷ ps

-- the texts between the bars of a line, one more than it has bars
unfoldable pub parted : List ℕ → List (List ℕ)
parted [] = [] ∷ []
parted (b ∷ s) = cond (eqb b (code "|")) ([] ∷ parted s) (on_first b (parted s))

-- ---- what a line answers: an instant of a calendar and whether it is exact, or a refusal

abbrev pub LineAnswer : Type 0
LineAnswer = Result Shown Refusal

-- the reading of an offset in a calendar
abbrev pub line_reading : Calendar → Reading → LineAnswer
line_reading c (Ok (t, exact)) = Ok (record { calendar = c; instant = t; exact = exact })
line_reading c (Err r) = Err r

-- an offset on the axis of the calendar name and the units, where there is one
abbrev pub on_axis : Result Axis Refusal → Offset → LineAnswer
on_axis (Ok a) o = line_reading a.calendar (read_offset a o)
on_axis (Err r) o = Err r

-- an offset of another form is refused before the name and the units are looked at; the cutover is that of 1582 (document 02, CR 8)
abbrev pub with_offset : List ℕ → List ℕ → Option Offset → LineAnswer
with_offset name units (some o) = on_axis (read_units name first_cutover units) o
with_offset name units none = Err IllFormed

-- exactly two bars part the calendar name, the units and the offset
abbrev pub of_parts : List (List ℕ) → LineAnswer
of_parts (name ∷ units ∷ text ∷ []) = with_offset name units (read offset text)
of_parts [] = Err IllFormed
of_parts (name ∷ []) = Err IllFormed
of_parts (name ∷ units ∷ []) = Err IllFormed
of_parts (name ∷ units ∷ text ∷ more ∷ rest) = Err IllFormed

-- a line over 255 bytes is refused before all else
unfoldable pub line_answer : List ℕ → LineAnswer
line_answer line = cond (leb (length line) 255) (of_parts (parted line)) (Err TextTooLong)

-- ---- what is printed

-- a number of one or two digits
abbrev pub short_number : ℕ → List ℕ
short_number n = cond (ltb n 10) ((n + code "0") ∷ []) (two_digits n)

abbrev pub refused_text : Refusal → List ℕ
refused_text r = bytes "refused " ++ short_number (number_of r)

-- the fields of an instant: the date of its day and its time of day
abbrev pub fields_in : Calendar → ℤ → Fields
fields_in c t = fields_at (date_of c (day_of t)) (time_of t)

abbrev pub rounded_text : Bool → List ℕ
rounded_text exact = cond exact [] (bytes " rounded")

abbrev pub newline : List ℕ
newline = bytes "\n"

-- ISO text, and a word where the instant is not exact; or the number of the refusal
abbrev pub answer_text : LineAnswer → List ℕ
answer_text (Ok s) = text_of (fields_in s.calendar s.instant) ++ rounded_text s.exact
answer_text (Err r) = refused_text r

unfoldable pub line_text : List ℕ → List ℕ
line_text line = answer_text (line_answer line) ++ newline
