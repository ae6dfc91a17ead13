-- The order in which a text that is read in the calendar of a name is refused: document 01, "Numbers returned", and for the cutover document 02,
-- CR 8. 1 is for the text's length, 2 for the name, 16 for the cutover, 3 for the grammar; what comes after is what the calendar and the text's
-- value give, 4 and 5 among it.
use Rattle.std.specs.Prelude.{Bool, cond, List, ℕ, ltb, length, Result, Ok, Err}
use Rattle.std.proofs.Math.Option.{Option, none, some}
use Rattle.refusal.specs.declared.Refusal.{Refusal}
use Rattle.calendar.specs.declared.Calendar.{Calendar}
use Rattle.calendar.specs.declared.Date.{Date}
use Rattle.cutover.specs.Calendars.{with_cutover}
use Rattle.calendar_name.specs.Names.{calendar_of}
use Rattle.grammar.specs.Grammar.{Grammar}
use Rattle.grammar.specs.Reader.{read}

-- a text of more than 128 bytes
abbrev pub too_long : List ℕ → Bool
too_long text = ltb 128 (length text)

abbrev pub of_name : Option Calendar → Date → Result Calendar Refusal
of_name none x = Err Refusal.UnknownCalendar
of_name (some c) x = with_cutover c x

-- the calendar of a name with the cutover x: refused for the name, then for the cutover
abbrev pub named_calendar : List ℕ → Date → Result Calendar Refusal
named_calendar name x = of_name (calendar_of name) x

-- the calendar in which a text is read: before these, refused for the text's length
unfoldable pub text_calendar : List ℕ → Date → List ℕ → Result Calendar Refusal
text_calendar name x text = cond (too_long text) (Err Refusal.TextTooLong) (named_calendar name x)

abbrev pub by_value : {A B : Type 0} → (Refusal → A) → (B → A) → Option B → A
by_value refuse give none = refuse Refusal.IllFormed
by_value refuse give (some v) = give v

abbrev pub in_calendar : {A B : Type 0} → (Refusal → A) → (Calendar → B → A) → Result Calendar Refusal → Option B → A
in_calendar refuse give (Ok c) o = by_value refuse (give c) o
in_calendar refuse give (Err r) o = refuse r

-- `refuse` makes an answer of a refusal, `rule` is the text's grammar, and `give` answers for a calendar and a value
unfoldable pub read_text : {A B : Type 0} → (Refusal → A) → Grammar B → (Calendar → B → A) → List ℕ → Date → List ℕ → A
read_text refuse rule give name x text = in_calendar refuse give (text_calendar name x text) (read rule text)
