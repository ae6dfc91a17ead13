-- Calendar names: document 01, "Calendars". A name is taken in the case in which it is listed.
use Rattle.std.specs.Prelude.{ℕ, List, [], ◌∷◌, Option as Answer}
use Rattle.std.proofs.Math.Option.{Option, some}
use Rattle.grammar.specs.Answers.{answer}
use Rattle.grammar.specs.Rules.{bytes}
use Rattle.word_table.specs.Table.{Row, row, lookup}
use Rattle.calendar.specs.declared.Calendar.{Calendar}
use Rattle.calendar.specs.declared.Calendar.TheVariants.{Standard, ProlepticGregorian, Julian, NoLeap, AllLeap, Day360}

abbrev pub calendar_names : List (Row Calendar)
calendar_names =
    row (bytes "standard" ∷ bytes "gregorian" ∷ []) (Standard 0)
    ∷ row (bytes "proleptic_gregorian" ∷ bytes "ISO8601" ∷ []) ProlepticGregorian
    ∷ row (bytes "julian" ∷ []) Julian
    ∷ row (bytes "noleap" ∷ bytes "no_leap" ∷ bytes "365_day" ∷ []) NoLeap
    ∷ row (bytes "all_leap" ∷ bytes "366_day" ∷ []) AllLeap
    ∷ row (bytes "uniform30day" ∷ bytes "360_day" ∷ []) Day360
    ∷ []

-- the calendar of a name; the empty name is `standard`. Its cutover is that of 1582 until another is given (crate `cutover`)
unfoldable pub calendar_of : List ℕ → Option Calendar
calendar_of [] = some (Standard 0)
calendar_of (b ∷ s) = lookup calendar_names (b ∷ s)

abbrev pub calendar_named : Option Calendar → Answer Calendar
calendar_named o = answer o
