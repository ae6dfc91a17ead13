-- The units text of document 01 as grammar data: the period words, and the rule around them.
use Rattle.std.specs.Prelude.{ℕ, List, [], ◌∷◌, ◌++◌}
use Prim.Native.String.{String}
use Rattle.std.proofs.Math.Option.{some}
use Rattle.grammar.specs.Grammar.{Grammar, run, ◌▸◌, give}
use Rattle.grammar.specs.Rules.{◌⇒◌, bytes, range, any_of, optional, word}
use Rattle.word_table.specs.Table.{Row, row, lookup}
use Rattle.axis_types.specs.declared.Period.{Period}
use Rattle.axis_types.specs.declared.Period.TheVariants.{Second, Millisecond, Minute, Hour, Day, Week, Month, Year}
use Rattle.axis_types.specs.declared.Mode.{Mode}
use Rattle.date_text.specs.declared.WrittenDate.{WrittenDate}
use Rattle.date_text.specs.DateRule.{date_rule}
use Rattle.units_text.specs.declared.Units.{Units}

-- ---- period words

-- a word as it stands; and one that may end in one more s
abbrev pub alone : String → List (List ℕ)
alone w = bytes w ∷ []

abbrev pub plural : String → List (List ℕ)
plural w = bytes w ∷ (bytes w ++ bytes "s") ∷ []

-- document 01, "Periods": the table's words, row by row
abbrev pub period_words : List (Row Period)
period_words =
    row (plural "millisec" ++ plural "msec") Millisecond
    ∷ row (plural "second" ++ plural "sec" ++ alone "s") Second
    ∷ row (plural "minute" ++ plural "min") Minute
    ∷ row (plural "hour" ++ plural "hr") Hour
    ∷ row (plural "day") Day
    ∷ row (plural "week") Week
    ∷ row (plural "month" ++ plural "mon") Month
    ∷ row (plural "year" ++ plural "yr") Year
    ∷ []

-- a word of the table. That it starts with one of these letters tells it from the word calendar by its first letter; the table implies it
abbrev pub period_word : Grammar Period
period_word = run (any_of (bytes "dhmswy")) (range "a" "z") (lookup period_words)

-- ---- the units text: the word calendar or none, a period word, the word since, a date, with spaces between

-- one or more spaces
abbrev pub spaces : Grammar (Unit {0})
spaces = run (range " " " ") (range " " " ") (λ s. some tt)

abbrev pub mode : Grammar Mode
mode = optional Mode.Fixed (give (λ (v : Unit {0}). Mode.Calendar) (word "CALENDAR" ⇒ spaces))

abbrev pub since : Grammar WrittenDate
since = spaces ⇒ word "SINCE" ⇒ spaces ⇒ date_rule

abbrev pub units_of : Mode × (Period × WrittenDate) → Units
units_of v = record { mode = v.0; period = v.1.0; reference = v.1.1 }

abbrev pub units : Grammar Units
units = give units_of (mode ▸ period_word ▸ since)
