-- The identifier of a datetime64 array as grammar data: document 02, CR 1.
use Rattle.std.specs.Prelude.{ℕ, List, [], ◌∷◌, ◌++◌, Option as Answer}
use Rattle.std.proofs.Math.Option.{Option}
use Rattle.grammar.specs.Answers.{answer}
use Rattle.grammar.specs.Grammar.{Class, Grammar, run, ◌▸◌, ◌or◌, give}
use Rattle.grammar.specs.Rules.{◌⇒◌, bytes, range, char}
use Rattle.word_table.specs.Table.{Row, row, lookup}
use Rattle.datetime64_type.specs.declared.ByteOrder.{ByteOrder}
use Rattle.datetime64_type.specs.declared.UnitCode.{UnitCode}
use Rattle.datetime64_type.specs.declared.UnitCode.TheVariants.{Year, Month, Week, Day, Hour, Minute, Second, Millisecond, Microsecond, Nanosecond, Picosecond, Femtosecond, Attosecond}
use Rattle.datetime64_type.specs.declared.Datetime64Type.{Datetime64Type}

-- the word of each unit, in the case in which it is listed
abbrev pub unit_words : List (Row UnitCode)
unit_words =
    row (bytes "Y" ∷ []) Year
    ∷ row (bytes "M" ∷ []) Month
    ∷ row (bytes "W" ∷ []) Week
    ∷ row (bytes "D" ∷ []) Day
    ∷ row (bytes "h" ∷ []) Hour
    ∷ row (bytes "m" ∷ []) Minute
    ∷ row (bytes "s" ∷ []) Second
    ∷ row (bytes "ms" ∷ []) Millisecond
    ∷ row (bytes "us" ∷ []) Microsecond
    ∷ row (bytes "ns" ∷ []) Nanosecond
    ∷ row (bytes "ps" ∷ []) Picosecond
    ∷ row (bytes "fs" ∷ []) Femtosecond
    ∷ row (bytes "as" ∷ []) Attosecond
    ∷ []

abbrev pub letter : Class
letter = range "A" "Z" ++ range "a" "z"

abbrev pub unit_word : Grammar UnitCode
unit_word = run letter letter (lookup unit_words)

abbrev pub byte_order : Grammar ByteOrder
byte_order = give (λ (b : ℕ). ByteOrder.Little) (char "<") or give (λ (b : ℕ). ByteOrder.Big) (char ">")

abbrev pub type_of : ByteOrder × (UnitCode × ℕ) → Datetime64Type
type_of v = record { order = v.0; unit = v.1.0 }

abbrev pub identifier : Grammar Datetime64Type
identifier = give type_of (byte_order ▸ char "M" ⇒ char "8" ⇒ char "[" ⇒ unit_word ▸ char "]")

-- the answer to an identifier
abbrev pub type_answer : Option Datetime64Type → Answer Datetime64Type
type_answer o = answer o
