-- What the answers of the functions say was found in a text.
use Rattle.std.specs.Prelude.{ℕ, List, Option as Answer}
use Rattle.std.proofs.Math.Option.{Option}
use Rattle.grammar.specs.Reader.{Scan}
use Rattle.grammar.specs.Answers.{answer, answered, value_in}
use Rattle.axis_types.specs.declared.Period.{Period}
use Rattle.axis_types.specs.declared.Mode.{Mode}
use Rattle.units_text.specs.declared.Units.{Units}

-- what a word means
abbrev pub meaning_of : Answer Period → Option Period
meaning_of r = answered r

abbrev pub period_in : List ℕ → Answer (Period × ℕ) → Scan Period
period_in s o = value_in s o

abbrev pub mode_in : List ℕ → Answer (Mode × ℕ) → Scan Mode
mode_in s o = value_in s o

-- the answer to a whole text
abbrev pub units_answer : Option Units → Answer Units
units_answer o = answer o
