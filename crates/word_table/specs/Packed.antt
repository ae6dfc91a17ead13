-- CLOSED FORM: a word as one number, by which functions look a word up; proofs/Words.antt joins it to `lookup`.
use Rattle.std.specs.Prelude.{ℕ, List}
use Rattle.grammar.specs.Rules.{numeral}

-- the number whose digits to base 256 are the word's bytes
abbrev pub packed : List ℕ → ℕ
packed s = numeral 256 0 0 s
