-- The text of an offset as grammar data: document 01, "The listing program".
use Rattle.std.specs.Prelude.{ℕ, ◌+◌, ◌-◌, ◌*◌, ◌^◌, cond, List, [], ◌∷◌, ◌++◌, leb, eqb, pos, neg_ℤ, length, Option as Answer}
use Prim.Native.Char.{code}
use Rattle.std.proofs.Math.Option.{Option, none, some}
use Rattle.std.specs.Float.{binary64}
use Rattle.std.specs.Float.Ieee.{of_bits}
use Rattle.grammar.specs.Answers.{answer}
use Rattle.grammar.specs.Grammar.{Class, within, Grammar, run, ◌or◌, give}
use Rattle.grammar.specs.Rules.{◌⇒◌, range, char, digit, decimal}
use Rattle.axis_types.specs.declared.Offset.{Offset}

-- ---- a whole offset: 1 to 19 digits, after a minus or none. A signed number of 64 bits lies from -2 ^ 63 to 2 ^ 63 - 1

abbrev pub at_most : ℕ → ℕ → Option ℕ
at_most most n = cond (leb n most) (some n) none

abbrev pub digits_up_to : ℕ → Grammar ℕ
digits_up_to most = run digit digit (λ s. cond (leb (length s) 19) (at_most most (decimal 0 s)) none)

-- what stands after the minus
abbrev pub negative : Grammar Offset
negative = give (λ (n : ℕ). Offset.Whole (neg_ℤ (pos n))) (digits_up_to (2 ^ 63))

abbrev pub positive : Grammar Offset
positive = give (λ (n : ℕ). Offset.Whole (pos n)) (digits_up_to (2 ^ 63 - 1))

-- ---- a double: an x and 16 lower-case hexadecimal digits, which write its bits. A NaN's bits are taken too

abbrev pub hex_digit : Class
hex_digit = range "0" "9" ++ range "a" "f"

-- the value of a digit; 16 where a byte is none
abbrev pub digit_of : ℕ → ℕ
digit_of b = cond (within (range "0" "9") b) (b - code "0") (cond (within (range "a" "f") b) (b - code "a" + 10) 16)

-- the number that hexadecimal digits write, after digits that write n
abbrev pub hexadecimal : ℕ → List ℕ → ℕ
hexadecimal n [] = n
hexadecimal n (b ∷ s) = hexadecimal (n * 16 + digit_of b) s

abbrev pub pattern : Grammar ℕ
pattern = run hex_digit hex_digit (λ s. cond (eqb (length s) 16) (some (hexadecimal 0 s)) none)

-- what stands after the x
abbrev pub bits : Grammar Offset
bits = give (λ (n : ℕ). Offset.Double (of_bits binary64 n)) pattern

-- ---- an offset

abbrev pub offset : Grammar Offset
offset = char "x" ⇒ bits or char "-" ⇒ negative or positive

-- the answer to a text
abbrev pub offset_answer : Option Offset → Answer Offset
offset_answer o = answer o
