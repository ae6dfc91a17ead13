-- CLOSED FORM: the number that digits write, found digit by digit, as a private function computes it; proofs/Digits.antt joins it to the rule.
use Rattle.std.specs.Prelude.{ℕ, ◌+◌, ◌*◌, cond, List, [], ◌∷◌, ltb, Option as Answer}
use Rattle.std.proofs.Math.Option.{Option, none, some}
use Rattle.grammar.specs.Answers.{answered}
use Rattle.offset_text.specs.OffsetRule.{digit_of}

-- the number that the text writes to a base, after digits that write v; none where a byte is no digit of that base
abbrev pub digits_from : ℕ → ℕ → List ℕ → Option ℕ
digits_from base v [] = some v
digits_from base v (b ∷ s) = cond (ltb (digit_of b) base) (digits_from base (v * base + digit_of b) s) none

abbrev pub digits_in : Answer ℕ → Option ℕ
digits_in r = answered r
