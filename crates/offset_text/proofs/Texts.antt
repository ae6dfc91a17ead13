-- What `read_offset` promises, in terms of the rule alone: the rule derives the text with the offset that is read, and derives no text that
-- is refused.
use Prim.Native.Nat.{ℕ}
use mathlib.Core.Path.{◌≡◌, refl}
use mathlib.Core.Bool.{true}
use mathlib.Core.List.{List}
use mathlib.Core.Logic.{◌↔◌}
use mathlib.Core.Option.{Option, none, some}
use lib.IntN.{pos, negsuc}
use Rattle.std.specs.Prelude.{Option as Answer}
use Rattle.grammar.specs.Answers.{answered}
use Rattle.grammar.proofs.Answers.{answer_back}
use Rattle.grammar.specs.Grammar.{within, inside, starts, Derives}
use Rattle.grammar.specs.Reader.{nullable, first, front, back, scan, whole, read}
use Rattle.grammar.specs.Clear.{extends, outside, apart, clear}
use Rattle.grammar.specs.Rules.{bytes}
use Rattle.grammar.proofs.Reading.{reads, derives, refused, underived}
use Rattle.axis_types.specs.declared.Offset.{Offset}
use Rattle.offset_text.specs.OffsetRule.{offset, offset_answer}

-- in the rule the next byte tells which way each choice goes
pub offset_clear : clear offset ≡ true
unfolding clear nullable first extends apart outside
offset_clear = refl

pub offset_read : (s : List ℕ) (o : Offset) → (read offset s ≡ some o) ↔ Derives offset s o
offset_read s o = (derives offset s o, reads offset s o offset_clear)

pub offset_refused : (s : List ℕ) → (read offset s ≡ none) ↔ ((o : Offset) → Derives offset s o → ⊥)
offset_refused s = (refused offset s offset_clear, underived offset s)

-- what an answer says of the text
abbrev pub offset_value : Answer Offset → Option Offset
offset_value r = answered r

pub offset_back_lem : (o : Option Offset) (r : Answer Offset) → r ≡ offset_answer o → o ≡ offset_value r
offset_back_lem o r e = answer_back o r e

-- some texts: minus zero, leading zeros, the ends of 64 bits and what lies past them, 20 digits, a plus, a capital hexadecimal digit
examples : (read offset (bytes "-0") ≡ some (Offset.Whole (pos 0)))
    × (read offset (bytes "007") ≡ some (Offset.Whole (pos 7)))
    × (read offset (bytes "9223372036854775807") ≡ some (Offset.Whole (pos 9223372036854775807)))
    × (read offset (bytes "-9223372036854775808") ≡ some (Offset.Whole (negsuc 9223372036854775807)))
    × (read offset (bytes "9223372036854775808") ≡ none)
    × (read offset (bytes "-9223372036854775809") ≡ none)
    × (read offset (bytes "00000000000000000001") ≡ none)
    × (read offset (bytes "+1") ≡ none)
    × (read offset (bytes "-") ≡ none)
    × (read offset (bytes "x3F80000000000000") ≡ none)
unfolding read scan whole front back starts first nullable within inside
examples = (refl, refl, refl, refl, refl, refl, refl, refl, refl, refl)
