-- The table of period words: by numbers, and as the rule of a period word.
use Prim.Native.Nat.{ℕ, ◌≤◌, ◌<◌}
use native.Mathlib.Omega.{arith}
use mathlib.Core.Path.{◌≡◌, refl, ◌∙◌}
use mathlib.Core.Bool.{Bool, true, cond, or-false}
use mathlib.Core.List.{List}
use mathlib.Core.Logic.{◌↔◌}
use mathlib.Core.Option.{none, some}
use lib.ListN.{length}
use Rattle.grammar.specs.Grammar.{within, inside, every, starts, Derives}
use Rattle.grammar.specs.Rules.{bytes, span, range, any_of, same}
use Rattle.word_table.specs.Table.{lookup}
use Rattle.word_table.specs.Packed.{packed}
use Rattle.word_table.proofs.Packed.{span_headed}
use Rattle.word_table.proofs.Words.{by_number, lookup_packed, lookup_long, lookup_word}
use Rattle.axis_types.specs.declared.Period.{Period}
use Rattle.units_text.specs.UnitsRule.{period_words, period_word}

-- a word of small letters, by its number
pub period_packed : (w : List ℕ) → 1 ≤ length w → every (span 97 122) w ≡ true → lookup period_words w ≡ by_number period_words (packed w)
unfolding every starts within inside
period_packed w l h = lookup_packed period_words w refl (span_headed 97 122 w (omega arith) (omega arith) l h)

-- the one word of more than eight letters
pub period_long : (w : List ℕ) (b : Bool) → 8 < length w → same w (bytes "millisecs") ≡ b → lookup period_words w ≡ cond b (some Period.Millisecond) none
period_long w b h e = lookup_long period_words w h ∙ rw (e, or-false b)

-- the table alone says what a period word is
pub word_table : (w : List ℕ) (p : Period) → Derives period_word w p ↔ (lookup period_words w ≡ some p)
unfolding Derives starts every within inside
word_table w p = (
  λ d. d.2,
  λ e. (
    lookup_word (starts (any_of (bytes "dhmswy"))) period_words w p refl e,
    lookup_word (every (range "a" "z")) period_words w p refl e,
    e,
  ),
)
