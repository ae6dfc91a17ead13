-- What a line answers, once its length is tested and its bars are found, and the text of a refusal.
use Rattle.std.specs.Prelude.{Err}
use Prim.Native.Nat.{ℕ, ◌+◌, ◌≤◌, ◌<◌}
use mathlib.Core.Path.{◌≡◌, sym, ap, ◌∙◌}
use mathlib.Core.List.{List, ◌∷◌, ◌++◌}
use lib.ListN.{length}
use borrow.Author.Tests.{le-leb, lt-leb, lt-ltb, le-ltb}
use Rattle.grammar.specs.Reader.{read}
use Rattle.grammar.specs.Rules.{bytes}
use Rattle.iso_form.specs.Form.{two_digits}
use Rattle.refusal.specs.Number.{number_of}
use Rattle.refusal.specs.declared.Refusal.{Refusal}
use Rattle.refusal.specs.declared.Refusal.TheVariants.{TextTooLong}
use Rattle.offset_text.specs.OffsetRule.{offset}
use Rattle.listing_line.specs.Line.{parted, with_offset, of_parts, line_answer, refused_text, newline}
use Rattle.listing_line.specs.Closed.{part, Places}

pub long_line : (s : List ℕ) → 255 < length s → Err TextTooLong ≡ line_answer s
unfolding line_answer
long_line s h = rw (lt-leb (length s) 255 h)

pub short_line : (s : List ℕ) → length s ≤ 255 → of_parts (parted s) ≡ line_answer s
unfolding line_answer
short_line s h = rw (le-leb (length s) 255 h)

pub parted_line : (s : List ℕ) (a b : ℕ) → length s ≤ 255 → Places s a b → with_offset (part 0 a s) (part (a + 1) b s) (read offset (part (b + 1) (length s) s)) ≡ line_answer s
parted_line s a b h p = ap of_parts (sym p.parts) ∙ short_line s h

-- ---- the text of a refusal, by the size of its number

module _ (r : Refusal) (n : ℕ) (e : n ≡ number_of r) where
  pub one_digit_text : n < 10 → bytes "refused " ++ (n + 48) ∷ newline ≡ refused_text r ++ newline
  one_digit_text h = rw (← e, lt-ltb n 10 h)

  pub two_digit_text : 10 ≤ n → bytes "refused " ++ two_digits n ++ newline ≡ refused_text r ++ newline
  two_digit_text h = rw (← e, le-ltb n 10 h)
