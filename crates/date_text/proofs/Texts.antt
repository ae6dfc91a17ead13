-- What `read_date` promises, in terms of the date rule alone: the rule derives the text with the date that is read, and derives no text
-- that is refused.
use Prim.Native.Nat.{ℕ}
use mathlib.Core.Path.{◌≡◌, refl, sym, ap}
use mathlib.Core.Bool.{true, false}
use mathlib.Core.List.{List}
use mathlib.Core.Logic.{◌↔◌}
use mathlib.Core.Option.{Option, none, some}
use Rattle.std.specs.Prelude.{Option as Answer}
use Rattle.grammar.specs.Grammar.{within, inside, starts, Derives}
use Rattle.grammar.specs.Reader.{nullable, first, front, back, scan, whole, read}
use Rattle.grammar.specs.Clear.{extends, outside, apart, clear}
use Rattle.grammar.specs.Rules.{bytes}
use Rattle.grammar.specs.Answers.{answered}
use Rattle.grammar.proofs.Answers.{answer_back}
use Rattle.grammar.proofs.Reading.{reads, derives, refused, underived, single}
use Rattle.date_text.specs.declared.WrittenDate.{WrittenDate}
use Rattle.date_text.specs.DateRule.{midnight, utc, date_rule}
use Rattle.date_text.specs.Answers.{written_answer}

-- in the date rule the next byte tells which way each choice goes
pub date_clear : clear date_rule ≡ true
unfolding clear nullable first extends apart outside
date_clear = refl

pub date_read : (s : List ℕ) (w : WrittenDate) → (read date_rule s ≡ some w) ↔ Derives date_rule s w
date_read s w = (derives date_rule s w, reads date_rule s w date_clear)

pub date_refused : (s : List ℕ) → (read date_rule s ≡ none) ↔ ((w : WrittenDate) → Derives date_rule s w → ⊥)
date_refused s = (refused date_rule s date_clear, underived date_rule s)

pub date_single : (s : List ℕ) (v w : WrittenDate) → Derives date_rule s v → Derives date_rule s w → v ≡ w
date_single s v w = single date_rule s v w date_clear

-- what an answer says of the text
abbrev pub written_value : Answer WrittenDate → Option WrittenDate
written_value r = answered r

pub written_back : (o : Option WrittenDate) (r : Answer WrittenDate) → r ≡ written_answer o → o ≡ written_value r
written_back o r e = answer_back o r e

-- some texts: a year alone; every field; a zone behind UTC; and three that are refused, since a zone follows a time only, T is a capital,
-- and a zone's colon belongs to its minutes
examples : (read date_rule (bytes "-5") ≡ some (record { negative = true; year = 5; month = 1; day = 1; time = midnight }))
    × (read date_rule (bytes "1970-1-2T3:4:5.25utc") ≡ some (record { negative = false; year = 1970; month = 1; day = 2; time = record { hour = 3; minute = 4; second = 5; microsecond = 250000; zone = utc } }))
    × (read date_rule (bytes "1930-01-01 00:30 -0130") ≡ some (record { negative = false; year = 1930; month = 1; day = 1; time = record { hour = 0; minute = 30; second = 0; microsecond = 0; zone = record { behind = true; hours = 1; minutes = 30 } } }))
    × (read date_rule (bytes "1970-01-01Z") ≡ none)
    × (read date_rule (bytes "1970-01-01t00") ≡ none)
    × (read date_rule (bytes "1970-01-01T00+01:") ≡ none)
unfolding read scan whole front back starts first nullable within inside
examples = (refl, refl, refl, refl, refl, refl)
