-- What `read_units` promises, in terms of the units rule alone: the rule derives the text with the units that are read, and derives no
-- text that is refused.
use Prim.Native.Nat.{ℕ}
use mathlib.Core.Path.{◌≡◌, refl, sym, ap, ◌∙◌, subst}
use mathlib.Core.Bool.{true, false}
use mathlib.Core.List.{List}
use mathlib.Core.Logic.{◌↔◌}
use mathlib.Core.Option.{Option, none, some}
use Rattle.std.specs.Prelude.{Option as Answer}
use Rattle.grammar.specs.Answers.{answered}
use Rattle.grammar.proofs.Answers.{answer_back}
use Rattle.grammar.specs.Grammar.{within, inside, starts, Derives}
use Rattle.grammar.specs.Reader.{nullable, first, front, back, scan, whole, read}
use Rattle.grammar.specs.Clear.{extends, outside, apart, clear}
use Rattle.grammar.specs.Rules.{bytes}
use Rattle.grammar.proofs.Reading.{reads, derives, refused, underived, single}
use Rattle.axis_types.specs.declared.Period.{Period}
use Rattle.axis_types.specs.declared.Mode.{Mode}
use Rattle.date_text.specs.DateRule.{midnight, date_rule}
use Rattle.date_text.specs.declared.WrittenDate.{WrittenDate}
use Rattle.units_text.specs.declared.Units.{Units}
use Rattle.units_text.specs.UnitsRule.{units}
use Rattle.units_text.specs.Answers.{units_answer}

-- in the units text the next byte tells which way each choice goes
pub units_clear : clear units ≡ true
unfolding clear nullable first extends apart outside
units_clear = refl

pub units_read : (s : List ℕ) (u : Units) → (read units s ≡ some u) ↔ Derives units s u
units_read s u = (derives units s u, reads units s u units_clear)

pub units_refused : (s : List ℕ) → (read units s ≡ none) ↔ ((u : Units) → Derives units s u → ⊥)
units_refused s = (refused units s units_clear, underived units s)

pub units_single : (s : List ℕ) (u v : Units) → Derives units s u → Derives units s v → u ≡ v
units_single s u v = single units s u v units_clear

-- the end of a units text is a date, and that is its reference
pub date_at_end : (s : List ℕ) (u : Units) → Derives units s u → (q : List ℕ) × Derives date_rule q u.reference
unfolding Derives
date_at_end s u (a, (p, q, e, m, (p1, q1, e1, k, (b, (p2, q2, e2, s2, (b2, (p3, q3, e3, s3, (b3, (p4, q4, e4, s4, d), y3)), y2)), y))), x) =
    (q4, subst (λ (w : WrittenDate). Derives date_rule q4 w) (sym (ap (λ (v : Units). v.reference) x ∙ (y ∙ (y2 ∙ y3)))) d)

-- what an answer says of the text
abbrev pub units_value : Answer Units → Option Units
units_value r = answered r

pub units_back : (o : Option Units) (r : Answer Units) → r ≡ units_answer o → o ≡ units_value r
units_back o r e = answer_back o r e

-- some texts, two of them refused
examples : (read units (bytes "days since 1850-01-01") ≡ some (record { mode = Mode.Fixed; period = Period.Day; reference = record { negative = false; year = 1850; month = 1; day = 1; time = midnight } }))
    × (read units (bytes "CalenDar  months SINCE -1-12-31") ≡ some (record { mode = Mode.Calendar; period = Period.Month; reference = record { negative = true; year = 1; month = 12; day = 31; time = midnight } }))
    × (read units (bytes "ss since 1970") ≡ none)
    × (read units (bytes "days since 1970-01-01Z") ≡ none)
unfolding read scan whole front back starts first nullable within inside
examples = (refl, refl, refl, refl)
