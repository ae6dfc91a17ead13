-- What `type_of` promises, in terms of the rule alone: the rule derives the text with the type that is answered, and derives no text that
-- is ill-formed.
use Prim.Native.Nat.{ℕ}
use mathlib.Core.Path.{◌≡◌, refl, sym, ap}
use mathlib.Core.Bool.{true}
use mathlib.Core.List.{List}
use mathlib.Core.Logic.{◌↔◌}
use mathlib.Core.Option.{Option, none, some}
use Rattle.std.specs.Prelude.{Option as Answer, Some, None}
use Rattle.grammar.specs.Answers.{answered}
use Rattle.grammar.proofs.Answers.{answer_back}
use Rattle.grammar.specs.Grammar.{within, inside, starts, Derives}
use Rattle.grammar.specs.Reader.{nullable, first, front, back, scan, whole, read}
use Rattle.grammar.specs.Clear.{extends, outside, apart, clear}
use Rattle.grammar.specs.Rules.{bytes}
use Rattle.grammar.proofs.Reading.{reads, derives, refused, underived}
use Rattle.datetime64_type.specs.declared.ByteOrder.{ByteOrder}
use Rattle.datetime64_type.specs.declared.UnitCode.{UnitCode}
use Rattle.datetime64_type.specs.declared.Datetime64Type.{Datetime64Type}
use Rattle.datetime64_type.specs.Identifier.{identifier, type_answer}

-- in the rule the next byte tells which way each choice goes
pub identifier_clear : clear identifier ≡ true
unfolding clear nullable first extends apart outside
identifier_clear = refl

-- what an answer says of the text
abbrev pub type_value : Answer Datetime64Type → Option Datetime64Type
type_value r = answered r

pub type_back : (o : Option Datetime64Type) (r : Answer Datetime64Type) → type_answer o ≡ r → o ≡ type_value r
type_back o r e = answer_back o r (sym e)

module _ (s : List ℕ) where
  pub type_is : (t : Datetime64Type) → (type_answer (read identifier s) ≡ Some t) ↔ Derives identifier s t
  type_is t = ((λ e. derives identifier s t (type_back (read identifier s) (Some t) e)), λ d. ap type_answer (reads identifier s t identifier_clear d))

  pub type_ill_formed : (type_answer (read identifier s) ≡ None) ↔ ((t : Datetime64Type) → Derives identifier s t → ⊥)
  type_ill_formed = ((λ e. refused identifier s identifier_clear (type_back (read identifier s) None e)), λ n. ap type_answer (underived identifier s n))

-- some texts: `M` and `m`, then a span of time, two other marks of a byte order, a count, a unit in the other case, what follows the bracket
examples : (read identifier (bytes "<M8[M]") ≡ some (record { order = ByteOrder.Little; unit = UnitCode.Month }))
    × (read identifier (bytes ">M8[m]") ≡ some (record { order = ByteOrder.Big; unit = UnitCode.Minute }))
    × (read identifier (bytes "<m8[s]") ≡ none)
    × (read identifier (bytes "|M8[s]") ≡ none)
    × (read identifier (bytes "=M8[s]") ≡ none)
    × (read identifier (bytes "<M8[25s]") ≡ none)
    × (read identifier (bytes "<M8[MS]") ≡ none)
    × (read identifier (bytes "<M8[ns] ") ≡ none)
unfolding read scan whole front back starts first nullable within inside
examples = (refl, refl, refl, refl, refl, refl, refl, refl)
