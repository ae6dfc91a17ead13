-- The steps of the units text that are its own, in the form in which the code takes them.
use Prim.Native.Nat.{ℕ, ◌≤◌}
use mathlib.Core.Path.{◌≡◌, refl, ◌∙◌}
use mathlib.Core.Bool.{true, false}
use mathlib.Core.List.{List, [], ◌∷◌}
use mathlib.Core.Option.{some}
use lib.ListN.{length}
use Rattle.grammar.specs.Grammar.{Grammar, give, starts}
use Rattle.grammar.specs.Reader.{Scan, found, nothing, front, back, paired, given, nullable, first, scan}
use Rattle.grammar.specs.Rules.{◌⇒◌, span, either, spelled}
use Rattle.grammar.proofs.Steps.{absent, present, give_of, past, past_no, run_all}
use Rattle.axis_types.specs.declared.Period.{Period}
use Rattle.axis_types.specs.declared.Mode.{Mode}
use Rattle.date_text.specs.declared.WrittenDate.{WrittenDate}
use Rattle.date_text.specs.DateRule.{date_rule}
use Rattle.units_text.specs.UnitsRule.{period_word, spaces, mode, since, units_of, units}

pub spaces_is : (x : List ℕ) → 1 ≤ length (front (span 32 32) x) → scan spaces x ≡ found tt (back (span 32 32) x)
spaces_is x h = run_all (span 32 32) (λ s. some tt) x (some tt) h refl

-- ---- the mode

abbrev calendar_word : List ℕ
calendar_word = 67 ∷ 65 ∷ 76 ∷ 69 ∷ 78 ∷ 68 ∷ 65 ∷ 82 ∷ []

abbrev named : Grammar Mode
named = give (λ (v : Unit {0}). Mode.Calendar) (spelled calendar_word ⇒ spaces)

pub mode_none : (x : List ℕ) → starts (either 67) x ≡ false → scan mode x ≡ found Mode.Fixed x
unfolding first nullable
mode_none x e = absent Mode.Fixed named x e

module _ (x : List ℕ) (t : starts (either 67) x ≡ true) where
  here : scan mode x ≡ scan named x
  unfolding first nullable
  here = present Mode.Fixed named x t

  pub mode_no : scan (spelled calendar_word) x ≡ nothing → scan mode x ≡ nothing
  mode_no e = here ∙ give_of (λ (v : Unit {0}). Mode.Calendar) (spelled calendar_word ⇒ spaces) x nothing (past_no (spelled calendar_word) spaces x e)

  pub mode_is : (y : List ℕ) (o : Scan (Unit {0})) → scan (spelled calendar_word) x ≡ found tt y → scan spaces y ≡ o → scan mode x ≡ given (λ (v : Unit {0}). Mode.Calendar) o
  mode_is y o e f = here ∙ give_of (λ (v : Unit {0}). Mode.Calendar) (spelled calendar_word ⇒ spaces) x o (past (spelled calendar_word) spaces x y tt e ∙ f)

-- ---- the word since, and the date

abbrev since_word : List ℕ
since_word = 83 ∷ 73 ∷ 78 ∷ 67 ∷ 69 ∷ []

pub since_no : (x : List ℕ) → scan spaces x ≡ nothing → scan since x ≡ nothing
since_no x e = past_no spaces (spelled since_word ⇒ spaces ⇒ date_rule) x e

module _ (x y : List ℕ) (e : scan spaces x ≡ found tt y) where
  after_spaces : scan since x ≡ scan (spelled since_word ⇒ spaces ⇒ date_rule) y
  after_spaces = past spaces (spelled since_word ⇒ spaces ⇒ date_rule) x y tt e

  pub since_word_lem : scan (spelled since_word) y ≡ nothing → scan since x ≡ nothing
  since_word_lem f = after_spaces ∙ past_no (spelled since_word) (spaces ⇒ date_rule) y f

  pub since_gap : (z : List ℕ) → scan (spelled since_word) y ≡ found tt z → scan spaces z ≡ nothing → scan since x ≡ nothing
  since_gap z f g = after_spaces ∙ past (spelled since_word) (spaces ⇒ date_rule) y z tt f ∙ past_no spaces date_rule z g

  pub since_is : (z w : List ℕ) → scan (spelled since_word) y ≡ found tt z → scan spaces z ≡ found tt w → scan since x ≡ scan date_rule w
  since_is z w f g = after_spaces ∙ past (spelled since_word) (spaces ⇒ date_rule) y z tt f ∙ past spaces date_rule z w tt g

-- ---- the whole

pub units_mode : (x : List ℕ) → scan mode x ≡ nothing → scan units x ≡ nothing
unfolding scan
units_mode x e = rw e

module _ (x y : List ℕ) (m : Mode) (e : scan mode x ≡ found m y) where
  pub units_period : scan period_word y ≡ nothing → scan units x ≡ nothing
  unfolding scan
  units_period f = rw (e, f)

  pub units_is : (p : Period) (z : List ℕ) (o : Scan WrittenDate) → scan period_word y ≡ found p z → scan since z ≡ o → scan units x ≡ given units_of (paired m (paired p o))
  unfolding scan
  units_is p z o f g = rw (e, f, g)
