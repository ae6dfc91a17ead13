-- The rule of an offset as the code reads it: a run of digits as a whole, and what stands after a first byte.
use Prim.Native.Nat.{ℕ, ◌≤◌, ◌<◌}
use native.Mathlib.Omega.{arith}
use mathlib.Core.Path.{◌≡◌, refl, sym, ap, ◌∙◌}
use mathlib.Core.Bool.{Bool, true, false, cond}
use mathlib.Core.List.{List, [], ◌∷◌}
use mathlib.Core.Option.{Option, none, some}
use lib.Dec.{leb}
use lib.ListN.{length, drop}
use borrow.Author.Tests.{le-leb, lt-leb, eq-eqb, ne_eqb}
use Rattle.grammar.specs.Grammar.{Class, every, starts, Grammar, one, run, ◌or◌, give, Derives}
use Rattle.grammar.specs.Reader.{Scan, found, nothing, given, nullable, first, scan, whole, read}
use Rattle.grammar.specs.Clear.{clear}
use Rattle.grammar.specs.Rules.{◌⇒◌, digit, decimal, number}
use Rattle.grammar.proofs.Tests.{clash, none_some}
use Rattle.grammar.proofs.Classes.{starts_every}
use Rattle.grammar.proofs.Reading.{reads, underived}
use Rattle.grammar.proofs.Steps.{after, or_first, or_second}
use Rattle.axis_types.specs.declared.Offset.{Offset}
use Rattle.offset_text.specs.OffsetRule.{at_most, digits_up_to, hex_digit, hexadecimal, pattern}
use Rattle.offset_text.specs.Closed.{digits_from}
use Rattle.offset_text.proofs.Digits.{decimal_found, hex_found}

-- ---- a run that is the whole text

module _ {A : Type 0} (c : Class) (val : List ℕ → Option A) where
  pub run_read : (s : List ℕ) → 1 ≤ length s → read (run c c val) s ≡ cond (every c s) (val s) none
  unfolding Derives clear
  run_read s l = go (every c s) refl (val s) refl
    where
      go : (t : Bool) → every c s ≡ t → (o : Option A) → val s ≡ o → read (run c c val) s ≡ cond t o none
      go true e (some v) f = reads (run c c val) s v refl (starts_every c s l e, e, f)
      go true e none f = underived (run c c val) s (λ v d. none_some (sym f ∙ d.2))
      go false e o f = underived (run c c val) s (λ v d. clash d.1 e)

  pub run_none : (s : List ℕ) → length s < 1 → read (run c c val) s ≡ none
  unfolding Derives starts
  run_none [] l = underived (run c c val) [] (λ v d. clash d.0 refl)
  run_none (b ∷ s) l = absurd (omega arith)

-- ---- the value of a text, and a byte before it

abbrev pub mapped : {A B : Type 0} → (A → B) → Option A → Option B
mapped f none = none
mapped f (some a) = some (f a)

pub give_read : {A B : Type 0} (f : A → B) (g : Grammar A) (s : List ℕ) → read (give f g) s ≡ mapped f (read g s)
unfolding read scan whole
give_read {A} f g s = go (scan g s)
  where
    go : (o : Scan A) → whole (given f o) ≡ mapped f (whole o)
    go nothing = refl
    go (found v []) = refl
    go (found v (b ∷ r)) = refl

module _ {A : Type 0} (c : Class) (g h : Grammar A) (s : List ℕ) where
  pub first_read : starts c s ≡ true → read (one c ⇒ g or h) s ≡ read g (drop 1 s)
  unfolding read first nullable
  first_read e = ap whole (or_first (one c ⇒ g) h s e ∙ after c g s 0 e)

  pub else_read : starts c s ≡ false → read (one c ⇒ g or h) s ≡ read h s
  unfolding read first nullable
  else_read e = ap whole (or_second (one c ⇒ g) h s e)

none_both : {A : Type 0} (t : Bool) → cond {A = Option A} t none none ≡ none
none_both true = refl
none_both false = refl

-- ---- 1 to 19 decimal digits

pub number_read : (s : List ℕ) → 1 ≤ length s → length s ≤ 19 → read (number 19) s ≡ digits_from 10 0 s
number_read s l h =
    run_read digit _ s l
    ∙ (ap (λ (t : Bool). cond (every digit s) (cond t (some (decimal 0 s)) none) none) (le-leb (length s) 19 h) ∙ sym (decimal_found s))

pub number_long : (s : List ℕ) → 19 < length s → read (number 19) s ≡ none
number_long s h =
    run_read digit _ s (omega arith)
    ∙ (ap (λ (t : Bool). cond (every digit s) (cond t (some (decimal 0 s)) none) none) (lt-leb (length s) 19 h) ∙ none_both (every digit s))

abbrev limited : ℕ → Option ℕ → Option ℕ
limited most none = none
limited most (some n) = at_most most n

up_to : (most : ℕ) (s : List ℕ) → read (digits_up_to most) s ≡ limited most (read (number 19) s)
up_to most [] = run_none digit _ [] (omega arith) ∙ ap (limited most) (sym (run_none digit _ [] (omega arith)))
up_to most (b ∷ s) =
    run_read digit _ (b ∷ s) (omega arith)
    ∙ (go (every digit (b ∷ s)) (leb (length (b ∷ s)) 19) (decimal 0 (b ∷ s)) ∙ ap (limited most) (sym (run_read digit _ (b ∷ s) (omega arith))))
  where
    go : (t u : Bool) (n : ℕ) → cond t (cond u (at_most most n) none) none ≡ limited most (cond t (cond u (some n) none) none)
    go true true n = refl
    go true false n = refl
    go false u n = refl

-- a whole offset, from what the code finds and tests
module _ (f : ℕ → Offset) (most : ℕ) (s : List ℕ) where
  whole_of_lem : {o : Option ℕ} → read (number 19) s ≡ o → read (give f (digits_up_to most)) s ≡ mapped f (limited most o)
  whole_of_lem e = give_read f (digits_up_to most) s ∙ ap (mapped f) (up_to most s ∙ ap (limited most) e)

  pub whole_none : read (number 19) s ≡ none → read (give f (digits_up_to most)) s ≡ none
  whole_none e = whole_of_lem e

  pub whole_large : (n : ℕ) → read (number 19) s ≡ some n → most < n → read (give f (digits_up_to most)) s ≡ none
  whole_large n e h = whole_of_lem e ∙ rw (lt-leb n most h)

  pub whole_is : (n : ℕ) → read (number 19) s ≡ some n → n ≤ most → read (give f (digits_up_to most)) s ≡ some (f n)
  whole_is n e h = whole_of_lem e ∙ rw (le-leb n most h)

-- ---- 16 hexadecimal digits

pattern_read : (s : List ℕ) → length s ≡ 16 → read pattern s ≡ digits_from 16 0 s
pattern_read s h =
    run_read hex_digit _ s (omega arith)
    ∙ (ap (λ (t : Bool). cond (every hex_digit s) (cond t (some (hexadecimal 0 s)) none) none) (eq-eqb (length s) 16 h) ∙ sym (hex_found s))

pattern_other : (s : List ℕ) → (length s ≡ 16 → ⊥) → read pattern s ≡ none
pattern_other [] h = run_none hex_digit _ [] (omega arith)
pattern_other (b ∷ s) h =
    run_read hex_digit _ (b ∷ s) (omega arith)
    ∙ (ap (λ (t : Bool). cond (every hex_digit (b ∷ s)) (cond t (some (hexadecimal 0 (b ∷ s))) none) none) (ne_eqb (length (b ∷ s)) 16 h) ∙ none_both (every hex_digit (b ∷ s)))

-- a double, from what the code finds and tests
module _ (f : ℕ → Offset) (s : List ℕ) where
  pub bits_other : (length s ≡ 16 → ⊥) → read (give f pattern) s ≡ none
  bits_other h = give_read f pattern s ∙ ap (mapped f) (pattern_other s h)

  pub bits_read : {o : Option ℕ} → length s ≡ 16 → digits_from 16 0 s ≡ o → read (give f pattern) s ≡ mapped f o
  bits_read h e = give_read f pattern s ∙ ap (mapped f) (pattern_read s h ∙ e)
