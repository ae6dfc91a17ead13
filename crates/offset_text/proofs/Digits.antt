-- Digits: the value of each, the number that they write, digit by digit, and how large it can be.
use Prim.Native.Nat.{ℕ, suc, ◌+◌, ◌-◌, ◌*◌, ◌^◌, ◌≤◌, ◌<◌}
use native.Mathlib.Omega.{arith}
use native.Mathlib.Numerals.{add-one}
use native.Mathlib.Nat.{pow-suc, suc-mul, mul-le-mul_right}
use mathlib.Core.Path.{◌≡◌, refl, sym, ap, ◌∙◌}
use mathlib.Core.Bool.{Bool, true, false, ◌&&◌, ◌||◌, cond}
use mathlib.Core.List.{List, [], ◌∷◌}
use mathlib.Core.Option.{none, some}
use lib.Dec.{ltb}
use lib.ListN.{length, get_or, drop, drop_of_length-le}
use lib.Seq.{drop-cons}
use borrow.Author.Tests.{lt-ltb, le-ltb}
use Rattle.grammar.specs.Grammar.{Class, within, every}
use Rattle.grammar.specs.Rules.{span, digit, decimal}
use Rattle.grammar.proofs.Classes.{within_append}
use Rattle.grammar.proofs.Places.{span_in, span_below, span_above, span_parts}
use Rattle.offset_text.specs.OffsetRule.{hex_digit, digit_of, hexadecimal}
use Rattle.offset_text.specs.Closed.{digits_from}

-- ---- the value of a byte, from what the code tests

pub value_digit : (b : ℕ) → 48 ≤ b → b ≤ 57 → b - 48 ≡ digit_of b
value_digit b l h = rw (span_in 48 57 b l h)

pub value_letter : (b : ℕ) → 97 ≤ b → b ≤ 102 → b - 97 + 10 ≡ digit_of b
value_letter b l h = rw (span_above 48 57 b (omega arith) (omega arith), span_in 97 102 b l h)

no_value : (b : ℕ) → within digit b ≡ false → within (span 97 102) b ≡ false → 16 ≡ digit_of b
no_value b p q = rw (p, q)

pub value_below : (b : ℕ) → b < 48 → 16 ≡ digit_of b
value_below b h = no_value b (span_below 48 57 b h) (span_below 97 102 b (omega arith))

pub value_between : (b : ℕ) → 57 < b → b < 97 → 16 ≡ digit_of b
value_between b l h = no_value b (span_above 48 57 b (omega arith) l) (span_below 97 102 b h)

pub value_above : (b : ℕ) → 102 < b → 16 ≡ digit_of b
value_above b h = no_value b (span_above 48 57 b (omega arith) (omega arith)) (span_above 97 102 b (omega arith) h)

-- ---- which bytes are digits, and the number that they write

-- the digits of a base: their class, and the number that a text of them writes after digits that write v
record Writes (base : ℕ) (c : Class) (value : ℕ → List ℕ → ℕ) : Type 0 where
  test : (b : ℕ) → within c b ≡ ltb (digit_of b) base
  ends : (v : ℕ) → value v [] ≡ v
  goes_on : (v b : ℕ) (s : List ℕ) → within c b ≡ true → value (v * base + digit_of b) s ≡ value v (b ∷ s)

module _ (base : ℕ) (c : Class) (value : ℕ → List ℕ → ℕ) (w : Writes base c value) where
  found : (v : ℕ) (s : List ℕ) → digits_from base v s ≡ cond (every c s) (some (value v s)) none
  unfolding every
  found v [] = ap some (sym (w.ends v))
  found v (b ∷ s) = ap (λ (t : Bool). cond t (digits_from base (v * base + digit_of b) s) none) (sym (w.test b)) ∙ go (within c b) refl (found (v * base + digit_of b) s)
    where
      go : (t : Bool) → within c b ≡ t → digits_from base (v * base + digit_of b) s ≡ cond (every c s) (some (value (v * base + digit_of b) s)) none → cond t (digits_from base (v * base + digit_of b) s) none ≡ cond (t && every c s) (some (value v (b ∷ s))) none
      go true e h = h ∙ ap (λ (n : ℕ). cond (every c s) (some n) none) (w.goes_on v b s e)
      go false e h = refl

-- decimal and lower-case hexadecimal digits
digit_test : (b : ℕ) → within digit b ≡ ltb (digit_of b) 10
digit_test b = go (within digit b) refl (within (span 97 102) b) refl
  where
    go : (x : Bool) → within digit b ≡ x → (y : Bool) → within (span 97 102) b ≡ y → x ≡ ltb (cond x (b - 48) (cond y (b - 97 + 10) 16)) 10
    go true p y q = sym (lt-ltb (b - 48) 10 (omega (arith, span_parts 48 57 b p)))
    go false p true q = sym (le-ltb (b - 97 + 10) 10 (omega arith))
    go false p false q = refl

hex_test : (b : ℕ) → within hex_digit b ≡ ltb (digit_of b) 16
hex_test b = within_append digit (span 97 102) b ∙ go (within digit b) refl (within (span 97 102) b) refl
  where
    go : (x : Bool) → within digit b ≡ x → (y : Bool) → within (span 97 102) b ≡ y → (x || y) ≡ ltb (cond x (b - 48) (cond y (b - 97 + 10) 16)) 16
    go true p y q = sym (lt-ltb (b - 48) 16 (omega (arith, span_parts 48 57 b p)))
    go false p true q = sym (lt-ltb (b - 97 + 10) 16 (omega (arith, span_parts 97 102 b q)))
    go false p false q = refl

pub decimal_found : (s : List ℕ) → digits_from 10 0 s ≡ cond (every digit s) (some (decimal 0 s)) none
decimal_found s = found 10 digit decimal (record { test = digit_test; ends = λ v. refl; goes_on = λ v b t e. let p = span_parts 48 57 b e in ap (λ (d : ℕ). decimal (v * 10 + d) t) (sym (value_digit b p.0 p.1)) }) 0 s

pub hex_found : (s : List ℕ) → digits_from 16 0 s ≡ cond (every hex_digit s) (some (hexadecimal 0 s)) none
hex_found s = found 16 hex_digit hexadecimal (record { test = hex_test; ends = λ v. refl; goes_on = λ v b t e. refl }) 0 s

-- ---- one digit more

module _ (base v i d : ℕ) (s : List ℕ) (h : i < length s) (e : d ≡ digit_of (get_or s i 0)) where
  pub digits_next : d < base → digits_from base (v * base + d) (drop (i + 1) s) ≡ digits_from base v (drop i s)
  digits_next l = rw (add-one i, drop-cons s i 0 h, ← e, lt-ltb d base l)

  pub digits_stop : base ≤ d → digits_from base v (drop i s) ≡ none
  digits_stop l = rw (drop-cons s i 0 h, ← e, le-ltb d base l)

pub digits_end : (base v i : ℕ) (s : List ℕ) → length s ≤ i → digits_from base v (drop i s) ≡ some v
digits_end base v i s h = rw (drop_of_length-le s h)

-- a number of i digits and one digit more
pub power_next : (base v i d : ℕ) → v < base ^ i → d < base → v * base + d < base ^ (i + 1)
power_next base v i d h l =
    let p : suc v * base ≤ base ^ i * base = mul-le-mul_right base h in
    let q = suc-mul v base in
    rw (add-one i, pow-suc base i) (omega arith)
