-- What stands at a place of a text, from what the code tests there: one byte, and a run of bytes.
use Prim.Native.Nat.{ℕ, zero, suc, ◌+◌, ◌-◌, ◌≤◌, ◌<◌}
use native.Mathlib.Omega.{arith}
use mathlib.Core.Path.{◌≡◌, refl, sym, ap, ◌∙◌}
use mathlib.Core.Bool.{Bool, true, false, ◌&&◌, ◌||◌, or-false}
use mathlib.Core.List.{List, [], ◌∷◌}
use lib.Dec.{leb, eqb}
use lib.ListN.{length, get_or, take, drop, drop_of_length-le, length-drop, length-append}
use lib.Seq.{drop-cons, drop-drop, take-append_seam, drop-append_seam}
use borrow.Author.Tests.{le-leb, lt-leb, leb-true, eqb-true, eqb-false}
use Rattle.std.specs.Prelude.{nat_eq}
use Rattle.std.specs.List.{list_any, take_while}
use Rattle.std.proofs.lemmas.List.Sums.{take_while-cons}
use Rattle.grammar.specs.Grammar.{Class, inside, within, every, starts}
use Rattle.grammar.specs.Reader.{front, back}
use Rattle.grammar.specs.Rules.{span, any_of}
use Rattle.grammar.proofs.Tests.{clash, and_parts, so_not}
use Rattle.grammar.proofs.Classes.{front_back}

-- ---- one byte

pub starts_past : (c : Class) (s : List ℕ) (at : ℕ) → length s ≤ at → starts c (drop at s) ≡ false
unfolding starts
starts_past c s at h = rw (drop_of_length-le s h)

pub starts_at : (c : Class) (s : List ℕ) (at : ℕ) → at < length s → starts c (drop at s) ≡ within c (get_or s at 0)
unfolding starts
starts_at c s at h = rw (drop-cons s at 0 h)

pub starts_lt : (c : Class) (s : List ℕ) (at : ℕ) → starts c (drop at s) ≡ true → at < length s
unfolding starts
starts_lt c [] zero e = clash e refl
starts_lt c (b ∷ s) zero e = omega arith
starts_lt c [] (suc n) e = clash e refl
starts_lt c (b ∷ s) (suc n) e = let h = starts_lt c s n e in omega arith

pub starts_within : (c : Class) (s : List ℕ) (at : ℕ) → starts c (drop at s) ≡ true → within c (get_or s at 0) ≡ true
starts_within c s at e = sym (starts_at c s at (starts_lt c s at e)) ∙ e

-- ---- a byte and a span

pub span_in : (lo hi b : ℕ) → lo ≤ b → b ≤ hi → within (span lo hi) b ≡ true
unfolding within inside
span_in lo hi b p q = rw (le-leb lo b p, le-leb b hi q)

-- the two tests of the code
pub span_is : (lo hi b : ℕ) → within (span lo hi) b ≡ (leb lo b && leb b hi)
unfolding within inside
span_is lo hi b = or-false (leb lo b && leb b hi)

pub next_is : (lo hi : ℕ) (s : List ℕ) (at : ℕ) → at < length s → starts (span lo hi) (drop at s) ≡ (leb lo (get_or s at 0) && leb (get_or s at 0) hi)
next_is lo hi s at h = starts_at (span lo hi) s at h ∙ span_is lo hi (get_or s at 0)

pub span_below : (lo hi b : ℕ) → b < lo → within (span lo hi) b ≡ false
unfolding within inside
span_below lo hi b p = rw (lt-leb lo b p)

pub span_above : (lo hi b : ℕ) → lo ≤ b → hi < b → within (span lo hi) b ≡ false
unfolding within inside
span_above lo hi b p q = rw (le-leb lo b p, lt-leb b hi q)

pub span_parts : (lo hi b : ℕ) → within (span lo hi) b ≡ true → (lo ≤ b) × (b ≤ hi)
unfolding within inside
span_parts lo hi b e = go (leb lo b) (leb b hi) refl refl e
  where
    go : (t u : Bool) → leb lo b ≡ t → leb b hi ≡ u → ((t && u) || false) ≡ true → (lo ≤ b) × (b ≤ hi)
    go true true p q r = (leb-true lo b p, leb-true b hi q)
    go true false p q r = clash r refl
    go false u p q r = clash r refl

pub span_at : (lo hi : ℕ) (s : List ℕ) (i : ℕ) → every (span lo hi) s ≡ true → i < length s → (lo ≤ get_or s i 0) × (get_or s i 0 ≤ hi)
unfolding every
span_at lo hi [] i e h = absurd (omega arith)
span_at lo hi (b ∷ s) zero e h = span_parts lo hi b (and_parts (within (span lo hi) b) (every (span lo hi) s) e).0
span_at lo hi (b ∷ s) (suc i) e h = span_at lo hi s i (and_parts (within (span lo hi) b) (every (span lo hi) s) e).1 (omega arith)

-- ---- a byte and a set

point : (k b : ℕ) → inside (record { lo = k; hi = k }) b ≡ nat_eq k b
unfolding inside
point k b = go (eqb k b) refl
  where
    go : (t : Bool) → eqb k b ≡ t → (leb k b && leb b k) ≡ t
    go true e = let h = eqb-true k b e in rw (le-leb k b (omega arith), le-leb b k (omega arith))
    go false e = so_not _ (λ q. let h = and_parts (leb k b) (leb b k) q in eqb-false k b e (omega (arith, leb-true k b h.0, leb-true b k h.1)))

-- the library's search of the set
pub set_any : (set : List ℕ) (b : ℕ) → within (any_of set) b ≡ list_any (λ y. nat_eq y b) set
unfolding within
set_any [] b = refl
set_any (k ∷ set) b = rw (point k b, set_any set b)

-- ---- a run, as the library takes it

pub front_while : (lo hi : ℕ) (x : List ℕ) → front (span lo hi) x ≡ take_while (λ b. leb lo b && leb b hi) x
unfolding front
front_while lo hi [] = refl
front_while lo hi (b ∷ x) = rw (span_is lo hi b, front_while lo hi x, take_while-cons {X = ℕ})

-- ---- a run from `at` that was found to end at `e`: it is in the text, it is the part between, and what is left starts at `e`

module _ (c : Class) (s : List ℕ) (at e : ℕ) (q : e ≡ at + length (front c (drop at s))) where
  pub run_end : at < e → e ≤ length s
  run_end h = let x = drop at s in omega (arith, ap length (front_back c x), length-append (front c x) (back c x), length-drop at s)

  pub run_part : take (e - at) (drop at s) ≡ front c (drop at s)
  run_part =
      let x = drop at s in
      let n : e - at ≡ length (front c x) = omega arith in
      rw n (ap (take (length (front c x))) (front_back c x) ∙ take-append_seam (front c x) (back c x))

  pub run_left : drop e s ≡ back c (drop at s)
  run_left =
      let x = drop at s in
      ap (λ (n : ℕ). drop n s) q ∙ sym (drop-drop (length (front c x)) at s)
      ∙ ap (drop (length (front c x))) (front_back c x) ∙ drop-append_seam (front c x) (back c x)
