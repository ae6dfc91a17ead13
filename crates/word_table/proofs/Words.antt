-- Tables looked up by numbers, and what a table says of the words in it.
use Prim.Native.Nat.{ℕ, ◌<◌}
use native.Mathlib.Omega.{arith}
use mathlib.Core.Path.{◌≡◌, refl, sym, ap, ◌∙◌}
use mathlib.Core.Bool.{Bool, true, false, ◌&&◌, ◌||◌, cond, or-false}
use mathlib.Core.List.{List, [], ◌∷◌}
use mathlib.Core.Logic.{inl, inr}
use mathlib.Core.Option.{Option, none, some}
use lib.Dec.{leb, eqb}
use lib.ListN.{length}
use borrow.Author.Tests.{eqb-true, ne_eqb, leb-true}
use types.Run.{OneOf}
use Rattle.grammar.specs.Rules.{same}
use Rattle.grammar.proofs.Tests.{clash, none_some, and_parts}
use Rattle.grammar.proofs.Same.{same_true, same_length_no}
use Rattle.word_table.specs.Table.{Row, row, among, lookup}
use Rattle.word_table.specs.Packed.{packed}
use Rattle.word_table.proofs.Packed.{headed, packed_same}

-- a test that every word of a list, and of a table, passes
abbrev pub all : (List ℕ → Bool) → List (List ℕ) → Bool
all f [] = true
all f (n ∷ t) = f n && all f t

abbrev pub words : {A : Type 0} → (List ℕ → Bool) → List (Row A) → Bool
words f [] = true
words f (r ∷ t) = all f r.words && words f t

-- ---- by numbers

abbrev pub numbers : List (List ℕ) → List ℕ
numbers [] = []
numbers (n ∷ t) = packed n ∷ numbers t

abbrev pub keyed : List ℕ → ℕ → Bool
keyed [] x = false
keyed (k ∷ ks) x = eqb x k || keyed ks x

abbrev pub by_number : {A : Type 0} → List (Row A) → ℕ → Option A
by_number [] x = none
by_number (r ∷ t) x = cond (keyed (numbers r.words) x) (some r.means) (by_number t x)

among_keyed : (t : List (List ℕ)) (w : List ℕ) → all headed t ≡ true → headed w ≡ true → among t w ≡ keyed (numbers t) (packed w)
among_keyed [] w g h = refl
among_keyed (n ∷ t) w g h =
    let p = and_parts (headed n) (all headed t) g in
    rw (packed_same w n h p.0, among_keyed t w p.1 h)

pub lookup_packed : {A : Type 0} (t : List (Row A)) (w : List ℕ) → words headed t ≡ true → headed w ≡ true → lookup t w ≡ by_number t (packed w)
lookup_packed [] w g h = refl
lookup_packed (r ∷ t) w g h =
    let p = and_parts (all headed r.words) (words headed t) g in
    rw (among_keyed r.words w p.0 h, lookup_packed t w p.1 h)

-- the keys of an arm of a `match`: numbers that all mean the same
abbrev pub Each : {A : Type 0} → List (Row A) → List ℕ → A → Type 0
Each t [] a = Unit {0}
Each t (k ∷ ks) a = (by_number t k ≡ some a) × Each t ks a

pub each_key : {A : Type 0} (t : List (Row A)) (ks : List ℕ) (a : A) (x : ℕ) → Each t ks a → OneOf ks x → by_number t x ≡ some a
each_key t [] a x u o = absurd o
each_key t (k ∷ []) a x (e, u) o = ap (by_number t) o ∙ e
each_key t (k ∷ m ∷ ks) a x (e, u) (inl o) = ap (by_number t) o ∙ e
each_key t (k ∷ m ∷ ks) a x (e, u) (inr o) = each_key t (m ∷ ks) a x u o

-- a number of 64 bits that is no key of an arm is none of the numbers that are keys or do not fit
abbrev pub covered : List ℕ → List ℕ → Bool
covered [] ks = true
covered (l ∷ ls) ks = (keyed ks l || leb 18446744073709551616 l) && covered ls ks

key_is : (ks : List ℕ) (x : ℕ) → keyed ks x ≡ true → OneOf ks x
key_is [] x e = clash e refl
key_is (k ∷ []) x e = eqb-true x k (sym (or-false (eqb x k)) ∙ e)
key_is (k ∷ m ∷ ks) x e = go (eqb x k) refl e (λ y. key_is (m ∷ ks) x y)
  where
    go : (b : Bool) → eqb x k ≡ b → (b || keyed (m ∷ ks) x) ≡ true → (keyed (m ∷ ks) x ≡ true → OneOf (m ∷ ks) x) → OneOf (k ∷ m ∷ ks) x
    go true y z i = inl (eqb-true x k y)
    go false y z i = inr (i z)

pub no_key : (ls ks : List ℕ) (x : ℕ) → covered ls ks ≡ true → x < 18446744073709551616 → (OneOf ks x → ⊥) → keyed ls x ≡ false
no_key [] ks x g h n = refl
no_key (l ∷ ls) ks x g h n =
    let p = and_parts (keyed ks l || leb 18446744073709551616 l) (covered ls ks) g in
    rw (ne_eqb x l (λ e. go (keyed ks l) refl p.0 e)) (no_key ls ks x p.1 h n)
  where
    go : (b : Bool) → keyed ks l ≡ b → (b || leb 18446744073709551616 l) ≡ true → x ≡ l → ⊥
    go true y z e = n (key_is ks x (rw e y))
    go false y z e = omega (arith, leb-true 18446744073709551616 l z)

-- ---- words of more than eight bytes

abbrev pub longer : List (List ℕ) → List (List ℕ)
longer [] = []
longer (n ∷ t) = cond (leb (length n) 8) (longer t) (n ∷ longer t)

abbrev pub longer_rows : {A : Type 0} → List (Row A) → List (Row A)
longer_rows [] = []
longer_rows (r ∷ t) = row (longer r.words) r.means ∷ longer_rows t

among_long : (t : List (List ℕ)) (w : List ℕ) → 8 < length w → among t w ≡ among (longer t) w
among_long [] w h = refl
among_long (n ∷ t) w h = go (leb (length n) 8) refl (among_long t w h)
  where
    go : (b : Bool) → leb (length n) 8 ≡ b → among t w ≡ among (longer t) w → among (n ∷ t) w ≡ among (cond b (longer t) (n ∷ longer t)) w
    go true x i = rw (same_length_no w n (λ l. omega (arith, leb-true (length n) 8 x))) i
    go false x i = rw i

pub lookup_long : {A : Type 0} (t : List (Row A)) (w : List ℕ) → 8 < length w → lookup t w ≡ lookup (longer_rows t) w
lookup_long [] w h = refl
lookup_long (r ∷ t) w h = rw (among_long r.words w h, lookup_long t w h)

-- ---- what every word of the table passes, a word that is found passes

among_word : (f : List ℕ → Bool) (t : List (List ℕ)) (w : List ℕ) → all f t ≡ true → among t w ≡ true → f w ≡ true
among_word f [] w g e = clash e refl
among_word f (n ∷ t) w g e = let h = and_parts (f n) (all f t) g in go (same w n) refl e h.0 (λ y. among_word f t w h.1 y)
  where
    go : (b : Bool) → same w n ≡ b → (b || among t w) ≡ true → f n ≡ true → (among t w ≡ true → f w ≡ true) → f w ≡ true
    go true y z k i = rw (same_true w n y) k
    go false y z k i = i z

pub lookup_word : {A : Type 0} (f : List ℕ → Bool) (t : List (Row A)) (w : List ℕ) (a : A) → words f t ≡ true → lookup t w ≡ some a → f w ≡ true
lookup_word f [] w a g e = none_some e
lookup_word f (r ∷ t) w a g e = let h = and_parts (all f r.words) (words f t) g in go (among r.words w) refl e h.0 (λ y. lookup_word f t w a h.1 y)
  where
    go : (b : Bool) → among r.words w ≡ b → cond b (some r.means) (lookup t w) ≡ some a → all f r.words ≡ true → (lookup t w ≡ some a → f w ≡ true) → f w ≡ true
    go true y z k i = among_word f r.words w k y
    go false y z k i = i z

pub lookup_not : {A : Type 0} (f : List ℕ → Bool) (t : List (Row A)) (w : List ℕ) → words f t ≡ true → f w ≡ false → lookup t w ≡ none
lookup_not {A} f t w g n = go (lookup t w) refl
  where
    go : (o : Option A) → lookup t w ≡ o → lookup t w ≡ none
    go none e = e
    go (some a) e = clash (lookup_word f t w a g e) n

-- ---- a table in which each row has one word, that of its meaning

abbrev pub Single : {A : Type 0} → (A → List ℕ) → List (Row A) → Type 0
Single f [] = Unit {0}
Single f (r ∷ t) = (r.words ≡ f r.means ∷ []) × Single f t

pub lookup_single : {A : Type 0} (f : A → List ℕ) (t : List (Row A)) (w : List ℕ) (a : A) → Single f t → lookup t w ≡ some a → w ≡ f a
lookup_single f [] w a u e = none_some e
lookup_single f (r ∷ t) w a (p, u) e = go (among r.words w) refl e (λ y. lookup_single f t w a u y)
  where
    go : (b : Bool) → among r.words w ≡ b → cond b (some r.means) (lookup t w) ≡ some a → (lookup t w ≡ some a → w ≡ f a) → w ≡ f a
    go true y z i =
        let m : r.means ≡ a = cc in
        same_true w (f r.means) (sym (or-false (same w (f r.means))) ∙ (ap (λ (l : List (List ℕ)). among l w) (sym p) ∙ y)) ∙ ap f m
    go false y z i = i z
