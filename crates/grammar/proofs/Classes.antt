-- Classes of bytes: joined, apart, and the longest front of a text in one.
use Prim.Native.Nat.{ℕ, ◌≤◌}
use native.Mathlib.Omega.{arith}
use mathlib.Core.Path.{◌≡◌, refl, sym, ap, ◌∙◌}
use mathlib.Core.Bool.{Bool, true, false, ◌||◌, cond}
use mathlib.Core.List.{List, [], ◌∷◌, ◌++◌}
use lib.Dec.{leb, ltb}
use lib.ListN.{length}
use borrow.Author.Tests.{ltb-true, leb-true}
use Rattle.grammar.specs.Grammar.{Range, Class, inside, within, every, starts}
use Rattle.grammar.specs.Reader.{front, back}
use Rattle.grammar.specs.Clear.{outside, apart}
use Rattle.grammar.proofs.Tests.{clash, and_parts, or_neither}

-- ---- classes that are joined

pub within_append : (c d : Class) (b : ℕ) → within (c ++ d) b ≡ (within c b || within d b)
unfolding within
within_append [] d b = refl
within_append (k ∷ c) d b = go (inside k b) (within_append c d b)
  where
    go : (t : Bool) → within (c ++ d) b ≡ (within c b || within d b) → (t || within (c ++ d) b) ≡ ((t || within c b) || within d b)
    go true e = refl
    go false e = e

pub starts_append : (c d : Class) (s : List ℕ) → starts (c ++ d) s ≡ (starts c s || starts d s)
unfolding starts
starts_append c d [] = refl
starts_append c d (b ∷ s) = within_append c d b

pub starts_neither : (c d : Class) (s : List ℕ) → starts (c ++ d) s ≡ false → (starts c s ≡ false) × (starts d s ≡ false)
starts_neither c d s e = or_neither (starts c s) (starts d s) (sym (starts_append c d s) ∙ e)

-- ---- a text that is in a class as a whole

pub every_append : (c : Class) (s t : List ℕ) → every c s ≡ true → every c t ≡ true → every c (s ++ t) ≡ true
unfolding every
every_append c [] t p q = q
every_append c (b ∷ s) t p q = let h = and_parts (within c b) (every c s) p in rw h.0 (every_append c s t h.1 q)

pub starts_every : (c : Class) (s : List ℕ) → 1 ≤ length s → every c s ≡ true → starts c s ≡ true
unfolding every starts
starts_every c [] l e = absurd (omega arith)
starts_every c (b ∷ s) l e = (and_parts (within c b) (every c s) e).0

-- ---- classes that are apart have no byte in common

outside_never : (k : Range) (d : Class) (b : ℕ) → outside k d ≡ true → inside k b ≡ true → within d b ≡ true → ⊥
unfolding outside inside within
outside_never k [] b a i w = clash w refl
outside_never k (m ∷ d) b a i w = go (λ x y. outside_never k d b x i y) (inside m b) refl
  where
    h : ((ltb k.hi m.lo || ltb m.hi k.lo) ≡ true) × (outside k d ≡ true)
    h = and_parts _ _ a

    hk : (leb k.lo b ≡ true) × (leb b k.hi ≡ true)
    hk = and_parts (leb k.lo b) (leb b k.hi) i

    disjoint : (t u : Bool) → ltb k.hi m.lo ≡ t → ltb m.hi k.lo ≡ u → (t || u) ≡ true → inside m b ≡ true → ⊥
    disjoint true u p q o j =
        let hm = and_parts (leb m.lo b) (leb b m.hi) j in
        omega (arith, ltb-true k.hi m.lo p, leb-true b k.hi hk.1, leb-true m.lo b hm.0)
    disjoint false true p q o j =
        let hm = and_parts (leb m.lo b) (leb b m.hi) j in
        omega (arith, ltb-true m.hi k.lo q, leb-true k.lo b hk.0, leb-true b m.hi hm.1)
    disjoint false false p q o j = clash o refl

    go : (outside k d ≡ true → within d b ≡ true → ⊥) → (t : Bool) → inside m b ≡ t → ⊥
    go more true j = disjoint _ _ refl refl h.0 j
    go more false j = more h.1 (rw j at w)

pub apart_never : (c d : Class) (b : ℕ) → apart c d ≡ true → within c b ≡ true → within d b ≡ true → ⊥
unfolding apart within
apart_never [] d b a u w = clash u refl
apart_never (k ∷ c) d b a u w = go (λ x y. apart_never c d b x y w) (inside k b) refl
  where
    h : (outside k d ≡ true) × (apart c d ≡ true)
    h = and_parts _ _ a

    go : (apart c d ≡ true → within c b ≡ true → ⊥) → (t : Bool) → inside k b ≡ t → ⊥
    go more true i = outside_never k d b h.0 i w
    go more false i = more h.1 (rw i at u)

-- ---- the longest front in a class, and what is left

-- a run in the class, before a text that does not start in it, is the longest front
pub front_run : (c : Class) (p r : List ℕ) → every c p ≡ true → starts c r ≡ false → front c (p ++ r) ≡ p
unfolding every front starts
front_run c [] [] w e = refl
front_run c [] (b ∷ r) w e = rw e
front_run c (b ∷ p) r w e = let h = and_parts (within c b) (every c p) w in rw h.0 (ap (◌∷◌ b) (front_run c p r h.1 e))

pub back_run : (c : Class) (p r : List ℕ) → every c p ≡ true → starts c r ≡ false → back c (p ++ r) ≡ r
unfolding every back starts
back_run c [] [] w e = refl
back_run c [] (b ∷ r) w e = rw e
back_run c (b ∷ p) r w e = let h = and_parts (within c b) (every c p) w in rw h.0 (back_run c p r h.1 e)

pub front_back : (c : Class) (s : List ℕ) → s ≡ front c s ++ back c s
unfolding front back
front_back c [] = refl
front_back c (b ∷ s) = go (within c b) (front_back c s)
  where
    go : (t : Bool) → s ≡ front c s ++ back c s → b ∷ s ≡ cond t (b ∷ front c s) [] ++ cond t (back c s) (b ∷ s)
    go true e = ap (◌∷◌ b) e
    go false e = refl

pub front_every : (c : Class) (s : List ℕ) → every c (front c s) ≡ true
unfolding front every
front_every c [] = refl
front_every c (b ∷ s) = go (within c b) refl (front_every c s)
  where
    go : (t : Bool) → within c b ≡ t → every c (front c s) ≡ true → every c (cond t (b ∷ front c s) []) ≡ true
    go true w e = rw w e
    go false w e = refl
