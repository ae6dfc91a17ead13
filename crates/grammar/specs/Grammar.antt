-- Grammars as data, and the texts that a grammar derives, each with its value.
-- This is the meaning of every text rule of the library: a rule is a value of `Grammar`, and a text follows it, with a value, where
-- `Derives` says so. A text is its list of bytes.
use Rattle.std.specs.Prelude.{ℕ, ◌≡◌, Bool, true, false, ◌&&◌, ◌||◌, List, [], ◌∷◌, ◌++◌, ◌⊎◌, leb}
use Rattle.std.proofs.Math.Option.{Option, some}

-- the bytes from lo to hi, and a class of bytes: those of some ranges
pub record Range : Type 0 where
  pub lo : ℕ
  pub hi : ℕ

abbrev pub Class : Type 0
Class = List Range

unfoldable pub inside : Range → ℕ → Bool
inside k b = leb k.lo b && leb b k.hi

unfoldable pub within : Class → ℕ → Bool
within [] b = false
within (k ∷ c) b = inside k b || within c b

-- every byte of the text is in the class
unfoldable pub every : Class → List ℕ → Bool
every c [] = true
every c (b ∷ s) = within c b && every c s

-- the text starts with a byte of the class
unfoldable pub starts : Class → List ℕ → Bool
starts c [] = false
starts c (b ∷ s) = within c b

-- A grammar whose texts have values in A:
--   empty         the empty text
--   one c         a byte of the class c, for itself
--   run h c val   a run of bytes of the class c whose first byte is in h, for the value that val gives it, if any
--   g ▸ h         a text of g and then one of h, for the pair of their values
--   g or h        a text of g, or one of h
--   maybe d g     a text of g, or the empty text for the value d
--   give f g      a text of g, for f of its value
pub data Grammar : Type 0 → Type 1 where
  empty : Grammar (Unit {0})
  one : Class → Grammar ℕ
  run : {A : Type 0} → Class → Class → (List ℕ → Option A) → Grammar A
  ◌▸◌ : {A B : Type 0} → Grammar A → Grammar B → Grammar (A × B)
  ◌or◌ : {A : Type 0} → Grammar A → Grammar A → Grammar A
  maybe : {A : Type 0} → A → Grammar A → Grammar A
  give : {A B : Type 0} → (A → B) → Grammar A → Grammar B

infixr 40 ◌▸◌
infixr 35 ◌or◌
-- the grammar derives the text s with the value v
unfoldable pub Derives : {A : Type 0} → Grammar A → List ℕ → A → Type 0
unfolding starts every
Derives empty s v = s ≡ []
Derives (one c) s v = (s ≡ v ∷ []) × (within c v ≡ true)
Derives (run h c val) s v = (starts h s ≡ true) × (every c s ≡ true) × (val s ≡ some v)
Derives (g ▸ h) s v = (p : List ℕ) × (q : List ℕ) × (s ≡ p ++ q) × Derives g p v.0 × Derives h q v.1
Derives (g or h) s v = Derives g s v ⊎ Derives h s v
Derives (maybe d g) s v = ((s ≡ []) × (v ≡ d)) ⊎ Derives g s v
Derives (give {A = A} f g) s v = (a : A) × Derives g s a × (v ≡ f a)
