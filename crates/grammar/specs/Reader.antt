-- The reader of a grammar that goes by the next byte alone. The scanner functions promise what it finds.
-- proofs/Reading.antt joins it to the meaning: of a clear grammar (Clear.antt) `read` gives a text the value with which the grammar
-- derives it, and none exactly where it derives none.
use Rattle.std.specs.Prelude.{ℕ, Bool, true, false, ◌&&◌, ◌||◌, cond, List, [], ◌∷◌, ◌++◌}
use Rattle.std.proofs.Math.Option.{Option, none, some}
use Rattle.grammar.specs.Grammar.{Class, within, starts, Grammar, empty, one, run, ◌▸◌, ◌or◌, maybe, give}

-- what reading at the front of a text finds: a value and what is left of the text, or nothing
pub data Scan (A : Type 0) : Type 0 where
  found : A → List ℕ → Scan A
  nothing : Scan A

-- the longest front of a text in a class, and what is left
unfoldable pub front : Class → List ℕ → List ℕ
front c [] = []
front c (b ∷ s) = cond (within c b) (b ∷ front c s) []

unfoldable pub back : Class → List ℕ → List ℕ
back c [] = []
back c (b ∷ s) = cond (within c b) (back c s) (b ∷ s)

-- a value that there may be, with what is left
abbrev pub valued : {A : Type 0} → Option A → List ℕ → Scan A
valued none r = nothing
valued (some v) r = found v r

abbrev pub then : {A B : Type 0} → Scan A → (A → List ℕ → Scan B) → Scan B
then nothing k = nothing
then (found a r) k = k a r

abbrev pub paired : {A B : Type 0} → A → Scan B → Scan (A × B)
paired a nothing = nothing
paired a (found b r) = found (a, b) r

abbrev pub given : {A B : Type 0} → (A → B) → Scan A → Scan B
given f nothing = nothing
given f (found a r) = found (f a) r

-- the grammar can derive the empty text
unfoldable pub nullable : {A : Type 0} → Grammar A → Bool
nullable empty = true
nullable (one c) = false
nullable (run h c val) = false
nullable (g ▸ h) = nullable g && nullable h
nullable (g or h) = nullable g || nullable h
nullable (maybe d g) = true
nullable (give f g) = nullable g

-- the bytes that a derived text can start with
unfoldable pub first : {A : Type 0} → Grammar A → Class
unfolding nullable
first empty = []
first (one c) = c
first (run h c val) = h
first (g ▸ h) = cond (nullable g) (first g ++ first h) (first g)
first (g or h) = first g ++ first h
first (maybe d g) = first g
first (give f g) = first g

-- what the reader finds at the front of a text
unfoldable pub scan : {A : Type 0} → Grammar A → List ℕ → Scan A
unfolding first starts front back
scan empty s = found tt s
scan (one c) [] = nothing
scan (one c) (b ∷ s) = cond (within c b) (found b s) nothing
scan (run h c val) s = cond (starts h (front c s)) (valued (val (front c s)) (back c s)) nothing
scan (g ▸ h) s = then (scan g s) (λ a r. paired a (scan h r))
scan (g or h) s = cond (starts (first g) s) (scan g s) (scan h s)
scan (maybe d g) s = cond (starts (first g) s) (scan g s) (found d s)
scan (give f g) s = given f (scan g s)

-- the value of a whole text: nothing may be left of it
unfoldable pub whole : {A : Type 0} → Scan A → Option A
whole nothing = none
whole (found v []) = some v
whole (found v (b ∷ r)) = none

unfoldable pub read : {A : Type 0} → Grammar A → List ℕ → Option A
unfolding scan whole
read g s = whole (scan g s)
