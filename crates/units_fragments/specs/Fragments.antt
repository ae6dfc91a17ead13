-- A units text that arrives in fragments: document 02, CR 4. A host lends one state to each call; here is what a call makes of it. A state
-- has the count of the bytes so far, a mark that it has ended, and 128 places for bytes.
use Rattle.std.specs.Prelude.{Bool, cond, ◌&&◌, ℕ, ◌+◌, ◌-◌, min, eqb, leb, ltb, length, replicate}
use mathlib.Core.List.{List, [], ◌∷◌, ◌++◌, foldr}
use Rattle.std.proofs.Math.Seq.{paste}
use Rattle.units_fragments.specs.declared.UnitsState.{UnitsState}

-- the state before the first fragment: all zeros
abbrev pub fresh_state : UnitsState
fresh_state = record { count = 0; ended = 0; bytes = replicate 128 0 }

-- a state that takes a fragment or an end: it has not ended, and its count is a possible one. Any other is refused with 11, and kept
abbrev pub is_open : UnitsState → Bool
is_open s = eqb s.ended 0 && leb s.count 129

-- the count of so many bytes: 129 once there are more than 128
abbrev pub count_of : ℕ → ℕ
count_of n = cond (ltb 128 n) 129 n

-- how many of n bytes have room after so many
abbrev pub fitting : ℕ → ℕ → ℕ
fitting count n = min (128 - count) n

-- the bytes that fit stand behind those so far, and the rest is dropped; all are counted. (`paste old place new n` is the old bytes with the n
-- from that place on replaced by the first n of the new ones.)
abbrev pub with_fragment : UnitsState → List ℕ → UnitsState
with_fragment s fragment = record { count = count_of (s.count + length fragment); ended = s.ended; bytes = paste s.bytes s.count fragment (fitting s.count (length fragment)) }

-- the state that a fragment leaves, and the state that an end leaves, whatever it answers
unfoldable pub after_fragment : UnitsState → List ℕ → UnitsState
after_fragment s fragment = cond (is_open s) (with_fragment s fragment) s

unfoldable pub after_end : UnitsState → UnitsState
after_end s = cond (is_open s) (record { count = s.count; ended = 1; bytes = s.bytes }) s

-- ---- a text in fragments

-- the state that calls leave, each of them lent what the one before it left
abbrev pub after_each : (UnitsState → List ℕ → UnitsState) → UnitsState → List (List ℕ) → UnitsState
after_each call s [] = s
after_each call s (f ∷ fs) = after_each call (call s f) fs

-- the fragments as one text
abbrev pub concatenation : List (List ℕ) → List ℕ
concatenation fs = foldr ◌++◌ [] fs
