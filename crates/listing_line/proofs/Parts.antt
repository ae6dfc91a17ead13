-- The texts between the bars of a line, from the places at which the code finds bars.
use Rattle.std.specs.Prelude.{Err}
use Prim.Native.Nat.{ℕ, suc, ◌+◌, ◌-◌, ◌≤◌, ◌<◌}
use native.Mathlib.Omega.{arith}
use mathlib.Core.Path.{◌≡◌, refl, sym, ap, ap₂, ◌∙◌}
use mathlib.Core.Bool.{Bool, true, false, cond}
use mathlib.Core.List.{List, [], ◌∷◌}
use lib.Dec.{eqb}
use lib.ListN.{length, take, drop, length-drop}
use lib.Seq.{take_all, take-length, drop-drop}
use Rattle.byte_slices.specs.Bytes.{slice, index_after, index_of}
use Rattle.refusal.specs.declared.Refusal.TheVariants.{IllFormed}
use Rattle.listing_line.specs.Line.{on_first, parted, of_parts}
use Rattle.listing_line.specs.Closed.{part}

-- ---- by the index of the first bar

first_bar : (s : List ℕ) → index_of 124 s < length s → parted s ≡ take (index_of 124 s) s ∷ parted (drop (suc (index_of 124 s)) s)
unfolding parted index_of
first_bar [] h = absurd (omega arith)
first_bar (b ∷ s) h = go (eqb b 124) h (λ k. first_bar s k)
  where
    go : (t : Bool) → index_after t (index_of 124 s) < length (b ∷ s) → (index_of 124 s < length s → parted s ≡ take (index_of 124 s) s ∷ parted (drop (suc (index_of 124 s)) s))
        → cond t ([] ∷ parted s) (on_first b (parted s)) ≡ take (index_after t (index_of 124 s)) (b ∷ s) ∷ parted (drop (suc (index_after t (index_of 124 s))) (b ∷ s))
    go true k f = refl
    go false k f = ap (on_first b) (f (omega arith))

no_bar : (s : List ℕ) → index_of 124 s ≡ length s → parted s ≡ s ∷ []
unfolding parted index_of
no_bar [] h = refl
no_bar (b ∷ s) h = go (eqb b 124) h (λ k. no_bar s k)
  where
    go : (t : Bool) → index_after t (index_of 124 s) ≡ length (b ∷ s) → (index_of 124 s ≡ length s → parted s ≡ s ∷ []) → cond t ([] ∷ parted s) (on_first b (parted s)) ≡ (b ∷ s) ∷ []
    go true k f = absurd (omega arith)
    go false k f = ap (on_first b) (f (omega arith))

-- ---- by the place that `find` answers from a place on

module _ (s : List ℕ) (from r : ℕ) (e : r ≡ from + index_of 124 (slice from (length s) s)) where
  index : r ≡ from + index_of 124 (drop from s)
  unfolding slice
  index = e ∙ ap (λ (t : List ℕ). from + index_of 124 (drop from t)) (take-length s)

  pub bar_found : r < length s → parted (drop from s) ≡ part from r s ∷ parted (drop (r + 1) s)
  bar_found h =
      let i = index in
      let k = index_of 124 (drop from s) in
      let n : k ≡ r - from = omega arith in
      let m : from + suc k ≡ r + 1 = omega arith in
      first_bar (drop from s) (omega (arith, length-drop from s))
      ∙ ap₂ ◌∷◌ (ap (λ (j : ℕ). take j (drop from s)) n) (ap parted (drop-drop (suc k) from s ∙ ap (λ (j : ℕ). drop j s) m))

  pub bar_missing : from ≤ length s → r ≡ length s → parted (drop from s) ≡ part from (length s) s ∷ []
  bar_missing l h =
      let i = index in
      let n = length-drop from s in
      no_bar (drop from s) (omega arith) ∙ ap (λ (t : List ℕ). t ∷ []) (sym (take_all (length s - from) (drop from s) (omega arith)))

-- ---- more than two bars

-- there is always one text
pub too_many : (a b c s : List ℕ) → of_parts (a ∷ b ∷ c ∷ parted s) ≡ Err IllFormed
unfolding parted
too_many a b c [] = refl
too_many a b c (x ∷ s) = go (eqb x 124) (parted s)
  where
    go : (t : Bool) (ps : List (List ℕ)) → of_parts (a ∷ b ∷ c ∷ cond t ([] ∷ ps) (on_first x ps)) ≡ Err IllFormed
    go true ps = refl
    go false [] = refl
    go false (p ∷ ps) = refl
