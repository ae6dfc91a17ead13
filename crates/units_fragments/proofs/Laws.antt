-- What each test of a call settles, and what a copy leaves in the state's bytes.
use mathlib.Core.Path.{◌≡◌, sym, ap, ◌∙◌}
use mathlib.Core.Bool.{true, false}
use mathlib.Core.List.{List, [], ◌++◌, append-nil, append_assoc}
use Prim.Native.Nat.{ℕ, ◌+◌, ◌-◌, ◌≤◌, min}
use native.Mathlib.Nat.{zero-min}
use native.Mathlib.Omega.{arith}
use lib.ListN.{length, take, drop, length-drop, drop_of_length-le}
use lib.Seq.{paste, paste-zero, take_all, take-length, length-take-le, drop-drop}
use borrow.Author.Tests.{lt-ltb}
use Rattle.units_fragments.specs.declared.UnitsState.{UnitsState}
use Rattle.units_fragments.specs.Fragments.{is_open, count_of, fitting, with_fragment, after_fragment, after_end}

module _ (s : UnitsState) where
  module _ (e : is_open s ≡ true) where
    pub open_fragment : (f : List ℕ) → after_fragment s f ≡ with_fragment s f
    unfolding after_fragment
    open_fragment f = rw e

    pub open_end : after_end s ≡ record { count = s.count; ended = 1; bytes = s.bytes }
    unfolding after_end
    open_end = rw e

  -- a state that is not open is kept
  module _ (e : is_open s ≡ false) where
    pub kept_by_fragment : (f : List ℕ) → after_fragment s f ≡ s
    unfolding after_fragment
    kept_by_fragment f = rw e

    pub kept_by_end : after_end s ≡ s
    unfolding after_end
    kept_by_end = rw e

  -- once there are more than 128 bytes a fragment changes nothing
  pub full_kept : (f : List ℕ) → s.count ≡ 129 → with_fragment s f ≡ s
  full_kept f e =
      let room : 128 - s.count ≡ 0 = omega (arith, e) in
      let none : 0 ≡ fitting s.count (length f) = sym (ap (λ (n : ℕ). min n (length f)) room ∙ zero-min (length f)) in
      let count : count_of (s.count + length f) ≡ s.count = rw (lt-ltb 128 (s.count + length f) (omega (arith, e))) (sym e) in
      let bytes : paste s.bytes s.count f (fitting s.count (length f)) ≡ s.bytes = sym (paste-zero s.bytes s.count f ∙ ap (paste s.bytes s.count f) none) in
      λ i. record { count = count i; ended = s.ended; bytes = bytes i }

-- what stands in bytes after the first n of others were copied to a place of them, m being the bytes from there on
pub pasted : (d f ys : List ℕ) (at m n : ℕ) → m ≡ length d - at → at + n ≤ length d → n ≤ length f → ys ≡ take (length (take n f)) (take n f) ++ drop (length (take n f)) (take m (drop at d)) → take at d ++ (ys ++ drop m (drop at d)) ≡ paste d at f n
pasted d f ys at m n e h k g =
    let l = length-drop at d in
    let rest : take m (drop at d) ≡ drop at d = take_all m (drop at d) (omega (arith, e, l)) in
    let none : drop m (drop at d) ≡ [] = drop_of_length-le (drop at d) {i = m} (omega (arith, e, l)) in
    let behind : drop (length (take n f)) (take m (drop at d)) ≡ drop (at + n) d = (λ i. drop (length-take-le n f k i) (rest i)) ∙ drop-drop n at d in
    let ys_is : ys ≡ take n f ++ drop (at + n) d = g ∙ (λ i. take-length (take n f) i ++ behind i) in
    ap (◌++◌ (take at d)) (ap (◌++◌ ys) none ∙ (append-nil ys ∙ ys_is)) ∙ sym (append_assoc (take at d) (take n f) (drop (at + n) d))
