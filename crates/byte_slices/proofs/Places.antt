-- The first place of a byte, as std says it of `position`.
use Rattle.std.proofs.Common.{◌≡◌, ◌≤◌, ℕ, List, Bool, true, false, ◌+◌, ◌-◌, ◌==◌, length, take, drop, Some, None, cond, not, nat_lt, ltb-false, length-take, length-drop, arith, refl, sym, ap, ◌∙◌}
use Rattle.std.specs.List.{position, position_or_len}
use Rattle.std.proofs.lemmas.List.{drop-take}
use Rattle.std.proofs.lemmas.List.Sums.{prefix_len-le-length}
use Rattle.std.proofs.lemmas.List.Recursion.{is_position_or_len}
use Rattle.byte_slices.specs.Bytes.{slice, index_of, index_after}

index_is : (c : ℕ) (s : List ℕ) → index_of c s ≡ position_or_len (λ b. b == c) s
unfolding index_of
index_is c s = is_position_or_len (index_of c) (λ b. b == c) refl (λ b t. by_test (b == c) (index_of c t)) s
  where
    by_test : (t : Bool) (k : ℕ) → index_after t k ≡ cond t 0 (1 + k)
    by_test true k = refl
    by_test false k = omega arith

-- what `position` answers, of a test that passes first at k among n
some_is : (k i : ℕ) (t : Bool) → cond t (Some k) None ≡ Some i → i ≡ k
some_is k i true e = cc
some_is k i false e = cc

none_is : (k n : ℕ) (t : Bool) → nat_lt k n ≡ t → cond t (Some k) None ≡ None → n ≤ k
none_is k n true h e = cc
none_is k n false h e = ltb-false k n h

module _ (s : List ℕ) (from to c : ℕ) (h : from ≤ to) where
  abbrev part : List ℕ
  part = take (to - from) (drop from s)

  part_is : index_of c (slice from to s) ≡ position_or_len (λ b. b == c) part
  unfolding slice
  part_is =
      let e : to ≡ from + (to - from) = omega arith in
      ap (λ k. index_of c (drop from (take k s))) e ∙ (ap (index_of c) (drop-take from (to - from) s) ∙ index_is c part)

  pub found : (i : ℕ) → position (λ b. b == c) part ≡ Some i → from + i ≡ from + index_of c (slice from to s)
  found i e = ap (λ k. from + k) (some_is (position_or_len (λ b. b == c) part) i (nat_lt (position_or_len (λ b. b == c) part) (length part)) e ∙ sym part_is)

  pub missed : to ≤ length s → position (λ b. b == c) part ≡ None → to ≡ from + index_of c (slice from to s)
  missed l e =
      let n = none_is (position_or_len (λ b. b == c) part) (length part) (nat_lt (position_or_len (λ b. b == c) part) (length part)) refl e in
      let m = prefix_len-le-length (λ b. not (b == c)) part in
      omega (arith, part_is, length-take (to - from) (drop from s), length-drop from s)
