-- Bytes cut into records.
use mathlib.Core.Path.{◌≡◌, refl, sym, ap, ◌∙◌, subst}
use mathlib.Core.List.{List, [], ◌∷◌, map}
use Prim.Native.Nat.{ℕ, zero, suc, ◌+◌, ◌*◌, ◌≤◌, ◌<◌}
use native.Mathlib.Nat.{not-suc-le-zero, le_of_suc-le-suc}
use native.Mathlib.Omega.{arith}
use lib.ListN.{length, take, drop, get_or, length-map}
use lib.Seq.{drop-drop}
use lib.IntN.{ℤ, pos}
use Rattle.datetime64_type.specs.declared.ByteOrder.{ByteOrder}
use Rattle.datetime64_runs.specs.Records.{record_number, number_at, cut, record_count, records_in}

pub cut_length : (n : ℕ) (s : List ℕ) → length (cut n s) ≡ n
unfolding cut
cut_length zero s = refl
cut_length (suc n) s = ap suc (cut_length n (drop 8 s))

pub cut_at : (n i : ℕ) (s : List ℕ) → i < n → get_or (cut n s) i [] ≡ take 8 (drop (8 * i) s)
unfolding cut
cut_at zero i s h = absurd (not-suc-le-zero h)
cut_at (suc n) zero s h = refl
cut_at (suc n) (suc i) s h =
    let e : 8 + 8 * i ≡ 8 * suc i = omega arith in
    cut_at n i (drop 8 s) (le_of_suc-le-suc h) ∙ ap (take 8) (drop-drop (8 * i) 8 s ∙ ap (λ (k : ℕ). drop k s) e)

-- ---- the records of bytes
module _ (s : List ℕ) where
  pub record_count_lem : length (records_in s) ≡ record_count s
  record_count_lem = cut_length (record_count s) s

  pub record_at : (i : ℕ) → i < record_count s → get_or (records_in s) i [] ≡ take 8 (drop (8 * i) s)
  record_at i h = cut_at (record_count s) i s h

  -- a record ends within them
  pub record_ends : (i : ℕ) → i < record_count s → 8 * i + 8 ≤ length s
  record_ends i h = omega arith

-- ---- the numbers of records
abbrev pub numbers_in : ByteOrder → List ℕ → List ℤ
numbers_in order s = map (record_number order) (records_in s)

number_of : (f : List ℕ → ℤ) (rs : List (List ℕ)) (i : ℕ) → i < length rs → get_or (map f rs) i (pos 0) ≡ f (get_or rs i [])
number_of f [] i h = absurd (not-suc-le-zero h)
number_of f (r ∷ rs) zero h = refl
number_of f (r ∷ rs) (suc i) h = number_of f rs i (le_of_suc-le-suc h)

module _ (order : ByteOrder) (s : List ℕ) where
  pub numbers_count : length (numbers_in order s) ≡ record_count s
  numbers_count = length-map (records_in s) (record_number order) ∙ record_count_lem s

  placed : (i : ℕ) → i < length (numbers_in order s) → i < record_count s
  placed i h = subst (λ (n : ℕ). i < n) numbers_count h

  pub number_ends : (i : ℕ) → i < length (numbers_in order s) → 8 * i + 8 ≤ length s
  number_ends i h = record_ends s i (placed i h)

  pub number_is : (i : ℕ) → i < length (numbers_in order s) → number_at order s i ≡ get_or (numbers_in order s) i (pos 0)
  number_is i h =
      let g = placed i h in
      sym (number_of (record_number order) (records_in s) i (subst (λ (n : ℕ). i < n) (sym (record_count_lem s)) g) ∙ ap (record_number order) (record_at s i g))
