-- The test of a list, record by record and as the code makes it.
use mathlib.Core.Path.{◌≡◌, refl, sym, ap, ◌∙◌}
use mathlib.Core.Bool.{Bool, true, false, ◌&&◌, and-false, true≢false}
use mathlib.Core.List.{List, [], ◌∷◌}
use Prim.Native.Nat.{ℕ, zero, suc, ◌+◌, ◌-◌, ◌/◌, ◌%◌, ◌<◌, ◌≤◌, ◌^◌}
use native.Mathlib.Omega.{arith}
use native.Mathlib.Decide.{dec_le}
use native.Mathlib.Numerals.{add-one}
use lib.Dec.{leb, eqb}
use lib.IntN.{ℤ, pos, negsuc, pos-ne-negsuc}
use lib.ListN.{length}
use lib.Signed.{lt_z, mag}
use mir.Syntax.{w64}
use mir.Val.{to_z}
use mir.ValLaws.{to_z_pos}
use borrow.Author.Tests.{le-leb, lt-leb, lt-ltb, le-ltb, ltb-true, eq-eqb, ne_eqb, eqb-true}
use Rattle.signed.proofs.Tests.{and_parts, to_false}
use Rattle.leap_seconds.specs.Leaps.{Leap, leap_at, leaps_from, leaps, is_natural, rises_from, good, is_good, word_at}
use Rattle.leap_seconds.specs.Closed.{day_at}

-- ---- a word of 64 bits read with a sign

pub word_negative : (w : ℕ) → 9223372036854775808 ≤ w → to_z w64 w ≡ negsuc (2 ^ 64 - suc w)
word_negative w h = rw (le-ltb w (2 ^ 63) h)

pub word_small : (w n : ℕ) → to_z w64 w ≡ pos n → w < 9223372036854775808
word_small w n e =
    elim (dec_le 9223372036854775808 w) [
      | yes h ↦ absurd (pos-ne-negsuc n (2 ^ 64 - suc w) (sym e ∙ word_negative w h))
      | no h ↦ omega arith
    ]

-- where the result is not negative, it is the word
pub word_is : (w n : ℕ) → to_z w64 w ≡ pos n → w ≡ n
word_is w n e = ap mag (sym (to_z_pos w64 w (word_small w n e)) ∙ e)

pub natural_is : (z : ℤ) (n : ℕ) → is_natural z n ≡ true → z ≡ pos n
natural_is (pos m) n h = ap pos (eqb-true m n h)
natural_is (negsuc m) n h = absurd (true≢false (sym h))

is_natural_lem : (z : ℤ) (n : ℕ) → z ≡ pos n → is_natural z n ≡ true
is_natural_lem z n e = ap (λ (k : ℤ). is_natural k n) e ∙ eq-eqb n n refl

pub not_natural : (w n : ℕ) → (w ≡ n → ⊥) → is_natural (to_z w64 w) n ≡ false
not_natural w n h = to_false (is_natural (to_z w64 w) n) (λ e. h (word_is w n (natural_is (to_z w64 w) n e)))

-- ---- one record after another. d and k are the day and the count before it

module _ (d k : ℕ) (r : Leap) (rs : List Leap) where
  pub rises_next : (w : ℕ) → d < w → r.day ≡ pos w → r.count ≡ pos (suc k) → rises_from (pos d) k (r ∷ rs) ≡ rises_from (pos w) (suc k) rs
  unfolding rises_from
  rises_next w h e f =
      (λ i. (lt_z (pos d) (e i) && is_natural_lem r.count (suc k) f i) && rises_from (e i) (suc k) rs)
      ∙ rw (lt-ltb d w h)

  pub not_later : (w : ℕ) → w ≤ d → r.day ≡ pos w → rises_from (pos d) k (r ∷ rs) ≡ false
  unfolding rises_from
  not_later w h e = rw (ap (lt_z (pos d)) e ∙ le-ltb d w h)

  pub negative_day : (w : ℕ) → r.day ≡ negsuc w → rises_from (pos d) k (r ∷ rs) ≡ false
  unfolding rises_from
  negative_day w e = rw (ap (lt_z (pos d)) e)

  pub other_count : is_natural r.count (suc k) ≡ false → rises_from (pos d) k (r ∷ rs) ≡ false
  unfolding rises_from
  other_count h = rw (h, and-false (lt_z (pos d) r.day))

  -- what a test that holds says of the record
  pub record Rises (w : ℕ) : Type 0 where
    pub later : d < w
    pub day : r.day ≡ pos w
    pub count : r.count ≡ pos (suc k)
    pub rest : rises_from (pos w) (suc k) rs ≡ true

  pub rises_of : (w : ℕ) → r.day ≡ to_z w64 w → rises_from (pos d) k (r ∷ rs) ≡ true → Rises w
  unfolding rises_from
  rises_of w e h =
      let p = and_parts (lt_z (pos d) r.day && is_natural r.count (suc k)) (rises_from r.day (suc k) rs) h in
      let q = and_parts (lt_z (pos d) r.day) (is_natural r.count (suc k)) p.0 in
      let z = later_is r.day q.0 in
      let same : w ≡ z.0 = word_is w z.0 (sym e ∙ z.1.0) in
      let is : r.day ≡ pos w = z.1.0 ∙ ap pos (sym same) in
      record { later = omega (arith, z.1.1); day = is; count = natural_is r.count (suc k) q.1; rest = ap (λ (y : ℤ). rises_from y (suc k) rs) (sym is) ∙ p.1 }
    where
      later_is : (z : ℤ) → lt_z (pos d) z ≡ true → (m : ℕ) × ((z ≡ pos m) × (d < m))
      later_is (pos m) h = (m, (refl, ltb-true d m h))
      later_is (negsuc m) h = absurd (true≢false (sym h))

-- ---- the records of bytes

module _ (s : List ℕ) (n i : ℕ) where
  pub leaps_next : i < n → leaps_from (n - i) i s ≡ leap_at s i ∷ leaps_from (n - (i + 1)) (i + 1) s
  unfolding leaps_from
  leaps_next h =
      let e : n - i ≡ suc (n - (i + 1)) = omega arith in
      ap (λ (k : ℕ). leaps_from k i s) e ∙ ap (λ (j : ℕ). leap_at s i ∷ leaps_from (n - (i + 1)) j s) (sym (add-one i))

  pub leaps_end : n ≤ i → leaps_from (n - i) i s ≡ []
  unfolding leaps_from
  leaps_end h =
      let e : n - i ≡ 0 = omega arith in
      ap (λ (k : ℕ). leaps_from k i s) e

leaps_length : (n i : ℕ) (s : List ℕ) → length (leaps_from n i s) ≡ n
unfolding leaps_from
leaps_length zero i s = refl
leaps_length (suc n) i s = ap suc (leaps_length n (suc i) s)

-- ---- the test of bytes

module _ (s : List ℕ) where
  pub part_record : (length s % 16 ≡ 0 → ⊥) → is_good s ≡ false
  unfolding is_good
  part_record h = rw (ne_eqb (length s % 16) 0 h)

  pub no_record : length s / 16 ≡ 0 → is_good s ≡ false
  unfolding is_good good leaps_from
  no_record e = ap (λ (n : ℕ). eqb (length s % 16) 0 && good (leaps_from n 0 s)) e ∙ and-false (eqb (length s % 16) 0)

  module _ (some : length s / 16 ≡ 0 → ⊥) where
    abbrev pub rest : List Leap
    rest = leaps_from (length s / 16 - 1) 1 s

    pub first_record : leaps s ≡ leap_at s 0 ∷ rest
    first_record =
        let e : length s / 16 ≡ length s / 16 - 0 = omega arith in
        ap (λ (n : ℕ). leaps_from n 0 s) e ∙ leaps_next s (length s / 16) 0 (omega arith)

    abbrev pub is_first : Bool
    is_first = is_natural (leap_at s 0).day 730 && is_natural (leap_at s 0).count 10

    pub opened : is_good s ≡ (eqb (length s % 16) 0 && ((is_first && leb (length s / 16 - 1) 63) && rises_from (leap_at s 0).day 10 rest))
    unfolding is_good good
    opened =
        ap (λ (l : List Leap). eqb (length s % 16) 0 && good l) first_record
        ∙ ap (λ (n : ℕ). eqb (length s % 16) 0 && ((is_first && leb n 63) && rises_from (leap_at s 0).day 10 rest)) (leaps_length (length s / 16 - 1) 1 s)

    pub too_many : 64 < length s / 16 → is_good s ≡ false
    too_many h = opened ∙ rw (lt-leb (length s / 16 - 1) 63 (omega arith), and-false is_first, and-false (eqb (length s % 16) 0))

    pub other_day : (day_at s 0 ≡ 730 → ⊥) → is_good s ≡ false
    other_day h = opened ∙ rw (not_natural (day_at s 0) 730 h, and-false (eqb (length s % 16) 0))

    pub other_first : (word_at s 8 ≡ 10 → ⊥) → is_good s ≡ false
    other_first h = opened ∙ rw (not_natural (word_at s 8) 10 h, and-false (is_natural (leap_at s 0).day 730), and-false (eqb (length s % 16) 0))

    pub by_rest : length s % 16 ≡ 0 → length s / 16 ≤ 64 → day_at s 0 ≡ 730 → word_at s 8 ≡ 10 → is_good s ≡ rises_from (pos 730) 10 rest
    by_rest a b d k =
        opened
        ∙ ((λ i. eqb (length s % 16) 0 && (((is_natural (to_z w64 (d i)) 730 && is_natural (to_z w64 (k i)) 10) && leb (length s / 16 - 1) 63) && rises_from (to_z w64 (d i)) 10 rest))
        ∙ rw (eq-eqb (length s % 16) 0 a, le-leb (length s / 16 - 1) 63 (omega arith)))

-- the tests that a list does not pass, and what they leave
pub ruleset list_tests = (part_record, no_record, too_many, other_day, other_first, by_rest)
