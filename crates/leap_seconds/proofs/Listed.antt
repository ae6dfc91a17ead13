-- What a good list says, record by record: days rise from 730, and the count of record i is 10 + i.
use mathlib.Core.Path.{◌≡◌, refl, sym, ap, ◌∙◌}
use mathlib.Core.Bool.{true, ◌&&◌, true≢false}
use mathlib.Core.List.{List, ◌∷◌}
use Prim.Native.Nat.{ℕ, zero, suc, ◌+◌, ◌-◌, ◌/◌, ◌%◌, ◌<◌, ◌≤◌}
use native.Mathlib.Omega.{arith}
use native.Mathlib.Decide.{dec_le}
use lib.Dec.{leb, eqb}
use lib.IntN.{pos}
use lib.ListN.{length}
use borrow.Author.Tests.{leb-true}
use Rattle.signed.proofs.Tests.{and_parts}
use Rattle.leap_seconds.specs.Leaps.{leap_at, leaps_from, leaps, is_natural, rises_from, is_good}
use Rattle.leap_seconds.specs.Closed.{day_at}
use Rattle.leap_seconds.proofs.Testing.{word_is, word_small, natural_is, Rises, rises_of, leaps_next, no_record, first_record, opened}

module _ (s : List ℕ) where
  abbrev n : ℕ
  n = length s / 16

  pub record Listed : Type 0 where
    pub some : 1 ≤ length s / 16
    pub few : length s / 16 ≤ 64
    pub first : day_at s 0 ≡ 730
    pub later : (i : ℕ) → suc i < length s / 16 → day_at s i < day_at s (suc i)
    pub days : (i : ℕ) → i < length s / 16 → (leap_at s i).day ≡ pos (day_at s i)
    pub counts : (i : ℕ) → i < length s / 16 → (leap_at s i).count ≡ pos (10 + i)
    pub is : leaps s ≡ leap_at s 0 ∷ leaps_from (length s / 16 - 1) 1 s

  -- the records after record i rise
  abbrev After : ℕ → Type 0
  After i = rises_from (pos (day_at s i)) (10 + i) (leaps_from (n - suc i) (suc i) s) ≡ true

  after_next : (i : ℕ) → suc i < n → After i → Rises (day_at s i) (10 + i) (leap_at s (suc i)) (leaps_from (n - (suc i + 1)) (suc i + 1) s) (day_at s (suc i))
  after_next i h a = rises_of (day_at s i) (10 + i) (leap_at s (suc i)) (leaps_from (n - (suc i + 1)) (suc i + 1) s) (day_at s (suc i)) refl (ap (rises_from (pos (day_at s i)) (10 + i)) (sym (leaps_next s n (suc i) h)) ∙ a)

  module _ (start : After 0) where
    after : (i : ℕ) → i < n → After i
    after zero h = start
    after (suc i) h =
        let e : suc i + 1 ≡ suc (suc i) = omega arith in
        let g : suc (10 + i) ≡ 10 + suc i = omega arith in
        sym (λ j. rises_from (pos (day_at s (suc i))) (g j) (leaps_from (n - e j) (e j) s)) ∙ (after_next i h (after i (omega arith))).rest

    next : (i : ℕ) → suc i < n → Rises (day_at s i) (10 + i) (leap_at s (suc i)) (leaps_from (n - (suc i + 1)) (suc i + 1) s) (day_at s (suc i))
    next i h = after_next i h (after i (omega arith))

    days_from : (leap_at s 0).day ≡ pos (day_at s 0) → (i : ℕ) → i < n → (leap_at s i).day ≡ pos (day_at s i)
    days_from z zero h = z
    days_from z (suc i) h = (next i h).day

    counts_from : (leap_at s 0).count ≡ pos 10 → (i : ℕ) → i < n → (leap_at s i).count ≡ pos (10 + i)
    counts_from z zero h = z
    counts_from z (suc i) h = (next i h).count ∙ ap pos (omega arith)

  pub listed : is_good s ≡ true → Listed
  listed h = elim (dec_le 1 n) [
    | yes g ↦
        let z : (n ≡ 0 → ⊥) = λ e. omega arith in
        let p = and_parts (eqb (length s % 16) 0) (((is_natural (leap_at s 0).day 730 && is_natural (leap_at s 0).count 10) && leb (n - 1) 63) && rises_from (leap_at s 0).day 10 (leaps_from (n - 1) 1 s)) (sym (opened s z) ∙ h) in
        let q = and_parts ((is_natural (leap_at s 0).day 730 && is_natural (leap_at s 0).count 10) && leb (n - 1) 63) (rises_from (leap_at s 0).day 10 (leaps_from (n - 1) 1 s)) p.1 in
        let r = and_parts (is_natural (leap_at s 0).day 730 && is_natural (leap_at s 0).count 10) (leb (n - 1) 63) q.0 in
        let t = and_parts (is_natural (leap_at s 0).day 730) (is_natural (leap_at s 0).count 10) r.0 in
        let d = natural_is (leap_at s 0).day 730 t.0 in
        let w : day_at s 0 ≡ 730 = word_is (day_at s 0) 730 d in
        let start : After 0 = (λ i. rises_from (pos (w i)) 10 (leaps_from (n - 1) 1 s)) ∙ (λ i. rises_from (sym d i) 10 (leaps_from (n - 1) 1 s)) ∙ q.1 in
        record { some = g; few = omega (arith, leb-true (n - 1) 63 r.1); first = w; later = λ i f. (next start i f).later; days = days_from start (d ∙ ap pos (sym w)); counts = counts_from start (natural_is (leap_at s 0).count 10 t.1); is = first_record s z }
    | no g ↦
        let e : n ≡ 0 = omega arith in
        absurd (true≢false (sym h ∙ no_record s e))
  ]

-- days rise over any distance
module _ (s : List ℕ) (l : Listed s) where
  pub listed_small : (i : ℕ) → i < length s / 16 → day_at s i < 9223372036854775808
  listed_small i h = word_small (day_at s i) (day_at s i) (l.days i h)

  pub rising : (i j : ℕ) → i ≤ j → j < length s / 16 → day_at s i ≤ day_at s j
  rising i zero h g = let e : i ≡ 0 = omega arith in omega (arith, ap (day_at s) e)
  rising i (suc j) h g =
      elim (dec_le i j) [
        | yes f ↦ omega (arith, rising i j f (omega arith), l.later j g)
        | no f ↦ let e : i ≡ suc j = omega arith in omega (arith, ap (day_at s) e)
      ]
