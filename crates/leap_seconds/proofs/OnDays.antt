-- The record that holds on a day: the count is its own, and whether the day ends with a leap second is told by the next record.
use mathlib.Core.Path.{◌≡◌, refl, sym, ap, ◌∙◌, subst}
use mathlib.Core.Bool.{Bool, true, false, ◌||◌, cond, or-true, true≢false}
use mathlib.Core.List.{List, [], ◌∷◌}
use Prim.Native.Nat.{ℕ, zero, suc, ◌+◌, ◌-◌, ◌/◌, ◌<◌, ◌≤◌}
use native.Mathlib.Omega.{arith}
use native.Mathlib.Decide.{dec_le}
use lib.Dec.{eqb}
use lib.IntN.{ℤ, pos}
use lib.ListN.{length}
use lib.Signed.{le_z}
use borrow.Author.Tests.{le-leb, lt-leb, eq-eqb, ne_eqb, eqb-true, eqb-false}
use Rattle.signed.proofs.Tests.{test_is}
use Rattle.leap_seconds.specs.Leaps.{Leap, leap_at, leaps_from, leaps, is_natural}
use Rattle.leap_seconds.specs.Utc.{count_from, count_on, some_leap, some_later, is_leap_day}
use Rattle.leap_seconds.specs.Closed.{day_at, HoldsOn, CountIs}
use Rattle.leap_seconds.proofs.Listed.{Listed, rising}

-- ---- some record has a property

never : (l : List Leap) → some_leap (λ (r : Leap). false) l ≡ false
unfolding some_leap
never [] = refl
never (r ∷ rs) = never rs

module _ (s : List ℕ) where
  same_from : (p q : Leap → Bool) (m i : ℕ) → ((k : ℕ) → i ≤ k → k < i + m → p (leap_at s k) ≡ q (leap_at s k)) → some_leap p (leaps_from m i s) ≡ some_leap q (leaps_from m i s)
  unfolding some_leap leaps_from
  same_from p q zero i f = refl
  same_from p q (suc m) i f = λ j. f i (omega arith) (omega arith) j || same_from p q m (suc i) (λ k a b. f k (omega arith) (omega arith)) j

  there_from : (p : Leap → Bool) (m i k : ℕ) → i ≤ k → k < i + m → p (leap_at s k) ≡ true → some_leap p (leaps_from m i s) ≡ true
  unfolding some_leap leaps_from
  there_from p zero i k a b h = absurd (omega arith)
  there_from p (suc m) i k a b h =
      elim (dec_le (suc i) k) [
        | yes g ↦ ap (λ (t : Bool). p (leap_at s i) || t) (there_from p m (suc i) k g (omega arith) h) ∙ or-true (p (leap_at s i))
        | no g ↦
            let e : i ≡ k = omega arith in
            ap (λ (t : Bool). t || some_leap p (leaps_from m (suc i) s)) (ap (λ (n : ℕ). p (leap_at s n)) e ∙ h)
      ]

  found_from : (p : Leap → Bool) (m i : ℕ) → some_leap p (leaps_from m i s) ≡ true → (k : ℕ) × (i ≤ k) × (k < i + m) × (p (leap_at s k) ≡ true)
  unfolding some_leap leaps_from
  found_from p zero i h = absurd (true≢false (sym h))
  found_from p (suc m) i h = go (p (leap_at s i)) refl (found_from p m (suc i))
    where
      go : (t : Bool) → p (leap_at s i) ≡ t → (some_leap p (leaps_from m (suc i) s) ≡ true → (k : ℕ) × (suc i ≤ k) × (k < suc i + m) × (p (leap_at s k) ≡ true)) → (k : ℕ) × (i ≤ k) × (k < i + suc m) × (p (leap_at s k) ≡ true)
      go true e f = (i, omega arith, omega arith, e)
      go false e f =
          let r = f (ap (λ (t : Bool). t || some_leap p (leaps_from m (suc i) s)) (sym e) ∙ h) in
          (r.0, omega (arith, r.1), omega (arith, r.2), r.3)

module _ (s : List ℕ) (l : Listed s) where
  abbrev n : ℕ
  n = length s / 16

  later_is : (p : Leap → Bool) → some_later p (leaps s) ≡ some_leap p (leaps_from (n - 1) 1 s)
  unfolding some_later
  later_is p = ap (some_later p) l.is

  pub same_later : (p q : Leap → Bool) → ((k : ℕ) → 1 ≤ k → k < length s / 16 → p (leap_at s k) ≡ q (leap_at s k)) → some_later p (leaps s) ≡ some_later q (leaps s)
  same_later p q f = later_is p ∙ (same_from s p q (n - 1) 1 (λ k a b. f k a (omega (arith, l.some))) ∙ sym (later_is q))

  pub none_later : (p : Leap → Bool) → ((k : ℕ) → 1 ≤ k → k < length s / 16 → p (leap_at s k) ≡ false) → some_later p (leaps s) ≡ false
  none_later p f = same_later p (λ (r : Leap). false) f ∙ (later_is (λ (r : Leap). false) ∙ never (leaps_from (n - 1) 1 s))

  pub there_later : (p : Leap → Bool) (k : ℕ) → 1 ≤ k → k < length s / 16 → p (leap_at s k) ≡ true → some_later p (leaps s) ≡ true
  there_later p k a b h = later_is p ∙ there_from s p (n - 1) 1 k a (omega arith) h

  -- a record's day told apart from a number
  pub day_test : (d k : ℕ) → k < n → is_natural (leap_at s k).day d ≡ eqb (day_at s k) d
  day_test d k h = ap (λ (z : ℤ). is_natural z d) (l.days k h)

  -- records but the first have days after 730
  pub after_first : (k : ℕ) → 1 ≤ k → k < length s / 16 → 730 < day_at s k
  after_first zero a b = absurd (omega arith)
  after_first (suc k) a b = omega (arith, l.first, l.later k b, rising s l 0 k (omega arith) (omega arith))

  pub not_listed : (d : ℕ) → ((k : ℕ) → 1 ≤ k → k < length s / 16 → day_at s k ≡ suc d → ⊥) → false ≡ is_leap_day (leaps s) d
  unfolding is_leap_day
  not_listed d f = sym (none_later (λ (r : Leap). is_natural r.day (suc d)) (λ k a b. day_test (suc d) k b ∙ ne_eqb (day_at s k) (suc d) (f k a b)))

  -- ---- the record that holds

  pub first_holds : HoldsOn s 730 0
  first_holds = record { inside = l.some; from = omega (arith, l.first); until = λ h. omega (arith, l.first, l.later 0 h) }

  -- on a later day no earlier record does
  pub holds_order : (a b i k : ℕ) → HoldsOn s a i → HoldsOn s b k → a ≤ b → i ≤ k
  holds_order a b i k h g e =
      elim (dec_le i k) [
        | yes f ↦ f
        | no f ↦ absurd (omega (arith, h.from, g.until (omega (arith, h.inside)), rising s l (suc k) i (omega arith) h.inside))
      ]

  module _ (d j : ℕ) (h : HoldsOn s d j) where
    count_from_lem : (m i : ℕ) → i + m ≡ n → i ≤ suc j → count_from (pos (9 + i)) (leaps_from m i s) (pos d) ≡ pos (10 + j)
    unfolding count_from leaps_from
    count_from_lem zero i e g = ap pos (omega (arith, h.inside))
    count_from_lem (suc m) i e g =
        elim (dec_le i j) [
          | yes f ↦
              let inside : i < n = omega arith in
              let test : le_z (leap_at s i).day (pos d) ≡ true = ap (λ (z : ℤ). le_z z (pos d)) (l.days i inside) ∙ le-leb (day_at s i) d (omega (arith, h.from, rising s l i j f h.inside)) in
              let next : (leap_at s i).count ≡ pos (9 + suc i) = l.counts i inside ∙ ap pos (omega arith) in
              (λ k. cond (test k) (count_from (next k) (leaps_from m (suc i) s) (pos d)) (pos (9 + i)))
              ∙ count_from_lem m (suc i) (omega arith) (omega arith)
          | no f ↦
              let inside : i < n = omega arith in
              let at : i ≡ suc j = omega arith in
              let after : d < day_at s i = omega (arith, h.until (omega arith), ap (day_at s) at) in
              let test : le_z (leap_at s i).day (pos d) ≡ false = ap (λ (z : ℤ). le_z z (pos d)) (l.days i inside) ∙ lt-leb (day_at s i) d after in
              (λ k. cond (test k) (count_from (leap_at s i).count (leaps_from m (suc i) s) (pos d)) (pos (9 + i)))
              ∙ ap pos (omega arith)
        ]

    pub count_is : CountIs (leaps s) d (10 + j)
    unfolding count_on
    count_is =
        record {
          is = ap (λ (t : List Leap). count_on t (pos d)) l.is ∙ (ap (λ (z : ℤ). count_from z (leaps_from (n - 1) 1 s) (pos d)) (l.counts 0 l.some) ∙ count_from_lem (n - 1) 1 (omega (arith, l.some)) (omega arith));
          small = omega (arith, h.inside, l.few);
        }

  -- whether the day before ends with a leap second
  pub leap_test : (d j : ℕ) → 730 ≤ d → HoldsOn s (suc d) j → eqb (day_at s j) (suc d) ≡ is_leap_day (leaps s) d
  unfolding is_leap_day
  leap_test d j low h =
      let p : Leap → Bool = λ (r : Leap). is_natural r.day (suc d) in
      test_is (eqb (day_at s j) (suc d)) (is_leap_day (leaps s) d)
      (λ e.
      there_later p j (not_first j (eqb-true (day_at s j) (suc d) e)) h.inside (day_test (suc d) j h.inside ∙ e))
      (λ e. none_later p (λ k a b. day_test (suc d) k b ∙ ne_eqb (day_at s k) (suc d) (other k a b (eqb-false (day_at s j) (suc d) e))))
    where
      not_first : (k : ℕ) → day_at s k ≡ suc d → 1 ≤ k
      not_first zero e = absurd (omega (arith, l.first))
      not_first (suc k) e = omega arith

      -- the days up to record j are at most its own, and those after it later than d + 1
      other : (k : ℕ) → 1 ≤ k → k < n → (day_at s j ≡ suc d → ⊥) → day_at s k ≡ suc d → ⊥
      other k a b f e =
          elim (dec_le k j) [
            | yes g ↦ f (omega (arith, h.from, rising s l k j g h.inside))
            | no g ↦ omega (arith, h.until (omega arith), rising s l (suc j) k (omega arith) b)
          ]

  -- at the end of a day: a leap second, and the next record holds from the next day on; or neither
  pub data DayEnd (d j : ℕ) : Type 0 where
    leap : is_leap_day (leaps s) d ≡ true → HoldsOn s (suc d) (suc j) → DayEnd d j
    plain : is_leap_day (leaps s) d ≡ false → HoldsOn s (suc d) j → DayEnd d j

  pub day_end : (d j : ℕ) → 730 ≤ d → HoldsOn s d j → DayEnd d j
  day_end d j low h = by_next (dec_le (suc (suc j)) n)
    where
      -- record j holds on the next day too
      stays : (suc j < n → suc d < day_at s (suc j)) → DayEnd d j
      stays f =
          let t : HoldsOn s (suc d) j = record { inside = h.inside; from = omega (arith, h.from); until = f } in
          plain (sym (leap_test d j low t) ∙ ne_eqb (day_at s j) (suc d) (λ e. omega (arith, h.from))) t

      by_next : Dec (suc j < n) → DayEnd d j
      by_next (no f) = stays (λ g. absurd (f g))
      by_next (yes f) =
          elim (dec_le (day_at s (suc j)) (suc d)) [
            | yes g ↦
                let t : HoldsOn s (suc d) (suc j) = record { inside = f; from = g; until = λ e. omega (arith, h.until f, l.later (suc j) e) } in
                leap (sym (leap_test d (suc j) low t) ∙ eq-eqb (day_at s (suc j)) (suc d) (omega (arith, h.until f))) t
            | no g ↦ stays (λ e. omega arith)
          ]

  -- from 1972 on some record holds
  pub held : (d : ℕ) → 730 ≤ d → (j : ℕ) × HoldsOn s d j
  held d low =
      let e : 730 + (d - 730) ≡ d = omega arith in
      subst (λ (k : ℕ). (j : ℕ) × HoldsOn s k j) e (days_on (d - 730))
    where
      next : (k j : ℕ) → DayEnd k j → (i : ℕ) × HoldsOn s (suc k) i
      next k j (leap y h) = (suc j, h)
      next k j (plain y h) = (j, h)

      days_on : (m : ℕ) → (j : ℕ) × HoldsOn s (730 + m) j
      days_on zero = (0, first_holds)
      days_on (suc m) =
          let b = days_on m in
          let e : suc (730 + m) ≡ 730 + suc m = omega arith in
          subst (λ (k : ℕ). (j : ℕ) × HoldsOn s k j) e (next (730 + m) b.0 (day_end (730 + m) b.0 (omega arith) b.1))

  -- a record after the first that has a property
  pub found_later : (p : Leap → Bool) → some_later p (leaps s) ≡ true → (k : ℕ) × (1 ≤ k) × (k < length s / 16) × (p (leap_at s k) ≡ true)
  found_later p h =
      let f = found_from s p (n - 1) 1 (sym (later_is p) ∙ h) in
      (f.0, f.1, omega (arith, f.2), f.3)
