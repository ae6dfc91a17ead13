-- The dates of the day numbers of a row, from the laws of its next-day rule alone: they exist, rise with the numbers, and are the
-- terms of every sequence that goes by the rule and meets 1970-01-01.
use mathlib.Core.Path.{◌≡◌, refl, sym, ap, ◌∙◌, subst}
use mathlib.Core.Bool.{true, false, not, true≢false}
use Prim.Native.Nat.{ℕ, zero, suc, ◌+◌, ◌-◌, ◌<◌, ◌≤◌}
use native.Mathlib.Omega.{arith}
use native.Mathlib.Nat.{add-zero, add-suc}
use native.Mathlib.Decide.{dec_le}
use lib.Dec.{ltb}
use lib.IntN.{ℤ, pos, negsuc, suc_ℤ, sub_ℕ}
use lib.Signed.{le_z, lt_z}
use borrow.Author.Tests.{lt-ltb, le-ltb, ltb-true, ltb-false}
use Rattle.signed.proofs.Tests.{to_false}
use Rattle.signed.proofs.Order.{lt_not_le}
use Rattle.signed.proofs.Integers.{le_z_not}
use Rattle.signed.proofs.Differences.{by_sign, common, sub_suc, sub_lt}
use Rattle.calendar.specs.Calendar.{CalendarRow, next_by, prev_by, exists_by, date_by, epoch, times}
use Rattle.calendar.specs.Order.{earlier}
use Rattle.calendar.specs.declared.Date.{Date}
use Rattle.calendar.proofs.Ordered.{Before, by_year, earlier_of, before_trans, not_before, not_earlier}
use Rattle.calendar.proofs.Plain.{Chain}

-- ---- a sequence of dates, each later than the last

module _ (L : ℕ → Date) (up : (n : ℕ) → Before (L n) (L (suc n))) where
  rising : (a n : ℕ) → Before (L a) (L (a + suc n))
  rising a zero = subst (λ (n : ℕ). Before (L a) (L n)) (omega arith) (up a)
  rising a (suc n) =
      subst (λ (k : ℕ). Before (L a) (L k)) (omega arith) (before_trans (L a) (L (a + suc n)) (L (suc (a + suc n))) (rising a n) (up (a + suc n)))

  pub rises : (a b : ℕ) → a < b → Before (L a) (L b)
  rises a b h = let e : a + suc (b - suc a) ≡ b = omega arith in subst (λ (n : ℕ). Before (L a) (L n)) e (rising a (b - suc a))

  pub order_is : (a b : ℕ) → earlier (L a) (L b) ≡ ltb a b
  order_is a b = go (dec_le (suc a) b) (dec_le (suc b) a)
    where
      go : Dec (suc a ≤ b) → Dec (suc b ≤ a) → earlier (L a) (L b) ≡ ltb a b
      go (yes h) g = earlier_of (L a) (L b) (rises a b h) ∙ sym (lt-ltb a b h)
      go (no h) (yes g) = not_earlier (L a) (L b) (λ e. not_before (L a) (before_trans (L a) (L b) (L a) e (rises b a g))) ∙ sym (le-ltb a b (omega arith))
      go (no h) (no g) =
          let e : a ≡ b = omega arith in
          not_earlier (L a) (L b) (λ u. not_before (L b) (subst (λ (n : ℕ). Before (L n) (L b)) e u)) ∙ sym (le-ltb a b (omega arith))

  -- what the order of the dates says of the numbers
  pub below : (a b : ℕ) → Before (L a) (L b) → a < b
  below a b h = ltb-true a b (sym (order_is a b) ∙ earlier_of (L a) (L b) h)

  pub one : (a b : ℕ) → L a ≡ L b → a ≡ b
  one a b e =
      let not_less : (x y : Date) → x ≡ y → earlier x y ≡ false = λ x y f. not_earlier x y (λ g. not_before y (subst (λ (d : Date). Before d y) f g)) in
      omega (arith, ltb-false a b (sym (order_is a b) ∙ not_less (L a) (L b) e), ltb-false b a (sym (order_is b a) ∙ not_less (L b) (L a) (sym e)))

-- ---- the dates of the day numbers

module _ (r : CalendarRow) (c : Chain (next_by r) (prev_by r) (exists_by r)) (start : exists_by r epoch ≡ true) where
  ups : (n : ℕ) → exists_by r (times n (next_by r) epoch) ≡ true
  unfolding times
  ups zero = start
  ups (suc n) = c.after (times n (next_by r) epoch) (ups n)

  downs : (n : ℕ) → exists_by r (times n (prev_by r) epoch) ≡ true
  unfolding times
  downs zero = start
  downs (suc n) = c.before (times n (prev_by r) epoch) (downs n)

  pub dates_exist : (z : ℤ) → exists_by r (date_by r z) ≡ true
  unfolding date_by
  dates_exist (pos n) = ups n
  dates_exist (negsuc n) = downs (suc n)

  pub next_date : (z : ℤ) → next_by r (date_by r z) ≡ date_by r (suc_ℤ z)
  unfolding date_by times
  next_date (pos n) = refl
  next_date (negsuc zero) = c.redone epoch start
  next_date (negsuc (suc n)) = c.redone (times (suc n) (prev_by r) epoch) (downs (suc n))

  up_at : (b n : ℕ) → Before (date_by r (sub_ℕ n b)) (date_by r (sub_ℕ (suc n) b))
  up_at b n =
      subst (λ (d : Date). Before (date_by r (sub_ℕ n b)) d) (next_date (sub_ℕ n b) ∙ ap (date_by r) (sub_suc n b))
      (c.later (date_by r (sub_ℕ n b)) (dates_exist (sub_ℕ n b)))

  -- of two day numbers the less has the earlier date, and the other way round
  pub order : (z w : ℤ) → earlier (date_by r z) (date_by r w) ≡ lt_z z w
  order z w =
      let k = common z w in
      (λ i. earlier (date_by r (sym k.is_left i)) (date_by r (sym k.is_right i)))
      ∙ (order_is (λ n. date_by r (sub_ℕ n k.least)) (up_at k.least) k.left k.right
      ∙ (sym (sub_lt k.left k.right k.least) ∙ (λ i. lt_z (k.is_left i) (k.is_right i))))

  -- no two day numbers share a date
  pub one_day : (z w : ℤ) → date_by r z ≡ date_by r w → z ≡ w
  one_day z w e =
      let k = common z w in
      let same = one (λ n. date_by r (sub_ℕ n k.least)) (up_at k.least) k.left k.right (ap (date_by r) k.is_left ∙ (e ∙ sym (ap (date_by r) k.is_right))) in
      sym k.is_left ∙ (ap (λ (n : ℕ). sub_ℕ n k.least) same ∙ k.is_right)

  -- years do not fall
  pub years_rise : (z w : ℤ) → le_z z w ≡ true → le_z (date_by r z).year (date_by r w).year ≡ true
  years_rise z w h =
      let x = date_by r z in
      let y = date_by r w in
      let not_less : lt_z w z ≡ false = lt_not_le w z ∙ ap not h in
      le_z_not x.year y.year ∙ ap not (to_false (lt_z y.year x.year) (λ u. true≢false (sym (earlier_of y x (by_year u)) ∙ (order w z ∙ not_less))))

  -- ---- a sequence of dates by the next-day rule, with 1970-01-01 at place `base`

  module _ (L : ℕ → Date) (base : ℕ) (there : (n : ℕ) → exists_by r (L n) ≡ true) (on : (n : ℕ) → next_by r (L n) ≡ L (suc n)) (zeroth : L base ≡ epoch) where
    up_to : (n : ℕ) → times n (next_by r) epoch ≡ L (base + n)
    unfolding times
    up_to zero = sym zeroth ∙ ap L (sym (add-zero base))
    up_to (suc n) = ap (next_by r) (up_to n) ∙ (on (base + n) ∙ ap L (sym (add-suc base n)))

    down_to_lem : (k n : ℕ) → n + k ≡ base → times k (prev_by r) epoch ≡ L n
    unfolding times
    down_to_lem zero n e = sym zeroth ∙ ap L (omega arith)
    down_to_lem (suc k) n e = ap (prev_by r) (down_to_lem k (suc n) (omega arith) ∙ sym (on n)) ∙ c.undone (L n) (there n)

    pub sequence : (n : ℕ) → date_by r (sub_ℕ n base) ≡ L n
    unfolding date_by
    sequence n = by_sign (λ (z : ℤ). date_by r z ≡ L n) n base (λ h. down_to_lem (suc (base - suc n)) n (omega arith)) (λ h. up_to (n - base) ∙ ap L (omega arith))
