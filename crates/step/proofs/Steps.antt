-- Steps on and back in general: what they reach, and in which order.
use mathlib.Core.Path.{◌≡◌, refl, sym, ap, ◌∙◌, subst}
use mathlib.Core.Bool.{Bool, true, false, true≢false}
use Prim.Native.Nat.{ℕ, zero, suc, ◌+◌, ◌-◌, ◌*◌, ◌≤◌}
use native.Mathlib.Omega.{arith}
use native.Mathlib.Nat.{zero-mul, suc-mul, add-mul}
use lib.IntN.{ℤ, pos, negsuc, suc_ℤ, sub_ℕ}
use lib.Signed.{lt_z}
use borrow.Author.Tests.{ltb-true, ltb-false}
use Rattle.signed.proofs.Tests.{to_false}
use Rattle.signed.proofs.Differences.{by_sign, common, sub_suc, sub_lt}
use Rattle.calendar.specs.Calendar.{times}
use Rattle.calendar.specs.Order.{earlier}
use Rattle.calendar.specs.declared.Date.{Date}
use Rattle.calendar.proofs.Ordered.{Before, before_of, earlier_of, before_trans, not_before}
use Rattle.step.specs.Steps.{steps}

-- a sequence in which a step leads k places on: n - b steps lead from place i to place i + (n - b) * k
module _ {A : Type 0} (on back : A → A) (k : ℕ) (L : ℕ → A) (up : (i : ℕ) → on (L i) ≡ L (i + k)) (down : (i : ℕ) → back (L (i + k)) ≡ L i) where
  ups : (n i : ℕ) → times n on (L i) ≡ L (i + n * k)
  unfolding times
  ups zero i = ap L (omega (arith, zero-mul k))
  ups (suc n) i = ap on (ups n i) ∙ (up (i + n * k) ∙ ap L (omega (arith, suc-mul n k)))

  downs : (n i j : ℕ) → j + n * k ≡ i → times n back (L i) ≡ L j
  unfolding times
  downs zero i j e = ap L (omega (arith, zero-mul k))
  downs (suc n) i j e = ap back (downs n i (j + k) (omega (arith, suc-mul n k))) ∙ down j

  -- the difference of two numbers of steps, in places
  apart : (m n : ℕ) → n ≤ m → (m - n) * k + n * k ≡ m * k
  apart m n h = let e : m - n + n ≡ m = omega arith in sym (add-mul (m - n) n k) ∙ ap (λ (d : ℕ). d * k) e

  pub sequence : (n b i j : ℕ) → j + b * k ≡ i + n * k → steps on back (sub_ℕ n b) (L i) ≡ L j
  unfolding steps
  sequence n b i j e =
      by_sign (λ (z : ℤ). steps on back z (L i) ≡ L j) n b
      (λ h. let d : b - n ≡ suc (b - suc n) = omega arith in downs (suc (b - suc n)) i j (omega (arith, apart b n (omega arith), ap (λ (m : ℕ). m * k) d)))
      (λ h. ups (n - b) i ∙ ap L (omega (arith, apart n b h)))

-- steps that rise: of two numbers the greater leads further, wherever the steps begin
module _ {A : Type 0} (on back : A → A) (Lt : A → A → Type 0) (trans : (x y z : A) → Lt x y → Lt y z → Lt x z) (up : (x : A) → Lt x (on x)) (down : (x : A) → Lt (back x) x) (x : A) where
  one_more : (z : ℤ) → Lt (steps on back z x) (steps on back (suc_ℤ z) x)
  unfolding steps times
  one_more (pos n) = up (times n on x)
  one_more (negsuc zero) = down x
  one_more (negsuc (suc n)) = down (times (suc n) back x)

  further : (a b n : ℕ) → Lt (steps on back (sub_ℕ a b) x) (steps on back (sub_ℕ (a + suc n) b) x)
  further a b zero = subst (λ (z : ℤ). Lt (steps on back (sub_ℕ a b) x) (steps on back z x)) (sub_suc a b ∙ ap (λ (n : ℕ). sub_ℕ n b) (omega arith)) (one_more (sub_ℕ a b))
  further a b (suc n) =
      let s = sub_ℕ (a + suc n) b in
      subst (λ (z : ℤ). Lt (steps on back (sub_ℕ a b) x) (steps on back z x)) (sub_suc (a + suc n) b ∙ ap (λ (n : ℕ). sub_ℕ n b) (omega arith))
      (trans (steps on back (sub_ℕ a b) x) (steps on back s x) (steps on back (suc_ℤ s) x) (further a b n) (one_more s))

  pub rising : (z w : ℤ) → lt_z z w ≡ true → Lt (steps on back z x) (steps on back w x)
  rising z w h =
      let k = common z w in
      let l = ltb-true k.left k.right (sym (sub_lt k.left k.right k.least) ∙ ((λ i. lt_z (k.is_left i) (k.is_right i)) ∙ h)) in
      let e : k.left + suc (k.right - suc k.left) ≡ k.right = omega arith in
      subst (λ (y : ℤ). Lt (steps on back y x) (steps on back w x)) k.is_left
      (subst (λ (y : ℤ). Lt (steps on back (sub_ℕ k.left k.least) x) (steps on back y x)) (ap (λ (n : ℕ). sub_ℕ n k.least) e ∙ k.is_right)
      (further k.left k.least (k.right - suc k.left)))

-- what each step keeps, all steps keep
module _ {A : Type 0} (on back : A → A) (P : A → Type 0) (up : (x : A) → P x → P (on x)) (down : (x : A) → P x → P (back x)) where
  many : (f : A → A) → ((x : A) → P x → P (f x)) → (n : ℕ) (x : A) → P x → P (times n f x)
  unfolding times
  many f g zero x p = p
  many f g (suc n) x p = g (times n f x) (many f g n x p)

  pub keeping : (z : ℤ) (x : A) → P x → P (steps on back z x)
  unfolding steps
  keeping (pos n) x p = many on up n x p
  keeping (negsuc n) x p = many back down (suc n) x p

-- ---- dates that rise with a number

pub same_number : (z w : ℤ) → lt_z z w ≡ false → lt_z w z ≡ false → z ≡ w
same_number (pos m) (pos n) h g = ap pos (omega (arith, ltb-false m n h, ltb-false n m g))
same_number (pos m) (negsuc n) h g = absurd (true≢false g)
same_number (negsuc m) (pos n) h g = absurd (true≢false h)
same_number (negsuc m) (negsuc n) h g = ap negsuc (omega (arith, ltb-false n m h, ltb-false m n g))

module _ (F : ℤ → Date) (rise : (z w : ℤ) → lt_z z w ≡ true → Before (F z) (F w)) where
  -- in the order of the numbers
  pub in_order : (z w : ℤ) → earlier (F z) (F w) ≡ lt_z z w
  in_order z w = go (lt_z z w) (lt_z w z) refl refl
    where
      go : (s t : Bool) → lt_z z w ≡ s → lt_z w z ≡ t → earlier (F z) (F w) ≡ s
      go true t h g = earlier_of (F z) (F w) (rise z w h)
      go false true h g = to_false (earlier (F z) (F w)) (λ e. not_before (F z) (before_trans (F z) (F w) (F z) (before_of (F z) (F w) e) (rise w z g)))
      go false false h g = to_false (earlier (F z) (F w)) (λ e. not_before (F w) (subst (λ (y : ℤ). Before (F y) (F w)) (same_number z w h g) (before_of (F z) (F w) e)))

  -- no two numbers share a date
  pub one_number : (z w : ℤ) → F z ≡ F w → z ≡ w
  one_number z w e = go (lt_z z w) (lt_z w z) refl refl
    where
      go : (s t : Bool) → lt_z z w ≡ s → lt_z w z ≡ t → z ≡ w
      go true t h g = absurd (not_before (F w) (subst (λ (d : Date). Before d (F w)) e (rise z w h)))
      go false true h g = absurd (not_before (F z) (subst (λ (d : Date). Before d (F z)) (sym e) (rise w z g)))
      go false false h g = same_number z w h g
