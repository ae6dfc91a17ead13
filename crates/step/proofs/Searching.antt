-- The search for the number at which a sequence of dates is a given date: it finds the only one there is, and that is near 0.
use Rattle.std.specs.Prelude.{Some, None}
use mathlib.Core.Path.{◌≡◌, refl, sym, ap, ◌∙◌}
use mathlib.Core.Bool.{Bool, true, false, cond}
use Prim.Native.Nat.{ℕ, zero, suc, ◌+◌, ◌<◌, ◌≤◌}
use native.Mathlib.Omega.{arith}
use native.Mathlib.Decide.{dec_le}
use lib.IntN.{ℤ, pos, negsuc, suc_ℤ, sub_ℕ}
use lib.Signed.{mag}
use Rattle.signed.proofs.Tests.{to_false}
use Rattle.signed.proofs.Differences.{sub_suc, sub_inj}
use Rattle.calendar.specs.Order.{same_date}
use Rattle.calendar.specs.declared.Date.{Date}
use Rattle.calendar.proofs.Numbering.{same_of, same_self}
use Rattle.step.specs.Answers.{searched}

suc_mag : (z : ℤ) → mag (suc_ℤ z) ≤ suc (mag z)
suc_mag (pos n) = omega arith
suc_mag (negsuc zero) = omega arith
suc_mag (negsuc (suc n)) = omega arith

module _ (F : ℤ → Date) (d : Date) where
  -- what is found is right
  searched_is : (k : ℕ) (z n : ℤ) → searched F d k z ≡ Some n → F n ≡ d
  unfolding searched
  searched_is zero z n e = absurd (let u : ◌≡◌ {A = ℕ} 0 1 = (cc) in omega arith)
  searched_is (suc k) z n e = go (same_date (F z) d) refl (searched_is k (suc_ℤ z) n) e
    where
      go : (t : Bool) → same_date (F z) d ≡ t → (searched F d k (suc_ℤ z) ≡ Some n → F n ≡ d) → cond t (Some z) (searched F d k (suc_ℤ z)) ≡ Some n → F n ≡ d
      go true h f e = let u : z ≡ n = (cc) in ap F (sym u) ∙ same_of (F z) d h
      go false h f e = f e

  pub found_is : (n : ℤ) → searched F d 480000 (negsuc 239999) ≡ Some n → F n ≡ d
  found_is n e = searched_is 480000 (sub_ℕ 0 240000) n e

  -- and near where the search begins
  searched_near : (k : ℕ) (z n : ℤ) → searched F d k z ≡ Some n → mag n ≤ mag z + k
  unfolding searched
  searched_near zero z n e = absurd (let u : ◌≡◌ {A = ℕ} 0 1 = (cc) in omega arith)
  searched_near (suc k) z n e = go (same_date (F z) d) (searched_near k (suc_ℤ z) n) e
    where
      go : (t : Bool) → (searched F d k (suc_ℤ z) ≡ Some n → mag n ≤ mag (suc_ℤ z) + k) → cond t (Some z) (searched F d k (suc_ℤ z)) ≡ Some n → mag n ≤ mag z + suc k
      go true g e = let u : z ≡ n = (cc) in omega (arith, ap mag u)
      go false g e = omega (arith, g e, suc_mag z)

  pub found_near : (n : ℤ) → searched F d 480000 (negsuc 239999) ≡ Some n → mag n ≤ 719999
  found_near n e = searched_near 480000 (negsuc 239999) n e

  -- nothing is found where there is nothing
  searched_none : ((n : ℤ) → F n ≡ d → ⊥) → (k : ℕ) (z : ℤ) → searched F d k z ≡ None
  unfolding searched
  searched_none f zero z = refl
  searched_none f (suc k) z =
      let other : same_date (F z) d ≡ false = to_false (same_date (F z) d) (λ u. f z (same_of (F z) d u)) in
      ap (λ (t : Bool). cond t (Some z) (searched F d k (suc_ℤ z))) other ∙ searched_none f k (suc_ℤ z)

  pub found_none : ((n : ℤ) → F n ≡ d → ⊥) → searched F d 480000 (negsuc 239999) ≡ None
  found_none f = searched_none f 480000 (sub_ℕ 0 240000)

  -- what is there is found, where no two numbers share a date
  module _ (one : (z w : ℤ) → F z ≡ F w → z ≡ w) where
    searched_at : (k s n b : ℕ) → s ≤ n → n < s + k → F (sub_ℕ n b) ≡ d → searched F d k (sub_ℕ s b) ≡ Some (sub_ℕ n b)
    unfolding searched
    searched_at zero s n b h g e = absurd (omega arith)
    searched_at (suc k) s n b h g e =
        elim (dec_le (suc s) n) [
          | yes l ↦
              let other : same_date (F (sub_ℕ s b)) d ≡ false = to_false (same_date (F (sub_ℕ s b)) d) (λ u. omega (arith, sub_inj s n b (one (sub_ℕ s b) (sub_ℕ n b) (same_of (F (sub_ℕ s b)) d u ∙ sym e)))) in
              ap (λ (t : Bool). cond t (Some (sub_ℕ s b)) (searched F d k (suc_ℤ (sub_ℕ s b)))) other
              ∙ (ap (searched F d k) (sub_suc s b) ∙ searched_at k (suc s) n b l (omega arith) e)
          | no l ↦
              let at_n : s ≡ n = omega arith in
              let same : same_date (F (sub_ℕ s b)) d ≡ true = ap (λ (x : Date). same_date x d) (ap (λ (m : ℕ). F (sub_ℕ m b)) at_n ∙ e) ∙ same_self d in
              ap (λ (t : Bool). cond t (Some (sub_ℕ s b)) (searched F d k (suc_ℤ (sub_ℕ s b)))) same ∙ ap (λ (m : ℕ). Some (sub_ℕ m b)) at_n
        ]

    pub found_at : (n : ℕ) → n < 480000 → F (sub_ℕ n 240000) ≡ d → searched F d 480000 (negsuc 239999) ≡ Some (sub_ℕ n 240000)
    found_at n h e = searched_at 480000 0 n 240000 (omega arith) (omega arith) e
