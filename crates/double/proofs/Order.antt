-- The count follows the order of the doubles: of two doubles the greater never has the smaller count.
use mathlib.Core.Path.{◌≡◌, sym, ap, ◌∙◌, subst}
use mathlib.Core.Logic.{◌⊎◌, inl, inr}
use mathlib.Core.Bool.{Bool, true, false, ◌&&◌, ◌||◌}
use Prim.Native.Nat.{ℕ, ◌*◌, ◌≤◌, ◌<◌}
use native.Mathlib.Nat.{le_trans, le_of_eq, le_of_lt, zero-mul, mul_right_comm, mul-le-mul_right, eq_of_mul-eq-mul_right}
use native.Mathlib.Omega.{arith}
use lib.Dec.{T, ltb, eqb, le→leb, ltb→lt, eqb→eq}
use lib.IntN.{ℤ, pos, neg_ℤ}
use lib.Signed.{le_z}
use lib.Ieee.{fin, up, down, le, lt, eq}
use lib.Ieee.Fits.{down_pos, and_l, and_r}
use lib.Ieee.Nearest.{closest, closest_mono}
use Rattle.rounding.proofs.Closest.{below_half}
use Rattle.signed.proofs.Integers.{mono, neg_le, neg_le_pos}
use Rattle.signed.specs.Sign.{with_sign}
use Rattle.double.specs.Nearest.{nearest_size, nearest_count}

either : (p q : Bool) → T (p || q) → T p ⊎ T q
either true q h = inl tt
either false q h = inr h

le_from : (a b : ℕ) (t : Bool) → (T t → a ≡ b) → T (ltb a b || (t && true)) → a ≤ b
le_from a b t f h = elim (either (ltb a b) (t && true) h) [ inl u ↦ le_of_lt (ltb→lt a b u) | inr u ↦ le_of_eq (f (and_l t true u)) ]

module _ (P m : ℕ) (e : ℤ) (n : ℕ) (d : ℤ) where
  size_le : m * up e * down d ≤ n * up d * down e → nearest_size P m e ≤ nearest_size P n d
  size_le h =
      closest_mono (m * up e * P) (down e) (n * up d * P) (down d) (down_pos e) (down_pos d)
      (le_trans (le_of_eq (mul_right_comm (m * up e) P (down d))) (le_trans (mul-le-mul_right P h) (le_of_eq (mul_right_comm (n * up d) (down e) P))))

  pub size_none : m * up e * down d ≡ 0 → nearest_size P m e ≡ 0
  size_none h =
      let k : m * up e ≡ 0 = eq_of_mul-eq-mul_right (down d) (down_pos d) (m * up e) 0 (h ∙ sym (zero-mul (down d))) in
      ap (λ (x : ℕ). closest (x * P) (down e)) k ∙ sym (below_half (0 * P) (down e) (go P (down e) (down_pos e)))
    where
      go : (P d : ℕ) → 0 < d → 0 * P * 2 < d
      go P d h = omega arith

-- by the two signs; -0 and +0 are equal
signed_mono : (P : ℕ) (s : Bool) (m : ℕ) (e : ℤ) (t : Bool) (n : ℕ) (d : ℤ) → T (le (fin s m e) (fin t n d)) → T (le_z (with_sign s (nearest_size P m e)) (with_sign t (nearest_size P n d)))
unfolding le lt eq
signed_mono P false m e false n d h =
    let a = m * up e * down d in
    let b = n * up d * down e in
    le→leb (nearest_size P m e) (nearest_size P n d) (size_le P m e n d (le_from a b (eqb a b) (λ q. eqb→eq a b q) h))
signed_mono P true m e false n d h = neg_le_pos (nearest_size P m e) (nearest_size P n d)
signed_mono P true m e true n d h =
    let a = m * up e * down d in
    let b = n * up d * down e in
    neg_le (nearest_size P m e) (nearest_size P n d) (size_le P n d m e (le_from b a (eqb a b) (λ q. sym (eqb→eq a b q)) h))
signed_mono P false m e true n d h =
    let a = m * up e * down d in
    let b = n * up d * down e in
    let i : a ≡ b = eqb→eq a b (and_l (eqb a b) (eqb a 0) h) in
    let j : a ≡ 0 = eqb→eq a 0 (and_r (eqb a b) (eqb a 0) h) in
    subst (λ (x : ℕ). T (le_z (pos x) (neg_ℤ (pos (nearest_size P n d))))) (sym (size_none P m e n d j))
    (subst (λ (x : ℕ). T (le_z (pos 0) (neg_ℤ (pos x)))) (sym (size_none P n d m e (sym i ∙ j))) tt)

pub count_mono : (R : ℤ) (P : ℕ) (s : Bool) (m : ℕ) (e : ℤ) (t : Bool) (n : ℕ) (d : ℤ) → T (le (fin s m e) (fin t n d)) → T (le_z (nearest_count R P s m e) (nearest_count R P t n d))
count_mono R P s m e t n d h = mono R (with_sign s (nearest_size P m e)) (with_sign t (nearest_size P n d)) (signed_mono P s m e t n d h)
