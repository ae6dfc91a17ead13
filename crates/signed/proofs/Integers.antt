-- Laws of the integers that lib.IntN and lib.Signed lack: sums, a product over a sum, absolute values, order, and comparisons of machine words.
use mathlib.Core.Path.{◌≡◌, refl, sym, ap, ◌∙◌, subst}
use mathlib.Core.Bool.{Bool, not, not-not}
use Prim.Native.Nat.{ℕ, zero, suc, ◌+◌, ◌-◌, ◌*◌, ◌≤◌}
use native.Mathlib.Nat.{zero-mul}
use native.Mathlib.Omega.{arith}
use lib.Dec.{T, le→leb, leb→le, leb-zero}
use lib.IntN.{ℤ, pos, negsuc, neg_ℤ, nat_abs, suc_ℤ, pred_ℤ, ◌+ℤ◌, ◌-ℤ◌, ◌*ℤ◌, +ℤ_assoc, +ℤ_comm, +ℤ_idl, neg_ℤ-neg_ℤ, neg_ℤ-+ℤ, +ℤ-neg_ℤ_cancel, -ℤ-+ℤ_cancel, suc_ℤ-+ℤ, pred_ℤ-+ℤ, suc_ℤ-*ℤ, pred_ℤ-*ℤ, zero-*ℤ}
use lib.Signed.{mag, le_z, lt_z}
use mir.Syntax.{w64}
use mir.Val.{SFits, to_z, of_z}
use mir.ValLaws.{to_z-of_z}
use Rattle.signed.proofs.Order.{lt_not_le}
use Rattle.signed.proofs.Differences.{by_sign}

-- ---- sums
pub swap : (a b c : ℤ) → a +ℤ b +ℤ c ≡ a +ℤ c +ℤ b
swap a b c = +ℤ_assoc a b c ∙ ap (λ (k : ℤ). a +ℤ k) (+ℤ_comm b c) ∙ sym (+ℤ_assoc a c b)

pub plus_minus : (a b : ℤ) → a +ℤ b -ℤ a ≡ b
plus_minus a b = ap (λ (k : ℤ). k -ℤ a) (+ℤ_comm a b) ∙ +ℤ-neg_ℤ_cancel b a

pub plus_difference : (a b : ℤ) → a +ℤ (b -ℤ a) ≡ b
plus_difference a b = +ℤ_comm a (b -ℤ a) ∙ -ℤ-+ℤ_cancel b a

pub cancelled : (a b c : ℤ) → a +ℤ b -ℤ (a +ℤ c) ≡ b -ℤ c
cancelled a b c =
    ap (λ (k : ℤ). a +ℤ b +ℤ k) (neg_ℤ-+ℤ a c)
    ∙ sym (+ℤ_assoc (a +ℤ b) (neg_ℤ a) (neg_ℤ c))
    ∙ ap (λ (k : ℤ). k -ℤ c) (plus_minus a b)

-- ---- products
over_zero : (y k : ℤ) → (pos 0 +ℤ y) *ℤ k ≡ pos 0 *ℤ k +ℤ y *ℤ k
over_zero y k = ap (λ (z : ℤ). z *ℤ k) (+ℤ_idl y) ∙ sym (ap (λ (z : ℤ). z +ℤ y *ℤ k) (zero-*ℤ k) ∙ +ℤ_idl (y *ℤ k))

-- the step from x to x + 1, and from x to x - 1
over_suc : (x y k : ℤ) → (x +ℤ y) *ℤ k ≡ x *ℤ k +ℤ y *ℤ k → (suc_ℤ x +ℤ y) *ℤ k ≡ suc_ℤ x *ℤ k +ℤ y *ℤ k
over_suc x y k h =
    ap (λ (z : ℤ). z *ℤ k) (suc_ℤ-+ℤ x y)
    ∙ suc_ℤ-*ℤ (x +ℤ y) k
    ∙ ap (λ (z : ℤ). z +ℤ k) h
    ∙ swap (x *ℤ k) (y *ℤ k) k
    ∙ ap (λ (z : ℤ). z +ℤ y *ℤ k) (sym (suc_ℤ-*ℤ x k))

over_pred : (x y k : ℤ) → (x +ℤ y) *ℤ k ≡ x *ℤ k +ℤ y *ℤ k → (pred_ℤ x +ℤ y) *ℤ k ≡ pred_ℤ x *ℤ k +ℤ y *ℤ k
over_pred x y k h =
    ap (λ (z : ℤ). z *ℤ k) (pred_ℤ-+ℤ x y)
    ∙ pred_ℤ-*ℤ (x +ℤ y) k
    ∙ ap (λ (z : ℤ). z -ℤ k) h
    ∙ swap (x *ℤ k) (y *ℤ k) (neg_ℤ k)
    ∙ ap (λ (z : ℤ). z +ℤ y *ℤ k) (sym (pred_ℤ-*ℤ x k))

pub over_sum : (x y k : ℤ) → (x +ℤ y) *ℤ k ≡ x *ℤ k +ℤ y *ℤ k
over_sum (pos zero) y k = over_zero y k
over_sum (pos (suc n)) y k = over_suc (pos n) y k (over_sum (pos n) y k)
over_sum (negsuc zero) y k = over_pred (pos 0) y k (over_zero y k)
over_sum (negsuc (suc n)) y k = over_pred (negsuc n) y k (over_sum (negsuc n) y k)

pub neg_times : (w : ℤ) (d : ℕ) → neg_ℤ w *ℤ pos d ≡ neg_ℤ (w *ℤ pos d)
neg_times (pos zero) d = ap pos (zero-mul d) ∙ sym (ap (λ (n : ℕ). neg_ℤ (pos n)) (zero-mul d))
neg_times (pos (suc n)) d = refl
neg_times (negsuc n) d = sym (neg_ℤ-neg_ℤ (pos (suc n * d)))

-- ---- absolute values. `mag` is n of both `pos n` and `negsuc n`
pub abs_neg : (z : ℤ) → nat_abs (neg_ℤ z) ≡ nat_abs z
abs_neg (pos zero) = refl
abs_neg (pos (suc n)) = refl
abs_neg (negsuc n) = refl

-- the distance of two natural numbers
abbrev pub dist : ℕ → ℕ → ℕ
dist a b = (a - b) + (b - a)

pub abs_diff : (a b : ℕ) → nat_abs (pos a -ℤ pos b) ≡ dist a b
abs_diff a zero = go a
  where
    go : (a : ℕ) → a + 0 ≡ (a - 0) + (0 - a)
    go a = omega arith
abs_diff a (suc b) = by_sign (λ (z : ℤ). nat_abs z ≡ dist a (suc b)) a (suc b) (λ h. omega arith) (λ h. omega arith)

pub mag_plus : (z : ℤ) (n : ℕ) → mag (z +ℤ pos n) ≤ mag z + n
mag_plus (pos a) n = go (a + n)
  where
    go : (x : ℕ) → x ≤ x
    go x = omega arith
mag_plus (negsuc a) n = by_sign (λ (z : ℤ). mag z ≤ a + n) n (suc a) (λ h. omega arith) (λ h. omega arith)

pub mag_minus : (z : ℤ) (n : ℕ) → mag (z -ℤ pos n) ≤ mag z + n
mag_minus z zero = mag_plus z zero
mag_minus (pos a) (suc n) = by_sign (λ (z : ℤ). mag z ≤ a + suc n) a (suc n) (λ h. omega arith) (λ h. omega arith)
mag_minus (negsuc a) (suc n) = go a n
  where
    go : (a n : ℕ) → suc (a + n) ≤ a + suc n
    go a n = omega arith

-- ---- order
after : (z : ℤ) (k : ℕ) → T (le_z z (z +ℤ pos k))
after (pos a) k = le→leb a (a + k) (go a k)
  where
    go : (a k : ℕ) → a ≤ a + k
    go a k = omega arith
after (negsuc a) k = by_sign (λ (z : ℤ). T (le_z (negsuc a) z)) k (suc a) (λ h. le→leb (suc a - suc k) a (go a k)) (λ h. tt)
  where
    go : (a k : ℕ) → suc a - suc k ≤ a
    go a k = omega arith

between : (x y : ℤ) → T (le_z x y) → (k : ℕ) × (y ≡ x +ℤ pos k)
between (pos a) (pos b) h = (b - a, ap pos (go a b (leb→le a b h)))
  where
    go : (a b : ℕ) → a ≤ b → b ≡ a + (b - a)
    go a b h = omega arith
between (pos a) (negsuc b) h = absurd h
between (negsuc a) (pos b) h = (b + suc a, by_sign (λ (z : ℤ). pos b ≡ z) (b + suc a) (suc a) (λ k. absurd (omega arith)) (λ k. ap pos (omega arith)))
between (negsuc a) (negsuc b) h =
    let l = leb→le b a h in
    (a - b, by_sign (λ (z : ℤ). negsuc b ≡ z) (a - b) (suc a) (λ k. ap negsuc (omega arith)) (λ k. absurd (omega arith)))

pub mono : (R x y : ℤ) → T (le_z x y) → T (le_z (R +ℤ x) (R +ℤ y))
mono R x y h =
    let k = between x y h in
    subst (λ (z : ℤ). T (le_z (R +ℤ x) z)) (+ℤ_assoc R x (pos k.0) ∙ ap (λ (z : ℤ). R +ℤ z) (sym k.1)) (after (R +ℤ x) k.0)

pub neg_le : (a b : ℕ) → b ≤ a → T (le_z (neg_ℤ (pos a)) (neg_ℤ (pos b)))
neg_le zero zero h = tt
neg_le zero (suc b) h = absurd (go h)
  where
    go : suc b ≤ 0 → ⊥
    go h = omega arith
neg_le (suc a) zero h = tt
neg_le (suc a) (suc b) h = le→leb b a (go h)
  where
    go : suc b ≤ suc a → b ≤ a
    go h = omega arith

pub neg_le_pos : (a b : ℕ) → T (le_z (neg_ℤ (pos a)) (pos b))
neg_le_pos zero b = subst T (sym (leb-zero b)) tt
neg_le_pos (suc a) b = tt

pub le_z_not : (a b : ℤ) → le_z a b ≡ not (lt_z b a)
le_z_not a b = sym (not-not (le_z a b)) ∙ ap not (sym (lt_not_le b a))

-- a comparison of two machine words is one of the numbers that they hold
pub tested : {a b : ℤ} {t : Bool} → SFits w64 a → SFits w64 b → lt_z (to_z w64 (of_z w64 a)) (to_z w64 (of_z w64 b)) ≡ t → lt_z a b ≡ t
tested {a} {b} F G h = (λ i. lt_z (sym (to_z-of_z w64 a F) i) (sym (to_z-of_z w64 b G) i)) ∙ h
