-- The integer n - b, written `sub_ℕ n b`: each law turns a fact on such integers into one on natural numbers, which `omega` reads.
use mathlib.Core.Path.{◌≡◌, refl, sym, ap, ◌∙◌}
use mathlib.Core.Bool.{Bool, true, false, not, cond, true≢false}
use Prim.Native.Nat.{ℕ, zero, suc, ◌+◌, ◌-◌, ◌*◌, ◌<◌, ◌≤◌}
use native.Mathlib.Omega.{arith}
use native.Mathlib.Nat.{add-mul}
use lib.Dec.{leb, ltb}
use lib.IntN.{ℤ, pos, negsuc, suc_ℤ, sub_ℕ, neg_ℤ, ◌+ℤ◌, ◌*ℤ◌, pos-ne-negsuc, pos-*ℤ-pos, negsuc-*ℤ-pos}
use lib.Signed.{le_z, lt_z, mag}
use mir.Syntax.{w64}
use mir.Val.{SFits}
use borrow.Author.Tests.{ltb-true, ltb-false, lt-ltb, le-ltb, le-leb, lt-leb, leb-true, leb-false, not-true, not-false}
use Rattle.signed.specs.Bias.{lift, biased, unbiased}
use Rattle.signed.proofs.Tests.{test_is}
use Rattle.signed.proofs.Order.{lt_not_le}

-- ---- the two forms

pub sub_low : (n b : ℕ) → n < b → sub_ℕ n b ≡ negsuc (b - suc n)
sub_low n b h = rw (lt-ltb n b h)

pub sub_high : (n b : ℕ) → b ≤ n → sub_ℕ n b ≡ pos (n - b)
sub_high n b h = rw (le-ltb n b h)

-- cases on the sign, with the fact that each case gives
pub by_sign {ℓ} : (P : ℤ → Type ℓ) (n b : ℕ) → (n < b → P (negsuc (b - suc n))) → (b ≤ n → P (pos (n - b))) → P (sub_ℕ n b)
by_sign P n b f g = go (ltb n b) refl
  where
    go : (t : Bool) → ltb n b ≡ t → P (cond t (negsuc (b - suc n)) (pos (n - b)))
    go true e = f (ltb-true n b e)
    go false e = g (ltb-false n b e)

-- ---- every number from -b on has the form

pub lift_is : (z : ℤ) (b : ℕ) → (z ≡ negsuc (mag z) → mag z < b) → sub_ℕ (lift z b) b ≡ z
lift_is (pos n) b h = sub_high (n + b) b (omega arith) ∙ ap pos (omega arith)
lift_is (negsuc n) b h = sub_low (b - suc n) b (omega (arith, h refl)) ∙ ap negsuc (omega (arith, h refl))

-- a number that is not at most -b
pub above_least : (z : ℤ) (b : ℕ) → le_z z (sub_ℕ 0 b) ≡ false → z ≡ negsuc (mag z) → mag z < b
above_least (pos n) b h e = absurd (pos-ne-negsuc n n e)
above_least (negsuc n) zero h e = absurd (true≢false h)
above_least (negsuc n) (suc b) h e = leb_below b n (ap (le_z (negsuc n)) (sym (sub_low 0 (suc b) (omega arith))) ∙ h)
  where
    leb_below : (b n : ℕ) → leb (suc b - 1) n ≡ false → n < suc b
    leb_below b n g = omega (arith, leb-false (suc b - 1) n g)

pub lift_sub : (n b : ℕ) → lift (sub_ℕ n b) b ≡ n
lift_sub n b = by_sign (λ (z : ℤ). lift z b ≡ n) n b (λ h. omega arith) (λ h. omega arith)

pub sub_inj : (m n b : ℕ) → sub_ℕ m b ≡ sub_ℕ n b → m ≡ n
sub_inj m n b e = sym (lift_sub m b) ∙ (ap (λ (z : ℤ). lift z b) e ∙ lift_sub n b)

-- a signed 64-bit number is its natural number less 2^63
pub unbiased_biased : (z : ℤ) → SFits w64 z → unbiased (biased z) ≡ z
unbiased_biased z f = lift_is z 9223372036854775808 (λ e. omega (arith, f.sfits))

-- ---- equal differences, neighbours, order

pub same_diff : (a b c d : ℕ) → a + d ≡ c + b → sub_ℕ a b ≡ sub_ℕ c d
same_diff a b c d e =
    by_sign (λ (z : ℤ). z ≡ sub_ℕ c d) a b
    (λ h. ap negsuc (omega arith) ∙ sym (sub_low c d (omega arith)))
    (λ h. ap pos (omega arith) ∙ sym (sub_high c d (omega arith)))

pub suc_of : (n : ℕ) → suc_ℤ (negsuc n) ≡ sub_ℕ 0 n
suc_of zero = refl
suc_of (suc n) = sym (sub_low 0 (suc n) (omega arith) ∙ ap negsuc (omega arith))

pub sub_suc : (n b : ℕ) → suc_ℤ (sub_ℕ n b) ≡ sub_ℕ (suc n) b
sub_suc n b =
    by_sign (λ (z : ℤ). suc_ℤ z ≡ sub_ℕ (suc n) b) n b
    (λ h. suc_of (b - suc n) ∙ same_diff 0 (b - suc n) (suc n) b (omega arith))
    (λ h. ap pos (omega arith) ∙ sym (sub_high (suc n) b (omega arith)))

pub sub_le : (m n b : ℕ) → le_z (sub_ℕ m b) (sub_ℕ n b) ≡ leb m n
sub_le m n b =
    by_sign (λ (z : ℤ). le_z z (sub_ℕ n b) ≡ leb m n) m b
    (λ h. by_sign (λ (z : ℤ). le_z (negsuc (b - suc m)) z ≡ leb m n) n b
    (λ g. test_is _ _ (λ e. le-leb m n (omega (arith, leb-true (b - suc n) (b - suc m) e))) (λ e. lt-leb m n (omega (arith, leb-false (b - suc n) (b - suc m) e))))
    (λ g. sym (le-leb m n (omega arith))))
    (λ h. by_sign (λ (z : ℤ). le_z (pos (m - b)) z ≡ leb m n) n b
    (λ g. sym (lt-leb m n (omega arith)))
    (λ g. test_is _ _ (λ e. le-leb m n (omega (arith, leb-true (m - b) (n - b) e))) (λ e. lt-leb m n (omega (arith, leb-false (m - b) (n - b) e)))))

pub sub_lt : (m n b : ℕ) → lt_z (sub_ℕ m b) (sub_ℕ n b) ≡ ltb m n
sub_lt m n b =
    lt_not_le (sub_ℕ m b) (sub_ℕ n b)
    ∙ (ap not (sub_le n m b) ∙ test_is (not (leb n m)) (ltb m n) (λ e. lt-ltb m n (leb-false n m (not-true (leb n m) e))) (λ e. le-ltb m n (leb-true n m (not-false (leb n m) e))))

-- two integers as differences from one number
pub record Common (x y : ℤ) : Type 0 where
  pub least : ℕ
  pub left : ℕ
  pub right : ℕ
  pub is_left : sub_ℕ left least ≡ x
  pub is_right : sub_ℕ right least ≡ y

pub common : (x y : ℤ) → Common x y
common x y =
    let b = suc (mag x + mag y) in
    record { least = b; left = lift x b; right = lift y b; is_left = lift_is x b (λ e. omega arith); is_right = lift_is y b (λ e. omega arith) }

-- ---- sums and multiples

pub sub_plus : (a b s : ℕ) → sub_ℕ a b +ℤ pos s ≡ sub_ℕ (a + s) b
sub_plus a b s =
    by_sign (λ (z : ℤ). z +ℤ pos s ≡ sub_ℕ (a + s) b) a b
    (λ h. same_diff s (suc (b - suc a)) (a + s) b (omega arith))
    (λ h. ap pos (omega arith) ∙ sym (sub_high (a + s) b (omega arith)))

pub neg_plus : (m s : ℕ) → neg_ℤ (pos m) +ℤ pos s ≡ sub_ℕ s m
neg_plus zero s = ap pos (omega arith) ∙ sym (sub_high s 0 (omega arith))
neg_plus (suc m) s = refl

-- (a - b) * d + s
pub times_plus : (a b d s : ℕ) → sub_ℕ a b *ℤ pos d +ℤ pos s ≡ sub_ℕ (a * d + s) (b * d)
times_plus a b d s =
    by_sign (λ (z : ℤ). z *ℤ pos d +ℤ pos s ≡ sub_ℕ (a * d + s) (b * d)) a b
    (λ h.
    let e : suc (b - suc a) + a ≡ b = omega arith in
    let f : suc (b - suc a) * d + a * d ≡ b * d = sym (add-mul (suc (b - suc a)) a d) ∙ ap (λ (n : ℕ). n * d) e in
    ap (λ (z : ℤ). z +ℤ pos s) (negsuc-*ℤ-pos (b - suc a) d) ∙ (neg_plus (suc (b - suc a) * d) s ∙ same_diff s (suc (b - suc a) * d) (a * d + s) (b * d) (omega arith)))
    (λ h.
    let e : a - b + b ≡ a = omega arith in
    let f : (a - b) * d + b * d ≡ a * d = sym (add-mul (a - b) b d) ∙ ap (λ (n : ℕ). n * d) e in
    ap (λ (z : ℤ). z +ℤ pos s) (pos-*ℤ-pos (a - b) d) ∙ (ap pos (omega arith) ∙ sym (sub_high (a * d + s) (b * d) (omega arith))))
