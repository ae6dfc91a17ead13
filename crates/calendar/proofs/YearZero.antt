-- The year after and the year before, with or without a year 0.
use mathlib.Core.Path.{◌≡◌, refl, sym, ap, ◌∙◌}
use mathlib.Core.Bool.{Bool, true, false, true≢false}
use Prim.Native.Nat.{zero, suc}
use native.Mathlib.Omega.{arith}
use lib.IntN.{ℤ, pos, negsuc, suc_ℤ, suc-pred, pred-suc}
use lib.Signed.{lt_z}
use borrow.Author.Tests.{lt-ltb, ltb-true, ne_eqb}
use Rattle.signed.proofs.Order.{lt_suc}
use Rattle.signed.proofs.Differences.{common, sub_lt, sub_suc}
use Rattle.calendar.specs.Plain.{skip_after, skip_before, next_year, prev_year, is_year, lacks_year}

skip_back : (y : ℤ) → is_year 0 y ≡ false → skip_after (skip_before y) ≡ y
skip_back (pos zero) h = absurd (true≢false h)
skip_back (pos (suc zero)) h = refl
skip_back (pos (suc (suc n))) h = refl
skip_back (negsuc n) h = refl

skip_on : (y : ℤ) → is_year 0 y ≡ false → skip_before (skip_after y) ≡ y
skip_on (pos zero) h = absurd (true≢false h)
skip_on (pos (suc n)) h = refl
skip_on (negsuc zero) h = refl
skip_on (negsuc (suc n)) h = refl

skip_before_0 : (y : ℤ) → is_year 0 (skip_before y) ≡ false
skip_before_0 (pos zero) = refl
skip_before_0 (pos (suc zero)) = refl
skip_before_0 (pos (suc (suc n))) = ne_eqb (suc n) 0 (λ e. omega arith)
skip_before_0 (negsuc n) = refl

skip_after_0 : (y : ℤ) → is_year 0 (skip_after y) ≡ false
skip_after_0 (pos n) = ne_eqb (suc n) 0 (λ e. omega arith)
skip_after_0 (negsuc zero) = refl
skip_after_0 (negsuc (suc n)) = refl

pub after_before : (z : Bool) (y : ℤ) → lacks_year z y ≡ false → next_year z (prev_year z y) ≡ y
after_before true y h = suc-pred y
after_before false y h = skip_back y h

pub before_after : (z : Bool) (y : ℤ) → lacks_year z y ≡ false → prev_year z (next_year z y) ≡ y
before_after true y h = pred-suc y
before_after false y h = skip_on y h

pub before_not_0 : (z : Bool) (y : ℤ) → lacks_year z (prev_year z y) ≡ false
before_not_0 true y = refl
before_not_0 false y = skip_before_0 y

pub after_not_0 : (z : Bool) (y : ℤ) → lacks_year z (next_year z y) ≡ false
after_not_0 true y = refl
after_not_0 false y = skip_after_0 y

lt_skip : (y : ℤ) → lt_z y (skip_after y) ≡ true
lt_skip (pos n) = lt-ltb n (suc n) (omega arith)
lt_skip (negsuc zero) = refl
lt_skip (negsuc (suc n)) = lt-ltb n (suc n) (omega arith)

pub later : (z : Bool) (y : ℤ) → lt_z y (next_year z y) ≡ true
later true y = lt_suc y
later false y = lt_skip y

-- ---- between a year and the year after it there is none

no_between : (y w : ℤ) → lt_z y w ≡ true → lt_z w (suc_ℤ y) ≡ true → ⊥
no_between y w p q =
    let k = common y w in
    let low = sym (sub_lt k.left k.right k.least) ∙ ((λ i. lt_z (k.is_left i) (k.is_right i)) ∙ p) in
    let high = sym (sub_lt k.right (suc k.left) k.least) ∙ ((λ i. lt_z (k.is_right i) ((sym (sub_suc k.left k.least) ∙ ap suc_ℤ k.is_left) i)) ∙ q) in
    omega (arith, ltb-true k.left k.right low, ltb-true k.right (suc k.left) high)

no_skipped : (y w : ℤ) → lt_z y w ≡ true → lt_z w (skip_after y) ≡ true → is_year 0 w ≡ false → ⊥
no_skipped (pos a) w p q n = no_between (pos a) w p q
no_skipped (negsuc zero) (pos zero) p q n = true≢false n
no_skipped (negsuc zero) (pos (suc b)) p q n = omega (arith, ltb-true (suc b) 1 q)
no_skipped (negsuc zero) (negsuc b) p q n = omega (arith, ltb-true b 0 p)
no_skipped (negsuc (suc a)) w p q n = no_between (negsuc (suc a)) w p q

pub none_between : (z : Bool) (y w : ℤ) → lt_z y w ≡ true → lt_z w (next_year z y) ≡ true → lacks_year z w ≡ false → ⊥
none_between true y w p q n = no_between y w p q
none_between false y w p q n = no_skipped y w p q n
