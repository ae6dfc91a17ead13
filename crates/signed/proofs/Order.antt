-- The order of the integers, as tests.
use mathlib.Core.Path.{◌≡◌, refl, ap}
use mathlib.Core.Bool.{true, false, not, false≢true}
use Prim.Native.Nat.{zero, suc}
use native.Mathlib.Omega.{arith}
use lib.IntN.{ℤ, pos, negsuc, suc_ℤ}
use lib.Signed.{le_z, lt_z}
use borrow.Author.Tests.{lt-ltb, le-ltb, ltb-true, ltb-false, le-leb, lt-leb, leb-true}
use Rattle.signed.proofs.Tests.{test_is}

pub lt_suc : (y : ℤ) → lt_z y (suc_ℤ y) ≡ true
lt_suc (pos n) = lt-ltb n (suc n) (omega arith)
lt_suc (negsuc zero) = refl
lt_suc (negsuc (suc n)) = lt-ltb n (suc n) (omega arith)

pub lt_trans : (a b c : ℤ) → lt_z a b ≡ true → lt_z b c ≡ true → lt_z a c ≡ true
lt_trans (pos a) (pos b) (pos c) p q = lt-ltb a c (omega (arith, ltb-true a b p, ltb-true b c q))
lt_trans (pos a) (pos b) (negsuc c) p q = absurd (false≢true q)
lt_trans (pos a) (negsuc b) c p q = absurd (false≢true p)
lt_trans (negsuc a) (pos b) (pos c) p q = refl
lt_trans (negsuc a) (pos b) (negsuc c) p q = absurd (false≢true q)
lt_trans (negsuc a) (negsuc b) (pos c) p q = refl
lt_trans (negsuc a) (negsuc b) (negsuc c) p q = lt-ltb c a (omega (arith, ltb-true b a p, ltb-true c b q))

pub lt_irrefl : (a : ℤ) → lt_z a a ≡ false
lt_irrefl (pos a) = le-ltb a a (omega arith)
lt_irrefl (negsuc a) = le-ltb a a (omega arith)

pub le_refl : (a : ℤ) → le_z a a ≡ true
le_refl (pos a) = le-leb a a (omega arith)
le_refl (negsuc a) = le-leb a a (omega arith)

pub le_of_lt : (a b : ℤ) → lt_z a b ≡ true → le_z a b ≡ true
le_of_lt (pos a) (pos b) h = le-leb a b (omega (arith, ltb-true a b h))
le_of_lt (pos a) (negsuc b) h = h
le_of_lt (negsuc a) (pos b) h = h
le_of_lt (negsuc a) (negsuc b) h = le-leb b a (omega (arith, ltb-true b a h))

pub lt_not_le : (x y : ℤ) → lt_z x y ≡ not (le_z y x)
lt_not_le (pos m) (pos n) = test_is _ _ (λ e. ap not (lt-leb n m (ltb-true m n e))) (λ e. ap not (le-leb n m (ltb-false m n e)))
lt_not_le (pos m) (negsuc n) = refl
lt_not_le (negsuc m) (pos n) = refl
lt_not_le (negsuc m) (negsuc n) = test_is _ _ (λ e. ap not (lt-leb m n (ltb-true n m e))) (λ e. ap not (le-leb m n (ltb-false n m e)))

pub le_trans : (a b c : ℤ) → le_z a b ≡ true → le_z b c ≡ true → le_z a c ≡ true
le_trans (pos a) (pos b) (pos c) p q = le-leb a c (omega (arith, leb-true a b p, leb-true b c q))
le_trans (pos a) (pos b) (negsuc c) p q = absurd (false≢true q)
le_trans (pos a) (negsuc b) c p q = absurd (false≢true p)
le_trans (negsuc a) (pos b) (pos c) p q = refl
le_trans (negsuc a) (pos b) (negsuc c) p q = absurd (false≢true q)
le_trans (negsuc a) (negsuc b) (pos c) p q = refl
le_trans (negsuc a) (negsuc b) (negsuc c) p q = le-leb c a (omega (arith, leb-true b a p, leb-true c b q))
