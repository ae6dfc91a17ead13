-- Laws of tests: how a Bool is settled, and what a joined test says of its parts.
use mathlib.Core.Path.{◌≡◌, refl, sym}
use mathlib.Core.Bool.{Bool, true, false, ◌&&◌, and-false, false≢true}
use Prim.Native.Nat.{ℕ}
use lib.Dec.{eqb}
use borrow.Author.Tests.{eqb-true, eqb-false, eq-eqb, ne_eqb}

-- a test is settled by what it implies
pub test_is : (s t : Bool) → (s ≡ true → t ≡ true) → (s ≡ false → t ≡ false) → s ≡ t
test_is true t f g = sym (f refl)
test_is false t f g = sym (g refl)

pub to_false : (t : Bool) → (t ≡ true → ⊥) → t ≡ false
to_false true f = absurd (f refl)
to_false false f = refl

-- two numbers that are zero together
pub zero_test : (m n : ℕ) → (m ≡ 0 → n ≡ 0) → (n ≡ 0 → m ≡ 0) → eqb m 0 ≡ eqb n 0
zero_test m n f g = test_is _ _ (λ e. eq-eqb n 0 (f (eqb-true m 0 e))) (λ e. ne_eqb n 0 (λ h. eqb-false m 0 e (g h)))

pub both : (a b : Bool) → a ≡ true → b ≡ true → (a && b) ≡ true
both a b p q = rw (p, q)

pub and_parts : (a b : Bool) → (a && b) ≡ true → (a ≡ true) × (b ≡ true)
and_parts true b h = (refl, h)
and_parts false b h = absurd (false≢true h)

pub left_out : (a b : Bool) → a ≡ false → (a && b) ≡ false
left_out a b p = rw p

pub right_out : (a b : Bool) → b ≡ false → (a && b) ≡ false
right_out a b p = rw (p, and-false a)
