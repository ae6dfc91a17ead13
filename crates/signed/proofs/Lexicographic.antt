-- Numbers of two digits in any base are ordered by the first digit, then by the second.
use mathlib.Core.Path.{◌≡◌, ap}
use mathlib.Core.Bool.{◌&&◌, ◌||◌}
use Prim.Native.Nat.{ℕ, suc, ◌+◌, ◌*◌, ◌<◌}
use native.Mathlib.Omega.{arith}
use native.Mathlib.Nat.{mul-le-mul_right, suc-mul}
use native.Mathlib.Decide.{dec_le}
use lib.Dec.{ltb, eqb}
use borrow.Author.Tests.{lt-ltb, le-ltb, ltb-true, ltb-false, eq-eqb, ne_eqb}
use Rattle.signed.proofs.Tests.{test_is}

-- a greater first digit outweighs the second
above : (k q r q' r' : ℕ) → r < k → q < q' → q * k + r < q' * k + r'
above k q r q' r' h g = omega (arith, mul-le-mul_right k g, suc-mul q k)

pub lexicographic : (k q r q' r' : ℕ) → r < k → r' < k → ltb (q * k + r) (q' * k + r') ≡ (ltb q q' || (eqb q q' && ltb r r'))
lexicographic k q r q' r' h h' =
    elim (dec_le (suc q) q') [
      | yes g ↦ rw (lt-ltb q q' g) (lt-ltb (q * k + r) (q' * k + r') (above k q r q' r' h g))
      | no g ↦ elim (dec_le (suc q') q) [
        | yes f ↦ rw (le-ltb q q' (omega arith), ne_eqb q q' (λ e. omega arith)) (le-ltb (q * k + r) (q' * k + r') (omega (arith, above k q' r' q r h' f)))
        | no f ↦
            let e : q ≡ q' = omega arith in
            let p : q * k ≡ q' * k = ap (λ (n : ℕ). n * k) e in
            rw (le-ltb q q' (omega arith), eq-eqb q q' e)
            (test_is _ _ (λ u. lt-ltb r r' (omega (arith, ltb-true (q * k + r) (q' * k + r') u))) (λ u. le-ltb r r' (omega (arith, ltb-false (q * k + r) (q' * k + r') u))))
      ]
    ]
