-- Numerals to any base: one digit at a time, and how small and how large the number can be.
use Prim.Native.Nat.{ℕ, suc, ◌+◌, ◌-◌, ◌*◌, ◌^◌, ◌≤◌, ◌<◌}
use native.Mathlib.Omega.{arith}
use native.Mathlib.Numerals.{add-one}
use native.Mathlib.Nat.{pow-zero, pow-succ', pow-le-pow_right, one-le-pow, suc-mul, mul_assoc, mul-le-mul_left, mul-le-mul_right}
use mathlib.Core.Path.{◌≡◌, refl, ap}
use mathlib.Core.Bool.{Bool, true, false, cond}
use mathlib.Core.List.{List, [], ◌∷◌}
use mathlib.Core.Option.{none, some}
use lib.Dec.{leb}
use borrow.Author.Tests.{leb-true}
use lib.ListN.{length, get_or, drop, drop_of_length-le}
use lib.Seq.{drop-cons}
use Rattle.grammar.specs.Grammar.{within, every, Derives}
use Rattle.grammar.specs.Rules.{span, numeral, decimal, number}
use Rattle.grammar.proofs.Tests.{none_some, and_parts}
use Rattle.grammar.proofs.Places.{span_parts}

module _ (base zero : ℕ) where
  -- with k digits after n, the number is at least n with k zeros
  pub numeral_above : (n : ℕ) (d : List ℕ) → n * base ^ length d ≤ numeral base zero n d
  numeral_above n [] = omega (arith, ap (◌*◌ n) (pow-zero base))
  numeral_above n (b ∷ d) =
      let h = numeral_above (n * base + (b - zero)) d in
      let k : n * base * base ^ length d ≤ (n * base + (b - zero)) * base ^ length d = mul-le-mul_right (base ^ length d) (omega arith) in
      rw (pow-succ' base (length d), ← mul_assoc n base (base ^ length d)) (omega arith)

  -- and it is below the next number with k zeros
  below : (n m : ℕ) (d : List ℕ) → 1 ≤ base → n < m → every (span zero (zero + base - 1)) d ≡ true → numeral base zero n d < m * base ^ length d
  unfolding every
  below n m [] l h e = omega (arith, ap (◌*◌ m) (pow-zero base))
  below n m (b ∷ d) l h e =
      let p = and_parts (within (span zero (zero + base - 1)) b) (every (span zero (zero + base - 1)) d) e in
      let q = span_parts zero (zero + base - 1) b p.0 in
      let k : suc n * base ≤ m * base = mul-le-mul_right base (omega arith) in
      let s = suc-mul n base in
      let r : numeral base zero (n * base + (b - zero)) d < m * base * base ^ length d = below (n * base + (b - zero)) (m * base) d l (omega arith) p.1 in
      rw (pow-succ' base (length d), ← mul_assoc m base (base ^ length d)) r

  pub numeral_below : 1 ≤ base → (d : List ℕ) (k : ℕ) → every (span zero (zero + base - 1)) d ≡ true → length d ≤ k → numeral base zero 0 d < base ^ k
  numeral_below l d k e h =
      let p : base ^ length d ≤ base ^ k = pow-le-pow_right l h in
      omega (arith, below 0 1 d l (omega arith) e)

  -- reading digit by digit: with the digits that are left, the value so far makes the whole number, and so is no larger
  pub numeral_next : 1 ≤ base → (d : List ℕ) (v i b : ℕ) → i < length d → b ≡ get_or d i 0 → numeral base zero v (drop i d) ≡ numeral base zero 0 d
      → (numeral base zero (v * base + (b - zero)) (drop (i + 1) d) ≡ numeral base zero 0 d) × (v * base + (b - zero) ≤ numeral base zero 0 d)
  numeral_next l d v i b h e q =
      let w = v * base + (b - zero) in
      let t = drop (i + 1) d in
      let r : numeral base zero w t ≡ numeral base zero 0 d = rw (e, add-one) (rw (drop-cons d i 0 h) at q) in
      let k : w * 1 ≤ w * base ^ length t = mul-le-mul_left w (one-le-pow (length t) base l) in
      (r, omega (arith, numeral_above w t))

  pub numeral_end : (d : List ℕ) (v i : ℕ) → length d ≤ i → numeral base zero v (drop i d) ≡ numeral base zero 0 d → v ≡ numeral base zero 0 d
  numeral_end d v i h q = rw (drop_of_length-le d h) at q

-- a number of at most hi digits
pub number_below : (hi : ℕ) (s : List ℕ) (v : ℕ) → Derives (number hi) s v → v < 10 ^ hi
unfolding Derives
number_below hi s v (a, d, e) = go (leb (length s) hi) refl e
  where
    go : (b : Bool) → leb (length s) hi ≡ b → cond b (some (decimal 0 s)) none ≡ some v → v < 10 ^ hi
    go true l x = let y : decimal 0 s ≡ v = cc in rw (← y) (numeral_below 10 48 (omega arith) s hi d (leb-true (length s) hi l))
    go false l x = none_some x
