-- The lengths of periods, and how many of them lead out of the range: L periods of P microseconds are 2^60 microseconds or more, and less than 2^61.
use mathlib.Core.Path.{◌≡◌, refl, sym, ap, ◌∙◌}
use mathlib.Core.Bool.{Bool, true, false}
use Prim.Native.Nat.{ℕ, ◌+◌, ◌-◌, ◌*◌, ◌^◌, ◌≤◌, ◌<◌}
use native.Mathlib.Decide.{dec_lt}
use native.Mathlib.Omega.{arith}
use native.Mathlib.Nat.{mul_comm, mul_assoc, mul_left_comm, mul-le-mul_left, mul-le-mul_right}
use lib.Dec.{ltb, lit≤, lit<}
use lib.IntN.{ℤ, nat_abs}
use lib.Pow.{pow-add, pow_mono}
use borrow.Author.Tests.{ltb-true, ltb-false}
use Rattle.axis_types.specs.Lengths.{length_of}
use Rattle.axis_types.specs.declared.Period.{Period}
use Rattle.axis_types.specs.declared.Period.TheVariants.{Second, Millisecond, Minute, Hour, Day, Week, Month, Year}
use Rattle.double.specs.declared.Scale.{Scale}
use Rattle.fixed_axis.specs.Closed.{Reaches}

pub lengths : (p : Period) → (1000 ≤ length_of p) × (length_of p < 2 ^ 45)
lengths Second = (lit≤ tt, lit< tt)
lengths Millisecond = (lit≤ tt, lit< tt)
lengths Minute = (lit≤ tt, lit< tt)
lengths Hour = (lit≤ tt, lit< tt)
lengths Day = (lit≤ tt, lit< tt)
lengths Week = (lit≤ tt, lit< tt)
lengths Month = (lit≤ tt, lit< tt)
lengths Year = (lit≤ tt, lit< tt)

-- ---- by the scale of a period
module _ (s : Scale) (short : s.micros < 2 ^ 45) where
  pub two : 2 ≤ s.shift
  two =
      elim (dec_lt s.shift 2) [
        | yes h ↦ absurd (let k : s.micros * 2 ^ s.shift ≤ s.micros * 2 ^ 1 = mul-le-mul_left s.micros (pow_mono {i = s.shift} {j = 1} (omega arith)) in omega (arith, s.is.is, s.is.least))
        | no h ↦ omega arith
      ]

  abbrev L : ℕ
  L = 2 ^ (s.shift - 2)

  quarter : L * s.micros * 4 ≡ s.factor
  quarter = regroup L s.micros ∙ (ap (λ (n : ℕ). s.micros * n) (sym (pow-add 2 (s.shift - 2) 2) ∙ ap (λ (n : ℕ). 2 ^ n) whole) ∙ sym s.is.is)
    where
      whole : s.shift - 2 + 2 ≡ s.shift
      whole = let k = two in omega arith

      regroup : (x y : ℕ) → x * y * 4 ≡ y * (x * 4)
      regroup x y = simp (mul_assoc, mul_comm, mul_left_comm) refl

  pub reached : (n : ℤ) → Reaches (ltb (nat_abs n) L) s.micros n
  reached n = go (ltb (nat_abs n) L) refl
    where
      go : (b : Bool) → ltb (nat_abs n) L ≡ b → Reaches b s.micros n
      go true e =
          let l = ltb-true (nat_abs n) L e in
          let m : nat_abs n * s.micros ≤ L * s.micros = mul-le-mul_right s.micros (omega arith) in
          omega (arith, quarter, s.is.most)
      go false e =
          let m = mul-le-mul_right s.micros (ltb-false (nat_abs n) L e) in
          omega (arith, quarter, s.is.least)
