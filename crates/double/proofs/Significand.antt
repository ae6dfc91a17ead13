-- The size of a double as its two fields give it, significand * 2 ^ weight in units of 2 ^ -1074: its bounds, and when it is zero.
use mathlib.Core.Path.{◌≡◌}
use Prim.Native.Nat.{ℕ, zero, suc, ◌+◌, ◌*◌, ◌^◌, ◌≤◌, ◌<◌}
use native.Mathlib.Nat.{le_refl, lt_of_lt_of_le, mul-le-mul}
use native.Mathlib.Omega.{arith}
use lib.Pow.{pow_pos, pow_mono, shl_lt}
use Rattle.double.specs.Fields.{significand, weight}

-- the leading one, as the code adds it
pub leading_comm : (t : ℕ) → t + 2 ^ 52 ≡ 2 ^ 52 + t
leading_comm t = omega arith

pub leading_lt : (t : ℕ) → t < 2 ^ 52 → t + 2 ^ 52 < 2 ^ 53
leading_lt t h = omega arith

significand_lt : (field t : ℕ) → t < 2 ^ 52 → significand field t < 2 ^ 53
significand_lt zero t h = omega arith
significand_lt (suc j) t h = omega arith

weight_le : (field k : ℕ) → field ≤ suc k → weight field ≤ k
weight_le zero k h = omega arith
weight_le (suc j) k h = omega arith

pub size_lt : (field t k : ℕ) → t < 2 ^ 52 → field ≤ suc k → significand field t * 2 ^ weight field < 2 ^ (53 + k)
size_lt field t k h l = lt_of_lt_of_le (shl_lt 53 (weight field) (significand_lt field t h)) (pow_mono (go (weight field) k (weight_le field k l)))
  where
    go : (w k : ℕ) → w ≤ k → 53 + w ≤ 53 + k
    go w k h = omega arith

-- a product with a positive number is zero only where the other factor is
pub factor_zero : (q P : ℕ) → 1 ≤ P → q * P ≡ 0 → q ≡ 0
factor_zero q P h e =
    let a : q * 1 ≤ q * P = mul-le-mul (le_refl q) h in
    omega arith

pub size_zero : (field t : ℕ) → field + t ≡ 0 → significand field t * 2 ^ weight field ≡ 0
size_zero zero t e = omega arith
size_zero (suc j) t e = absurd (go e)
  where
    go : suc j + t ≡ 0 → ⊥
    go e = omega arith

pub zero_size : (field t : ℕ) → significand field t * 2 ^ weight field ≡ 0 → field + t ≡ 0
zero_size zero t e = omega arith
zero_size (suc j) t e = absurd (go t (factor_zero (2 ^ 52 + t) (2 ^ j) (pow_pos j) e))
  where
    go : (t : ℕ) → 2 ^ 52 + t ≡ 0 → ⊥
    go t e = omega arith
