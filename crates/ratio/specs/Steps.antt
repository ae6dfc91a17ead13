-- Steps whose multiples lie in 64 bits. Numbers have their bias of 2^63 here.
use Rattle.std.specs.Prelude.{◌≡◌, ℕ, ◌+◌, ◌*◌, ◌/◌, ◌<◌, ◌≤◌, cond, nat_lt}

-- u is the number i - below times the step
pub record Place (step below above u i : ℕ) : Type 0 where
  pub inside : i ≤ below + above
  pub is : u + below * step ≡ 9223372036854775808 + i * step

-- the multiples lie in 64 bits
pub record Steps (from to below above : ℕ) : Type 0 where
  pub positive : 0 < from
  pub positive_to : 0 < to
  pub least : below * from ≤ 9223372036854775808
  pub greatest : above * from < 9223372036854775808
  pub least_to : below * to ≤ 9223372036854775808
  pub greatest_to : above * to < 9223372036854775808

-- 2^64 divided by the step, rounded up
abbrev pub reciprocal_of : ℕ → ℕ
reciprocal_of step = cond (nat_lt step 2) 0 (18446744073709551615 / step + 1)
