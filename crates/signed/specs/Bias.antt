-- A signed number as a natural number: n + b for a bias b that is large enough, and back.
use Rattle.std.specs.Prelude.{ℕ, suc, ◌+◌, ◌-◌, ℤ, pos, negsuc}
use Rattle.std.proofs.Math.IntN.{sub_ℕ}

-- n + b, of a number n that is not below -b; `negsuc n` is -(n + 1)
abbrev pub lift : ℤ → ℕ → ℕ
lift (pos n) b = n + b
lift (negsuc n) b = b - suc n

-- 2^63
abbrev pub bias : ℕ
bias = 9223372036854775808

abbrev pub biased : ℤ → ℕ
biased z = lift z bias

-- `sub_ℕ k b` is the integer k - b
abbrev pub unbiased : ℕ → ℤ
unbiased k = sub_ℕ k bias
