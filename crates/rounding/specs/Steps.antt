-- Closed forms that only private functions compute: the sticky bit, and what rounding adds to a quotient.
use Rattle.std.specs.Prelude.{cond, ℕ, ◌-◌, ◌^◌, eqb, ltb}

abbrev pub sticky_of : ℕ → ℕ
sticky_of n = cond (eqb n 0) 0 1

-- by the remainder, scaled so that 2 ^ 63 is the half of the divisor, and the quotient's last digit
abbrev pub increment_of : ℕ → ℕ → ℕ
increment_of rest odd = cond (ltb (2 ^ 63 - odd) rest) 1 0
