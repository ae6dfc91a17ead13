-- Products and powers of two.
use Rattle.std.proofs.Common.{ℕ, ◌+◌, ◌*◌, ◌^◌, ◌<◌, sym, subst}
use Rattle.std.proofs.Math.Pow.{pow-add}
use Rattle.std.proofs.lemmas.Nat.{mul-lt}

-- a product fits as many bits as its factors have together
pub product_lt : (i j : ℕ) {a b : ℕ} → a < 2 ^ i → b < 2 ^ j → a * b < 2 ^ (i + j)
product_lt i j {a} {b} ha hb = subst (λ (n : ℕ). a * b < n) (sym (pow-add 2 i j)) (mul-lt a b (2 ^ i) (2 ^ j) ha hb)
