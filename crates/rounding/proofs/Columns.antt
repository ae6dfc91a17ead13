-- The high word of the product of two words by columns in base 2 ^ 32, as a machine without a product of 128 bits finds it.
use mathlib.Core.Path.{◌≡◌, refl, sym, ◌∙◌, subst}
use Prim.Native.Nat.{ℕ, ◌+◌, ◌-◌, ◌*◌, ◌/◌, ◌%◌, ◌^◌, ◌≤◌, ◌<◌}
use native.Mathlib.Nat.{mul_comm, mul_assoc, mul_left_comm, mul-add, add-mul, add_assoc, add_comm, add_left_comm, mul-le-mul, div-add-mod'}
use native.Mathlib.Omega.{arith}
use lib.Pow.{shr_lt}
use Rattle.rounding.proofs.Products.{product_lt}

expand : (P a₀ a₁ b₀ b₁ : ℕ) → (a₁ * P + a₀) * (b₁ * P + b₀) ≡ a₁ * b₁ * (P * P) + a₁ * b₀ * P + a₀ * b₁ * P + a₀ * b₀
expand P a₀ a₁ b₀ b₁ = simp (mul-add, add-mul, mul_assoc, mul_comm, mul_left_comm, add_assoc, add_comm, add_left_comm) refl

-- ---- the high word of any two words, with the carries from column to column
-- a digit times another, and a third added
digits_lt : (x y c : ℕ) → x < 2 ^ 32 → y < 2 ^ 32 → c < 2 ^ 32 → x * y + c < 2 ^ 64
digits_lt x y c h k l = go (x * y) (mul-le-mul (less x h) (less y k))
  where
    less : (x : ℕ) → x < 2 ^ 32 → x ≤ 2 ^ 32 - 1
    less x h = omega arith

    go : (p : ℕ) → p ≤ (2 ^ 32 - 1) * (2 ^ 32 - 1) → p + c < 2 ^ 64
    go p m = omega arith

module _ (a b : ℕ) (A : a < 2 ^ 64) (B : b < 2 ^ 64) where
  abbrev c₀ : ℕ
  c₀ = a % 2 ^ 32

  abbrev c₁ : ℕ
  c₁ = a / 2 ^ 32

  abbrev d₀ : ℕ
  d₀ = b % 2 ^ 32

  abbrev d₁ : ℕ
  d₁ = b / 2 ^ 32

  abbrev mid : ℕ
  mid = c₁ * d₀ + c₀ * d₀ / 2 ^ 32

  abbrev next : ℕ
  next = mid % 2 ^ 32 + c₀ * d₁

  digits : (c₀ < 2 ^ 32) × (c₁ < 2 ^ 32) × (d₀ < 2 ^ 32) × (d₁ < 2 ^ 32)
  digits = (omega arith, omega arith, omega arith, omega arith)

  pub word_low : c₀ * d₀ < 2 ^ 64
  word_low = omega (arith, digits_lt c₀ d₀ 0 digits.0 digits.2 (omega arith))

  pub word_mid : c₁ * d₀ < 2 ^ 64
  word_mid = omega (arith, digits_lt c₁ d₀ 0 digits.1 digits.2 (omega arith))

  pub word_middle : mid < 2 ^ 64
  word_middle = digits_lt c₁ d₀ (c₀ * d₀ / 2 ^ 32) digits.1 digits.2 (omega (arith, word_low))

  pub word_cross : c₀ * d₁ < 2 ^ 64
  word_cross = omega (arith, digits_lt c₀ d₁ 0 digits.0 digits.3 (omega arith))

  pub word_next : next < 2 ^ 64
  word_next = omega (arith, digits_lt c₀ d₁ (mid % 2 ^ 32) digits.0 digits.3 (omega arith))

  pub word_high : c₁ * d₁ < 2 ^ 64
  word_high = omega (arith, digits_lt c₁ d₁ 0 digits.1 digits.3 (omega arith))

  -- the columns are the product, and what lies below the high word is less than it
  carried : (h x y l : ℕ) → let m = x + l / 2 ^ 32 in
      let n = m % 2 ^ 32 + y in
      h * 2 ^ 64 + x * 2 ^ 32 + y * 2 ^ 32 + l ≡ (h + m / 2 ^ 32 + n / 2 ^ 32) * 2 ^ 64 + (n % 2 ^ 32 * 2 ^ 32 + l % 2 ^ 32)
  carried h x y l = omega arith

  pub high_word : c₁ * d₁ + mid / 2 ^ 32 + next / 2 ^ 32 ≡ a * b / 2 ^ 64
  high_word =
      let e : a * b ≡ (c₁ * d₁ + mid / 2 ^ 32 + next / 2 ^ 32) * 2 ^ 64 + (next % 2 ^ 32 * 2 ^ 32 + c₀ * d₀ % 2 ^ 32) =
      (λ i. sym (div-add-mod' a (2 ^ 32)) i * sym (div-add-mod' b (2 ^ 32)) i) ∙ (expand (2 ^ 32) c₀ c₁ d₀ d₁ ∙ carried (c₁ * d₁) (c₁ * d₀) (c₀ * d₁) (c₀ * d₀)) in
      go (a * b) (c₁ * d₁ + mid / 2 ^ 32 + next / 2 ^ 32) (next % 2 ^ 32 * 2 ^ 32 + c₀ * d₀ % 2 ^ 32) e (omega arith)
    where
      go : (p h l : ℕ) → p ≡ h * 2 ^ 64 + l → l < 2 ^ 64 → h ≡ p / 2 ^ 64
      go p h l e f = omega arith

  pub word_sum : c₁ * d₁ + mid / 2 ^ 32 + next / 2 ^ 32 < 2 ^ 64
  word_sum = subst (λ (n : ℕ). n < 2 ^ 64) (sym high_word) (shr_lt 64 64 (product_lt 64 64 A B))

  pub word_carry : c₁ * d₁ + mid / 2 ^ 32 < 2 ^ 64
  word_carry = go (c₁ * d₁ + mid / 2 ^ 32) (next / 2 ^ 32) word_sum
    where
      go : (x y : ℕ) → x + y < 2 ^ 64 → x < 2 ^ 64
      go x y h = omega arith
