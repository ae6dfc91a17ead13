-- The reciprocal of k is 2^64 / k, rounded up: the high word of its product with i * k is i.
use Rattle.std.proofs.Common.{◌≡◌, ℕ, ◌+◌, ◌-◌, ◌*◌, ◌/◌, ◌%◌, ◌^◌, ◌<◌, ◌≤◌, ap, ◌∙◌, mod-lt, mul_assoc, mul_comm, mul-le-mul_left, div-add-mod', mul-one, mul-add, arith}

module _ (k : ℕ) (least : 2 ≤ k) where
  abbrev reciprocal : ℕ
  reciprocal = 18446744073709551615 / k + 1

  -- what rounding up adds
  abbrev excess : ℕ
  excess = k - 1 - 18446744073709551615 % k

  times_reciprocal : k * reciprocal ≡ 2 ^ 64 + excess
  times_reciprocal =
      let q = 18446744073709551615 / k in
      mul-add k q 1 ∙ (λ i. mul_comm k q i + mul-one k i) ∙ omega (arith, div-add-mod' 18446744073709551615 k, mod-lt 18446744073709551615 {m = k} (omega arith))

  product : (i : ℕ) → i * k * reciprocal ≡ i * 2 ^ 64 + i * excess
  product i = mul_assoc i k reciprocal ∙ (ap (λ (n : ℕ). i * n) times_reciprocal ∙ mul-add i (2 ^ 64) excess)

  pub times_found : (i : ℕ) → i * k < 2 ^ 64 → i * k * reciprocal / 2 ^ 64 ≡ i
  times_found i f = let m : i * excess ≤ i * k = mul-le-mul_left i (omega arith) in go (i * k * reciprocal) (i * excess) (product i) (omega arith)
    where
      go : (p x : ℕ) → p ≡ i * 2 ^ 64 + x → x < 2 ^ 64 → p / 2 ^ 64 ≡ i
      go p x e h = omega arith
