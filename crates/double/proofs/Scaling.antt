-- What `scaled_size` computes: the size of a double times a period, rounded, by the field of its exponent. The period is P = F / 2 ^ k microseconds.
use mathlib.Core.Path.{◌≡◌, refl, sym, ap, ◌∙◌}
use Prim.Native.Nat.{ℕ, zero, suc, ◌+◌, ◌-◌, ◌*◌, ◌^◌, ◌≤◌, ◌<◌}
use native.Mathlib.Nat.{le_trans, le_of_eq, le_of_lt, lt_of_lt_of_le, mul_comm, mul_assoc, mul_left_comm, mul-le-mul, zero-mul}
use native.Mathlib.Omega.{arith}
use lib.Dec.{eqb, lit≤}
use lib.Pow.{pow_pos, pow-add, pow_mono, shl_lt}
use lib.Ieee.Nearest.{closest, closest_same}
use Rattle.rounding.specs.declared.Rounded.{Rounded}
use Rattle.rounding.specs.Rounding.{RoundedTo}
use Rattle.rounding.proofs.Closest.{eqb_iff, below_half, below_half_exact, same_exact, at_least, at_most}
use Rattle.rounding.proofs.Products.{product_lt}
use Rattle.double.specs.declared.Scale.{Scale}
use Rattle.double.specs.Scale.{IsScale}
use Rattle.double.specs.Fields.{field_size}
use Rattle.double.proofs.Significand.{leading_comm, size_lt, factor_zero, size_zero, zero_size}

-- the same fraction
rounded_same : (r : Rounded) (a b c d : ℕ) → 0 < b → 0 < d → a * d ≡ c * b → RoundedTo r a b → RoundedTo r c d
rounded_same r a b c d B D q v = record { nearest = v.nearest ∙ closest_same a b c d B D q; exactly = v.exactly ∙ same_exact a b c d B D q }

module _ (scale : Scale) where
  abbrev S : IsScale scale.micros scale.factor scale.shift
  S = scale.is

  abbrev P : ℕ
  P = scale.micros

  abbrev F : ℕ
  F = scale.factor

  abbrev k : ℕ
  k = scale.shift

  -- a * F / 2 ^ (1074 + k) is a * P / 2 ^ 1074
  unscaled : (a : ℕ) → a * F * 2 ^ 1074 ≡ a * P * 2 ^ (1074 + k)
  unscaled a = ap (λ (n : ℕ). a * n * 2 ^ 1074) S.is ∙ (regroup a P (2 ^ k) (2 ^ 1074) ∙ ap (λ (n : ℕ). a * P * n) (sym (pow-add 2 1074 k)))
    where
      regroup : (a p x y : ℕ) → a * (p * x) * y ≡ a * p * (y * x)
      regroup a p x y = simp (mul_assoc, mul_comm, mul_left_comm) refl

  module _ (field t : ℕ) (T : t < 2 ^ 52) where
    -- less than half a microsecond
    pub little : field + 63 < 1021 + k → RoundedTo (record { count = 0; exact = eqb (field + t) 0 }) (field_size field t * P) (2 ^ 1074)
    little h =
        let a = field_size field t in
        let l : a < 2 ^ (53 + (956 + k)) = size_lt field t (956 + k) T (less field k h) in
        let b : a * F * 2 < 2 ^ (1074 + k) = lt_of_lt_of_le (shl_lt (53 + (956 + k) + 63) 1 (product_lt (53 + (956 + k)) 63 l S.most)) (pow_mono (room k)) in
        let f : 1 ≤ F = le_trans (lit≤ tt) S.least in
        rounded_same (record { count = 0; exact = eqb (field + t) 0 }) (a * F) (2 ^ (1074 + k)) (a * P) (2 ^ 1074) (pow_pos (1074 + k)) (pow_pos 1074) (unscaled a)
        (record {
          nearest = below_half (a * F) (2 ^ (1074 + k)) b;
          exactly = eqb_iff (field + t) 0 (a * F) 0 (λ (e : field + t ≡ 0). ap (λ (n : ℕ). n * F) (size_zero field t e) ∙ zero-mul F) (λ (e : a * F ≡ 0). zero_size field t (factor_zero a F f e)) ∙ below_half_exact (a * F) (2 ^ (1074 + k)) b;
        })
      where
        less : (field k : ℕ) → field + 63 < 1021 + k → field ≤ suc (956 + k)
        less field k h = omega arith

        room : (k : ℕ) → 53 + (956 + k) + 63 + 1 ≤ 1074 + k
        room k = omega arith

  -- the significand with ten more digits, over 2 ^ (1085 + k - field)
  pub placed : (r : Rounded) (field t : ℕ) → 1 ≤ field → field < 1021 + k → RoundedTo r ((t + 2 ^ 52) * 1024 * F) (2 ^ (64 + (1021 + k - field))) → RoundedTo r (field_size field t * P) (2 ^ 1074)
  placed r zero t lo hi v = absurd (go lo)
    where
      go : 1 ≤ 0 → ⊥
      go h = omega arith
  placed r (suc j) t lo hi v =
      rounded_same r ((2 ^ 52 + t) * 2 ^ j * F) (2 ^ (1074 + k)) ((2 ^ 52 + t) * 2 ^ j * P) (2 ^ 1074) (pow_pos (1074 + k)) (pow_pos 1074) (unscaled ((2 ^ 52 + t) * 2 ^ j))
      (rounded_same r ((t + 2 ^ 52) * 2 ^ 10 * F) (2 ^ (64 + (1021 + k - suc j))) ((2 ^ 52 + t) * 2 ^ j * F) (2 ^ (1074 + k)) (pow_pos (64 + (1021 + k - suc j))) (pow_pos (1074 + k))
      ((λ i. leading_comm t i * 2 ^ 10 * F * (ap (λ (n : ℕ). 2 ^ n) (whole j k hi) ∙ pow-add 2 (1074 + k - j) j) i)
      ∙ (regroup (2 ^ 52 + t) F (2 ^ 10) (2 ^ (1074 + k - j)) (2 ^ j)
      ∙ ap (λ (n : ℕ). (2 ^ 52 + t) * 2 ^ j * F * n) (sym (pow-add 2 10 (1074 + k - j)) ∙ ap (λ (n : ℕ). 2 ^ n) (same j k hi))))
      v)
    where
      regroup : (q F x y z : ℕ) → q * x * F * (y * z) ≡ q * z * F * (x * y)
      regroup q F x y z = simp (mul_assoc, mul_comm, mul_left_comm) refl

      whole : (j k : ℕ) → suc j < 1021 + k → 1074 + k ≡ 1074 + k - j + j
      whole j k h = omega arith

      same : (j k : ℕ) → suc j < 1021 + k → 10 + (1074 + k - j) ≡ 64 + (1021 + k - suc j)
      same j k h = omega arith

  -- 2 ^ 60 or more
  pub large : (field t : ℕ) → 1021 + k ≤ field → 2 ^ 60 ≤ closest (field_size field t * P) (2 ^ 1074)
  large zero t h = absurd (go k h)
    where
      go : (k : ℕ) → 1021 + k ≤ 0 → ⊥
      go k h = omega arith
  large (suc j) t h =
      le_trans
      (at_least ((2 ^ 52 + t) * 2 ^ j * F) (2 ^ (1074 + k)) (2 ^ 60) (pow_pos (1074 + k))
      (le_trans (le_of_eq (ap (λ (n : ℕ). 2 ^ 60 * n) (pow-add 2 1074 k) ∙ regroup (2 ^ k)))
      (mul-le-mul (mul-le-mul (more t) (le_trans (le_of_eq (sym (pow-add 2 1020 k))) (pow_mono (less j k h)))) S.least)))
      (le_of_eq (closest_same ((2 ^ 52 + t) * 2 ^ j * F) (2 ^ (1074 + k)) ((2 ^ 52 + t) * 2 ^ j * P) (2 ^ 1074) (pow_pos (1074 + k)) (pow_pos 1074) (unscaled ((2 ^ 52 + t) * 2 ^ j))))
    where
      regroup : (x : ℕ) → 2 ^ 60 * (2 ^ 1074 * x) ≡ 2 ^ 52 * (2 ^ 1020 * x) * 2 ^ 62
      regroup x = simp (mul_assoc, mul_comm, mul_left_comm) refl

      more : (t : ℕ) → 2 ^ 52 ≤ 2 ^ 52 + t
      more t = omega arith

      less : (j k : ℕ) → 1021 + k ≤ suc j → 1020 + k ≤ j
      less j k h = omega arith

  -- at most 2 ^ 62 where it is not
  pub bounded : (field t : ℕ) → t < 2 ^ 52 → field < 1021 + k → closest (field_size field t * P) (2 ^ 1074) ≤ 2 ^ 62
  bounded field t T h =
      let a = field_size field t in
      let l : a * F < 2 ^ (53 + (1019 + k) + 63) = product_lt (53 + (1019 + k)) 63 (size_lt field t (1019 + k) T (less field k h)) S.most in
      le_trans (le_of_eq (sym (closest_same (a * F) (2 ^ (1074 + k)) (a * P) (2 ^ 1074) (pow_pos (1074 + k)) (pow_pos 1074) (unscaled a))))
      (at_most (a * F) (2 ^ (1074 + k)) (2 ^ 62) (pow_pos (1074 + k)) (le_trans (le_of_lt l) (le_trans (pow_mono (room k)) (le_of_eq (pow-add 2 62 (1074 + k))))))
    where
      less : (field k : ℕ) → field < 1021 + k → field ≤ suc (1019 + k)
      less field k h = omega arith

      room : (k : ℕ) → 53 + (1019 + k) + 63 ≤ 62 + (1074 + k)
      room k = omega arith
