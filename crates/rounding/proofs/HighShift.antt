-- The shift of a high word that rounds: what `round_high` computes is `closest (h * 2 ^ 64 + l) (2 ^ (64 + t))`, for 1 ≤ t < 64.
use mathlib.Core.Path.{◌≡◌, refl, sym, ap, ◌∙◌, subst}
use mathlib.Core.Logic.{◌⊎◌, inl, inr}
use mathlib.Core.Bool.{Bool, true, false, cond}
use Prim.Native.Nat.{ℕ, zero, suc, ◌+◌, ◌-◌, ◌*◌, ◌/◌, ◌%◌, ◌^◌, ◌≤◌, ◌<◌}
use native.Mathlib.Nat.{mul_assoc, suc-mul, mul-le-mul_left, mul-le-mul_right, mul-mod_left, mod-lt, lt_of_lt_of_le}
use native.Mathlib.Omega.{arith}
use native.Mathlib.Decide.{dec_lt}
use lib.Dec.{eqb, ltb, eqb-suc-zero}
use lib.Pow.{pow_pos, pow-add, pow_mono, shl-shr, shr_lt, split, mod-pow-add}
use lib.Ieee.Nearest.{closest}
use borrow.Author.Tests.{lt-ltb, le-ltb, ne_eqb}
use Rattle.rounding.specs.Rounding.{is_exact}
use Rattle.rounding.specs.Steps.{sticky_of, increment_of}
use Rattle.rounding.proofs.Closest.{eqb_iff, round_down, round_down_exact, round_up, round_up_exact, round_half, round_half_exact}

-- ---- the sticky bit
sticky_cases : (n : ℕ) → ((n ≡ 0) × (sticky_of n ≡ 0)) ⊎ ((0 < n) × (sticky_of n ≡ 1))
sticky_cases zero = inl (refl, refl)
sticky_cases (suc n) = inr (go n, ap (λ (b : Bool). cond b 0 1) (eqb-suc-zero n))
  where
    go : (n : ℕ) → 0 < suc n
    go n = omega arith

-- ---- at the half an odd quotient is raised
at_half : (o a : ℕ) → o < 2 → a ≡ 2 ^ 63 → increment_of a o ≡ o
at_half zero a h e = ap (λ (t : Bool). cond t 1 0) (le-ltb (2 ^ 63) a (omega arith))
at_half (suc o) a h e = ap (λ (t : Bool). cond t 1 0) (lt-ltb (2 ^ 63 - suc o) a (omega arith)) ∙ omega arith

-- ---- N = h * 2 ^ 64 + l over d, by the half H of 2 ^ t: the quotient w and the rest r of h, the weight U of its last digit, the sticky bit f
module _ (h l w r H U d f : ℕ) (d_is : d ≡ H * 2 ^ 64 * 2) (h_is : w * (H * 2) + r ≡ h) (R : r < H * 2) (top : H * U ≡ 2 ^ 63) (two : 2 ≤ U) (L : l < 2 ^ 64) (F : ((l ≡ 0) × (f ≡ 0)) ⊎ ((0 < l) × (f ≡ 1))) where
  abbrev N : ℕ
  N = h * 2 ^ 64 + l

  abbrev rest : ℕ
  rest = r * 2 ^ 64 + l

  sum : w * d + rest ≡ N
  sum = ap (λ (k : ℕ). w * k + rest) (d_is ∙ regroup H) ∙ (ap (λ (k : ℕ). k + rest) (sym (mul_assoc w (H * 2) (2 ^ 64))) ∙ (joined (w * (H * 2)) r ∙ ap (λ (k : ℕ). k * 2 ^ 64 + l) h_is))
    where
      regroup : (H : ℕ) → H * 2 ^ 64 * 2 ≡ H * 2 * 2 ^ 64
      regroup H = omega arith

      joined : (x y : ℕ) → x * 2 ^ 64 + (y * 2 ^ 64 + l) ≡ (x + y) * 2 ^ 64 + l
      joined x y = omega arith

  rest_lt : rest < d
  rest_lt = omega arith

  -- the rest as it is tested, whose half is 2 ^ 63
  abbrev aligned : ℕ
  aligned = r * U + f

  none : eqb aligned 0 ≡ eqb rest 0
  none = eqb_iff aligned 0 rest 0 (λ e. elim F [ inl k ↦ let z = times_zero r U two (omega arith) in omega arith | inr k ↦ absurd (omega arith) ]) (λ e. let z : r ≡ 0 = omega arith in elim F [ inl k ↦ ap (λ (x : ℕ). x * U + f) z ∙ omega arith | inr k ↦ absurd (omega arith) ])
    where
      times_zero : (r U : ℕ) → 2 ≤ U → r * U ≡ 0 → r ≡ 0
      times_zero r U h e = let k : r * 2 ≤ r * U = mul-le-mul_left r h in omega arith

  abbrev Rounds : Type 0
  Rounds = (w + increment_of aligned (w % 2) ≡ closest N d) × (eqb aligned 0 ≡ is_exact N d)

  down : r < H → Rounds
  down g =
      let s : suc r * U ≤ 2 ^ 63 = subst (λ (k : ℕ). suc r * U ≤ k) top (mul-le-mul_right U g) in
      let m = suc-mul r U in
      let b : aligned ≤ 2 ^ 63 - w % 2 = elim F [ inl k ↦ omega arith | inr k ↦ omega arith ] in
      let l : rest < H * 2 ^ 64 = omega arith in
      (ap (λ (t : Bool). w + cond t 1 0) (le-ltb (2 ^ 63 - w % 2) aligned b) ∙ (plus_zero w ∙ round_down N d (H * 2 ^ 64) w rest d_is sum rest_lt l), none ∙ round_down_exact N d (H * 2 ^ 64) w rest d_is sum rest_lt l)
    where
      plus_zero : (w : ℕ) → w + 0 ≡ w
      plus_zero w = omega arith

  up : H * 2 ^ 64 < rest → 2 ^ 63 - w % 2 < aligned → Rounds
  up g b =
      let z : eqb rest 0 ≡ false = ne_eqb rest 0 (λ e. omega arith) in
      (ap (λ (t : Bool). w + cond t 1 0) (lt-ltb (2 ^ 63 - w % 2) aligned b) ∙ (plus_one w ∙ round_up N d (H * 2 ^ 64) w rest d_is sum rest_lt g), none ∙ (z ∙ round_up_exact N d (H * 2 ^ 64) w rest d_is sum rest_lt g))
    where
      plus_one : (w : ℕ) → w + 1 ≡ suc w
      plus_one w = omega arith

  tie : r ≡ H → Rounds
  tie g =
      let e : r * U ≡ 2 ^ 63 = ap (λ (k : ℕ). k * U) g ∙ top in
      elim F [
        | inl k ↦
            let i : rest ≡ H * 2 ^ 64 = omega arith in
            let z : eqb rest 0 ≡ false = ne_eqb rest 0 (λ q. omega arith) in
            (ap (λ (m : ℕ). w + m) (at_half (w % 2) aligned (omega arith) (omega arith)) ∙ round_half N d (H * 2 ^ 64) w rest d_is sum rest_lt i, none ∙ (z ∙ round_half_exact N d (H * 2 ^ 64) w rest d_is sum rest_lt i))
        | inr k ↦ up (omega arith) (omega arith)
      ]

  rounds : Rounds
  rounds = elim (dec_lt r H) [ yes g ↦ down g | no g ↦ elim (dec_lt H r) [ yes k ↦ up (omega arith) (far k) | no k ↦ tie (omega arith) ] ]
    where
      far : H < r → 2 ^ 63 - w % 2 < aligned
      far k =
          let s : suc H * U ≤ r * U = mul-le-mul_right U k in
          let m = suc-mul H U in
          omega arith

-- the raised quotient is a word
pub count_fits : (h t rest : ℕ) → 1 ≤ t → h < 2 ^ 64 → h / 2 ^ t + increment_of rest (h / 2 ^ t % 2) < 2 ^ 64
count_fits h t rest lo H = go (ltb (2 ^ 63 - h / 2 ^ t % 2) rest) (h / 2 ^ t) (shr_lt 63 t (lt_of_lt_of_le H (pow_mono (le t lo))))
  where
    le : (t : ℕ) → 1 ≤ t → 64 ≤ 63 + t
    le t h = omega arith

    go : (b : Bool) (w : ℕ) → w < 2 ^ 63 → w + cond b 1 0 < 2 ^ 64
    go true w h = omega arith
    go false w h = omega arith

-- ---- the same of the words that the code shifts
module _ (h l t : ℕ) (lo : 1 ≤ t) (hi : t < 64) where
  whole_word : t + (64 - t) ≡ 64
  whole_word = omega arith

  -- the digits that are shifted out, at the top of a word
  top_is : h * 2 ^ (64 - t) % 2 ^ 64 ≡ h % 2 ^ t * 2 ^ (64 - t)
  top_is =
      ap (λ (k : ℕ). h * 2 ^ (64 - t) % 2 ^ k) (sym whole_word)
      ∙ (mod-pow-add (h * 2 ^ (64 - t)) t (64 - t)
      ∙ ((λ i. shl-shr h (64 - t) i % 2 ^ t * 2 ^ (64 - t) + mul-mod_left h (2 ^ (64 - t)) i) ∙ plus_zero (h % 2 ^ t * 2 ^ (64 - t))))
    where
      plus_zero : (n : ℕ) → n + 0 ≡ n
      plus_zero n = omega arith

  halves : 2 ^ t ≡ 2 ^ (t - 1) * 2
  halves = ap (λ (n : ℕ). 2 ^ n) (go t lo) ∙ pow-add 2 (t - 1) 1
    where
      go : (t : ℕ) → 1 ≤ t → t ≡ t - 1 + 1
      go t h = omega arith

  two : 2 ≤ 2 ^ (64 - t)
  two = pow_mono {i = 1} {j = 64 - t} (omega arith)

  pub rest_fits : h * 2 ^ (64 - t) % 2 ^ 64 + sticky_of l < 2 ^ 64
  rest_fits =
      let e = top_is in
      let k : suc (h % 2 ^ t) * 2 ^ (64 - t) ≤ 2 ^ 64 = subst (λ (n : ℕ). suc (h % 2 ^ t) * 2 ^ (64 - t) ≤ n) (sym (pow-add 2 t (64 - t)) ∙ ap (λ (n : ℕ). 2 ^ n) whole_word) (mul-le-mul_right (2 ^ (64 - t)) (mod-lt h (pow_pos t))) in
      let s = suc-mul (h % 2 ^ t) (2 ^ (64 - t)) in
      let u = two in
      elim (sticky_cases l) [ inl f ↦ omega arith | inr f ↦ omega arith ]

  pub rounded : l < 2 ^ 64 → (h / 2 ^ t + increment_of (h * 2 ^ (64 - t) % 2 ^ 64 + sticky_of l) (h / 2 ^ t % 2) ≡ closest (h * 2 ^ 64 + l) (2 ^ (64 + t))) × (eqb (h * 2 ^ (64 - t) % 2 ^ 64 + sticky_of l) 0 ≡ is_exact (h * 2 ^ 64 + l) (2 ^ (64 + t)))
  rounded L =
      subst (λ (n : ℕ). (h / 2 ^ t + increment_of (n + sticky_of l) (h / 2 ^ t % 2) ≡ closest (h * 2 ^ 64 + l) (2 ^ (64 + t))) × (eqb (n + sticky_of l) 0 ≡ is_exact (h * 2 ^ 64 + l) (2 ^ (64 + t)))) (sym top_is)
      (rounds h l (h / 2 ^ t) (h % 2 ^ t) (2 ^ (t - 1)) (2 ^ (64 - t)) (2 ^ (64 + t)) (sticky_of l) d_is h_is (subst (λ (n : ℕ). h % 2 ^ t < n) halves (mod-lt h (pow_pos t))) top two L (sticky_cases l))
    where
      d_is : 2 ^ (64 + t) ≡ 2 ^ (t - 1) * 2 ^ 64 * 2
      d_is = pow-add 2 64 t ∙ (ap (λ (n : ℕ). 2 ^ 64 * n) halves ∙ go (2 ^ (t - 1)))
        where
          go : (n : ℕ) → 2 ^ 64 * (n * 2) ≡ n * 2 ^ 64 * 2
          go n = omega arith

      h_is : h / 2 ^ t * (2 ^ (t - 1) * 2) + h % 2 ^ t ≡ h
      h_is = ap (λ (n : ℕ). h / 2 ^ t * n + h % 2 ^ t) (sym halves) ∙ split h t

      top : 2 ^ (t - 1) * 2 ^ (64 - t) ≡ 2 ^ 63
      top = sym (pow-add 2 (t - 1) (64 - t)) ∙ ap (λ (n : ℕ). 2 ^ n) (go t lo hi)
        where
          go : (t : ℕ) → 1 ≤ t → t < 64 → t - 1 + (64 - t) ≡ 63
          go t l h = omega arith
