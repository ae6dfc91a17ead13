-- `double::Scale::new` meets its contract: the highest digit of the period is moved to place 62.
use mathlib.Core.Path.{◌≡◌, sym, subst}
use Prim.Native.Nat.{ℕ, suc, ◌+◌, ◌-◌, ◌*◌, ◌%◌, ◌^◌, ◌≤◌, ◌<◌}
use native.Mathlib.Nat.{le_trans, le_of_eq, lt_of_lt_of_le, mul-le-mul_right, mod-eq_of_lt}
use native.Mathlib.Decide.{dec_le}
use native.Mathlib.Omega.{arith}
use lib.Dec.{lit≤}
use lib.Pow.{pow-add, pow_mono, shl_lt}
use lib.Count.{leading_top}
use Rattle.double.specs.Scale.{IsScale}
use Rattle.double.proofs.Scale.new.Goals as goal
use Rattle.double.proofs.Scale.new.Goals.{After-from-shift}

-- a number P whose highest digit is at place j
module _ (P z : ℕ) (M : P < 2 ^ 63) (j : ℕ) (e : z + suc j ≡ 64) (lo : 2 ^ j ≤ P) (hi : P < 2 ^ suc j) where
  some : 1 ≤ z
  some =
      elim (dec_le 63 j) [
        | yes h ↦ absurd (let k = le_trans (pow_mono {i = 63} {j = j} h) lo in omega arith)
        | no h ↦ omega arith
      ]

  shifted_lt : P * 2 ^ (z - 1) < 2 ^ 63
  shifted_lt =
      let s = some in
      let k : suc j + (z - 1) ≡ 63 = omega arith in
      subst (λ (n : ℕ). P * 2 ^ (z - 1) < 2 ^ n) k (shl_lt {a = P} (suc j) (z - 1) hi)

  scaled : IsScale P (P * 2 ^ (z - 1) % 2 ^ 64) (z - 1)
  scaled =
      let s = some in
      let k : j + (z - 1) ≡ 62 = omega arith in
      let f : P * 2 ^ (z - 1) % 2 ^ 64 ≡ P * 2 ^ (z - 1) = mod-eq_of_lt (lt_of_lt_of_le shifted_lt (lit≤ tt)) in
      record {
        is = f;
        least = le_trans (subst (λ (n : ℕ). 2 ^ n ≤ P * 2 ^ (z - 1)) k (le_trans (le_of_eq (pow-add 2 j (z - 1))) (mul-le-mul_right (2 ^ (z - 1)) lo))) (le_of_eq (sym f));
        most = subst (λ (n : ℕ). n < 2 ^ 63) (sym f) shifted_lt;
        few = omega arith;
      }

module _ (c : After-from-shift) where
  abbrev P : ℕ
  P = c.args.micros

  abbrev z : ℕ
  z = c.from-shift.result

  top : (j : ℕ) × (z + suc j ≡ 64) × (2 ^ j ≤ P) × (P < 2 ^ suc j)
  top = subst (λ (n : ℕ). (j : ℕ) × (n + suc j ≡ 64) × (2 ^ j ≤ P) × (P < 2 ^ suc j)) (sym c.from-shift.ensures) (leading_top 64 P c.requires.0 c.ranges.micros.fits)

  one : 1 ≤ z
  one = some P z c.requires.1 top.0 top.1 top.2 top.3

pub overflow_sub-shift : goal.overflow_sub-shift
overflow_sub-shift c = one c

pub invariant_of-result : goal.invariant_of-result
invariant_of-result c = record { is = scaled (P c) (z c) c.requires.1 (top c).0 (top c).1 (top c).2 (top c).3 }
