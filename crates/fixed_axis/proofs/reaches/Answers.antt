-- `fixed_axis::reaches` meets its contract. proofs/Periods.antt has the arithmetic.
use mathlib.Core.Path.{◌≡◌, sym, ap, ◌∙◌, subst}
use Prim.Native.Nat.{ℕ, ◌-◌, ◌*◌, ◌%◌, ◌^◌, ◌<◌}
use native.Mathlib.Omega.{arith}
use lib.Dec.{ltb, lit≤}
use lib.IntN.{nat_abs}
use lib.Pow.{shl_exact}
use mir.Syntax.{w64}
use mir.ValLaws.{to_z-of_z}
use Rattle.fixed_axis.specs.Closed.{Reaches}
use Rattle.fixed_axis.proofs.Periods.{lengths, reached}
use Rattle.fixed_axis.proofs.reaches.Goals as goal

pub returns : goal.returns
returns c =
    let s = c.scale_of.result in
    let n = c.args.n in
    let short : s.micros < 2 ^ 45 = omega (arith, lengths c.args.p, c.scale_of.ensures) in
    let size : nat_abs n ≡ c.unsigned_abs.result = sym (c.unsigned_abs.ensures.value ∙ ap nat_abs (to_z-of_z w64 n c.ranges.n)) in
    let most : 2 ^ (s.shift - 2) ≡ 1 * 2 ^ (s.shift - 2) % 2 ^ 64 = sym (shl_exact 1 (s.shift - 2) 64 (lit≤ tt) (omega (arith, s.is.few)) ∙ one (2 ^ (s.shift - 2))) in
    subst (λ (P : ℕ). Reaches (ltb c.unsigned_abs.result (1 * 2 ^ (s.shift - 2) % 2 ^ 64)) P n) c.scale_of.ensures
    (subst (λ (k : ℕ). Reaches (ltb c.unsigned_abs.result k) s.micros n) most
    (subst (λ (k : ℕ). Reaches (ltb k (2 ^ (s.shift - 2))) s.micros n) size (reached s short n)))
  where
    one : (n : ℕ) → 1 * n ≡ n
    one n = omega arith
