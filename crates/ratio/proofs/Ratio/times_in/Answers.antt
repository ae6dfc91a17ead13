-- `Ratio::times_in` meets its contract.
use Rattle.std.proofs.Common.{◌≡◌, ℕ, ◌+◌, ◌*◌, ◌/◌, ◌^◌, ◌<◌, ◌≤◌, sym, ap, ◌∙◌, subst, mul-le-mul_right, arith, le-ltb}
use Rattle.ratio.specs.declared.Ratio.{Ratio}
use Rattle.ratio.proofs.Reciprocal.{times_found}
use Rattle.ratio.proofs.Places.{steps_fit}
use Rattle.ratio.proofs.Ratio.times_in.Goals as goal

-- a step other than 1
module _ (r : Ratio) (other : r.from ≡ 1 → ⊥) where
  two : 2 ≤ r.from
  two = omega (arith, r.steps.positive, other)

  inverse : r.reciprocal ≡ 18446744073709551615 / r.from + 1
  inverse = r.inverse ∙ simp (le-ltb _ _ two)

  times : (i : ℕ) → i * r.from < 2 ^ 64 → i * r.from * r.reciprocal / 2 ^ 64 ≡ i
  times i h = ap (λ (m : ℕ). i * r.from * m / 2 ^ 64) inverse ∙ times_found r.from two i h

  found : (v i : ℕ) → v < 2 ^ 64 → v ≡ i * r.from → v * r.reciprocal / 2 ^ 64 ≡ i
  found v i f e = ap (λ (n : ℕ). n * r.reciprocal / 2 ^ 64) e ∙ times i (subst (λ (n : ℕ). n < 2 ^ 64) e f)

  bounded : (v : ℕ) → v ≤ (r.below + r.above) * r.from → v * r.reciprocal / 2 ^ 64 ≤ r.below + r.above
  bounded v h =
      let k = r.below + r.above in
      let e = times k (steps_fit r.steps k (omega arith)) in
      go (v * r.reciprocal) (k * r.from * r.reciprocal) (mul-le-mul_right r.reciprocal h) e
    where
      go : (p q : ℕ) → p ≤ q → q / 2 ^ 64 ≡ r.below + r.above → p / 2 ^ 64 ≤ r.below + r.above
      go p q l e = omega arith

pub returns-else-self-eq1-clause-found : goal.returns-else-self-eq1-clause-found
returns-else-self-eq1-clause-found c = λ i h. c.high_product.ensures.value ∙ found c.args.self c.if-self-eq1.false c.args.v i c.ranges.v.fits h

pub returns-else-self-eq1-clause-bounded : goal.returns-else-self-eq1-clause-bounded
returns-else-self-eq1-clause-bounded c = λ h. subst (λ (n : ℕ). n ≤ c.args.self.below + c.args.self.above) (sym c.high_product.ensures.value) (bounded c.args.self c.if-self-eq1.false c.args.v h)
