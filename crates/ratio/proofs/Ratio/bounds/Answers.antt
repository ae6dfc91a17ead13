-- `Ratio::bounds` meets its contract.
use Rattle.std.proofs.Common.{ℕ, ◌+◌, ◌-◌, sym, subst, arith}
use Rattle.ratio.specs.Multiples.{Place}
use Rattle.ratio.proofs.Places.{few_below, few_above}
use Rattle.ratio.proofs.Ratio.bounds.Goals as goal

pub returns-then-self-eq1 : goal.returns-then-self-eq1
returns-then-self-eq1 c =
    let r = c.args.self in
    let f = few_below r.steps in
    record {
      around = (omega arith, omega arith, omega (arith, few_above r.steps));
      all = λ u b. let i = u + r.below - 9223372036854775808 in (i, subst (λ (k : ℕ). Place k r.below r.above u i) (sym c.if-self-eq1.true) (record { inside = omega arith; is = omega arith }));
    }
