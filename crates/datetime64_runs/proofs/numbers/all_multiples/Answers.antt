use mathlib.Core.Path.{◌≡◌, refl, ◌∙◌, subst}
use Prim.Native.Nat.{ℕ}
use native.Mathlib.Omega.{arith}
use lib.IntN.{ℤ, pos}
use lib.ListN.{get_or}
use mir.Syntax.{w64}
use mir.Val.{SFits, to_z, of_z}
use mir.ValLaws.{to_z-of_z}
use Rattle.signed.specs.Bias.{biased}
use Rattle.ratio.specs.Multiples.{IsMultiple}
use Rattle.datetime64_runs.proofs.Sure.{before_on, machine_fits}
use Rattle.datetime64_runs.proofs.numbers.all_multiples.Goals as goal

pub loop-i-preserved : goal.loop-i-preserved
loop-i-preserved g c =
    let a = c.args in
    let N = g.N.Numbers.numbers a.numbers in
    let f : SFits w64 c.at.result = record { sfits = c.at.type_inv } in
    let found : to_z w64 (of_z w64 c.at.result) ≡ get_or N c.loop-i.i (pos 0) = to_z-of_z w64 c.at.result f ∙ c.at.ensures in
    before_on (λ (j : ℕ). let n = get_or N j (pos 0) in SFits w64 n × IsMultiple a.ratio (biased n)) c.loop-i.i c.loop-i.invariant
    (subst (λ (z : ℤ). SFits w64 z × IsMultiple a.ratio (biased z)) found (machine_fits c.at.result f, c.if-not-has.ensures.found refl))

pub returns : goal.returns
returns g c = λ h j b. c.loop-i.invariant j (omega (arith, c.loop-i-test.false, b, c.count-i-end.ensures))
