use mathlib.Core.Path.{◌≡◌, ◌∙◌, subst}
use Prim.Native.Nat.{ℕ, ◌-◌}
use lib.IntN.{ℤ, pos}
use lib.ListN.{get_or}
use mir.Syntax.{w64}
use mir.Val.{SFits, to_z, of_z}
use mir.ValLaws.{to_z-of_z}
use Rattle.signed.specs.Bias.{biased}
use Rattle.ratio.specs.Multiples.{Between}
use Rattle.datetime64_runs.proofs.Sure.{joined, machine_fits}
use Rattle.datetime64_runs.proofs.numbers.all_between.Goals as goal

pub loop-i-preserved : goal.loop-i-preserved
loop-i-preserved g c =
    let a = c.args in
    let N = g.N.Numbers.numbers a.numbers in
    let f : SFits w64 c.at.result = record { sfits = c.at.type_inv } in
    let found : to_z w64 (of_z w64 c.at.result) ≡ get_or N c.loop-i.i (pos 0) = to_z-of_z w64 c.at.result f ∙ c.at.ensures in
    joined (λ (j : ℕ). let n = get_or N j (pos 0) in SFits w64 n × Between a.bounds (biased n)) c.loop-i.i (a.bounds.high - a.bounds.low) c.loop-i.joined c.above_low-joined.result c.loop-i.invariant
    (λ h. subst (λ (z : ℤ). SFits w64 z × Between a.bounds (biased z)) found (machine_fits c.at.result f, c.above_low-joined.ensures h))
