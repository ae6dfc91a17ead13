-- `Ratio::has` meets its contract: proofs/Places.antt.
use Rattle.std.proofs.Common.{◌+◌, ◌-◌, ◌%◌, ◌^◌, sym, ap, ◌∙◌, subst, arith, w64}
use Rattle.std.proofs.lemmas.Int.{to_z-of_z}
use Rattle.signed.specs.Bias.{biased}
use Rattle.ratio.specs.Multiples.{IsMultiple}
use Rattle.ratio.proofs.Places.{first, past_last}
use Rattle.ratio.proofs.Ratio.has.Goals as goal

pub returns-else-v-self-clause-missed : goal.returns-else-v-self-clause-missed
returns-else-v-self-clause-missed c =
    let r = c.args.self in
    let u = c.biased.result in
    let v = (u + (2 ^ 64 - first r u)) % 2 ^ 64 in
    let e = c.biased.ensures ∙ ap biased (to_z-of_z w64 c.args.x c.ranges.x) in
    λ h p. past_last r u v (omega arith) (omega arith) c.if-v-self.false (subst (IsMultiple r) (sym e) p)
