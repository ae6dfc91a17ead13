-- `datetime64_number::instant_by_ratio` meets its contract: proofs/Units.antt.
use mathlib.Core.Path.{sym, ap, ◌∙◌, subst}
use Prim.Native.Nat.{ℕ}
use mir.Syntax.{w64}
use mir.Val.{SFits}
use mir.ValLaws.{to_z-of_z}
use Rattle.signed.specs.Bias.{biased}
use Rattle.ratio.specs.Multiples.{Place, IsMultiple}
use Rattle.datetime64_number.proofs.Units.{read_multiple, read_exchanged}
use Rattle.datetime64_number.proofs.instant_by_ratio.Goals as goal

pub returns : goal.returns
returns c =
    let a = c.args in
    let r = a.ratio in
    let e = ap biased (to_z-of_z w64 a.n c.ranges.n) in
    let f : SFits w64 c.exchanged.result = record { sfits = c.exchanged.type_inv } in
    to_z-of_z w64 c.exchanged.result f
    ∙ read_exchanged a.unit r c.requires.ratio a.n c.ranges.n c.exchanged.result f
    (λ i p. c.exchanged.ensures i (subst (λ (u : ℕ). Place r.from r.below r.above u i) (sym e) p))
    c.requires.read

pub exchanged-requires : goal.exchanged-requires
exchanged-requires c =
    let a = c.args in
    let e = ap biased (to_z-of_z w64 a.n c.ranges.n) in
    subst (IsMultiple a.ratio) (sym e) (read_multiple a.unit a.ratio c.requires.ratio a.n c.ranges.n c.requires.read)
