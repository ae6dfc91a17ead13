-- `datetime64_number::number_by_ratio` meets its contract: proofs/Units.antt.
use mathlib.Core.Path.{sym, ap, ◌∙◌, subst}
use Prim.Native.Nat.{ℕ}
use mir.Syntax.{w64}
use mir.Val.{SFits}
use mir.ValLaws.{to_z-of_z}
use Rattle.signed.specs.Bias.{biased}
use Rattle.ratio.specs.Multiples.{Place, IsMultiple}
use Rattle.datetime64_number.proofs.Units.{written_multiple, written_exchanged}
use Rattle.datetime64_number.proofs.number_by_ratio.Goals as goal

pub returns : goal.returns
returns c =
    let a = c.args in
    let r = a.ratio in
    let e = ap biased (to_z-of_z w64 a.t c.ranges.t) in
    let f : SFits w64 c.exchanged.result = record { sfits = c.exchanged.type_inv } in
    to_z-of_z w64 c.exchanged.result f
    ∙ written_exchanged a.unit r c.requires.ratio a.t c.ranges.t c.exchanged.result f
    (λ i p. c.exchanged.ensures i (subst (λ (u : ℕ). Place r.from r.below r.above u i) (sym e) p))
    c.requires.written

pub exchanged-requires : goal.exchanged-requires
exchanged-requires c =
    let a = c.args in
    let e = ap biased (to_z-of_z w64 a.t c.ranges.t) in
    subst (IsMultiple a.ratio) (sym e) (written_multiple a.unit a.ratio c.requires.ratio a.t c.ranges.t c.requires.written)
