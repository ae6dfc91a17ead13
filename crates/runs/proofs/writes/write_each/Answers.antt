-- `runs::writes::write_each` meets its contract: proofs/Passes.antt.
use mathlib.Core.Path.{sym, ap, ◌∙◌, subst}
use native.Mathlib.Omega.{arith}
use lib.IntN.{ℤ}
use lib.ListN.{length-set}
use mir.Syntax.{w64}
use mir.Val.{SFits, to_z, of_z}
use mir.ValLaws.{to_z-of_z}
use Rattle.run_ends.specs.Ends.{whole_number}
use Rattle.runs.proofs.Passes.{written_on}
use Rattle.runs.proofs.writes.write_each.Goals as goal

pub loop-place-preserved : goal.loop-place-preserved
loop-place-preserved g c =
    let l = c.loop-place in
    let item = c.index-source-place in
    let t = c.instant.result in
    let fit : SFits w64 t = record { sfits = c.instant.type_inv } in
    let number = to_z-of_z w64 c.unwrap_or.result (record { sfits = c.unwrap_or.type_inv }) ∙ (c.unwrap_or.ensures ∙ ap whole_number c.whole.ensures) in
    let gave = subst (λ (n : ℤ). g.F.Fn.post c.args.instant (n, tt) (to_z w64 (of_z w64 t))) number (subst (g.F.Fn.post c.args.instant (_, tt)) (sym (to_z-of_z w64 t fit)) c.instant.ensures) in
    (omega (arith, c.loop-place-test.true), length-set l.destination l.place _ ∙ l.invariant.1, written_on _ c.args.source.now _ l.destination l.place item.result _ c.loop-place-test.true c.requires.room item.is l.invariant.2 gave)
