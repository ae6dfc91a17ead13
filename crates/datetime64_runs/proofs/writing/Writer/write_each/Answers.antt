-- `datetime64_runs::writing::Writer::write_each` meets its contract: proofs/Putting.antt.
use mathlib.Core.Path.{ap, ◌∙◌}
use lib.IntN.{ℤ, pos}
use lib.ListN.{get_or}
use mir.Syntax.{w64}
use mir.Val.{SFits, to_z, of_z}
use mir.ValLaws.{to_z-of_z}
use Rattle.axis_types.specs.Reading.{is_none, offset_of, offset_refusal}
use Rattle.runs.proofs.Passes.{read_at}
use Rattle.datetime64_number.specs.Numbers.{write_number}
use Rattle.datetime64_runs.specs.Runs.{instant_refusal}
use Rattle.datetime64_runs.proofs.Sure.{machine_fits}
use Rattle.datetime64_runs.proofs.Putting.{putting_starts, putting_on}
use borrow.Author.Rules.{rules}
use Rattle.datetime64_runs.proofs.writing.Writer.write_each.Goals as goal

pub loop-i-init : goal.loop-i-init
loop-i-init g c = putting_starts c.requires.room c.requires.written

pub number-requires : goal.number-requires
number-requires g c =
    let x = get_or c.args.instants.now c.loop-i.i (pos 0) in
    let f : SFits w64 x = search rules in
    c.requires.callable (to_z w64 (of_z w64 x)) (machine_fits x f)
    (ap (λ (t : ℤ). is_none (offset_refusal (write_number c.args.self.t.unit t))) (to_z-of_z w64 x f) ∙ read_at (instant_refusal c.args.self.t) (pos 0) c.args.instants.now c.loop-i.i c.loop-i.invariant.all_written c.loop-i-test.true)

pub loop-i-preserved : goal.loop-i-preserved
loop-i-preserved g c =
    let x = get_or c.args.instants.now c.loop-i.i (pos 0) in
    let f : SFits w64 x = search rules in
    let good = ap (λ (t : ℤ). is_none (offset_refusal (write_number c.args.self.t.unit t))) (to_z-of_z w64 x f) ∙ read_at (instant_refusal c.args.self.t) (pos 0) c.args.instants.now c.loop-i.i c.loop-i.invariant.all_written c.loop-i-test.true in
    putting_on c.loop-i.invariant c.loop-i-test.true _ (to_z w64 (of_z w64 c.number.result))
    (to_z-of_z w64 c.number.result (record { sfits = c.number.type_inv })
    ∙ (c.requires.gives (to_z w64 (of_z w64 x)) c.number.result (machine_fits x f) good c.number.ensures ∙ ap (λ (t : ℤ). offset_of (write_number c.args.self.t.unit t)) (to_z-of_z w64 x f)))
    c.put_number.ensures
    c.put_number.auto.bytes
