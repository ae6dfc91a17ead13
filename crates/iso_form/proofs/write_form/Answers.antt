-- `iso_form::write_form` meets its contract: room that is too short is not touched, and the copy leaves the text and the room beyond it.
use Rattle.std.specs.Prelude.{Ok}
use native.Mathlib.Omega.{arith}
use Prim.Native.Nat.{◌-◌, ◌≤◌}
use mathlib.Core.Path.{◌≡◌, refl, sym, ap, ◌∙◌}
use lib.ListN.{length, take, drop}
use lib.Seq.{take-length, length-take-le}
use Rattle.iso_form.specs.Form.{iso_text}
use Rattle.iso_form.proofs.Laws.{iso_length_lem, short_answer, short_over, whole_answer, part_copied}
use Rattle.iso_form.proofs.write_form.Goals as goal
use Rattle.iso_form.proofs.write_form.Goals.{After-start-a}

-- the text is as long as the part
sized : (c : After-start-a) → length (iso_text c.args.w) ≡ 28 - c.start-a.result
sized c = iso_length_lem c.args.w ∙ ap (◌-◌ 28) (sym c.start-a.ensures)

pub returns-then-room-n-clause-value : goal.returns-then-room-n-clause-value
returns-then-room-n-clause-value c =
    let s = sized (goal.at.returns-then-room-n-clause-value c).After-start-a in
    sym (short_answer (iso_text c.args.w) c.args.room.now (omega arith))

pub returns-then-room-n-clause-room_after : goal.returns-then-room-n-clause-room_after
returns-then-room-n-clause-room_after c =
    let s = sized (goal.at.returns-then-room-n-clause-room_after c).After-start-a in
    sym (short_over (iso_text c.args.w) c.args.room.now (omega arith))

pub returns-clause-value : goal.returns-clause-value
returns-clause-value c =
    let s = sized (goal.at.returns-clause-value c).After-start-a in
    ap Ok (sym s) ∙ sym (whole_answer (iso_text c.args.w) c.args.room.now (omega arith))

pub returns-clause-room_after : goal.returns-clause-room_after
returns-clause-room_after c =
    let s = sized (goal.at.returns-clause-room_after c).After-start-a in
    let room = c.args.room.now in
    let a = c.start-a.result in
    let p = take (28 - a) (drop a c.text-t.result) in
    let h : length (iso_text c.args.w) ≤ length room = omega arith in
    let e = part_copied c.args.w c.text-t.result room a (length p) c.start-a.ensures c.text-t.ensures h refl in
    let l = take-length p in
    let f = c.copy_from_slice.ensures.after in
    let n : length p ≡ 28 - a = sym (ap length f) ∙ (c.copy_from_slice.ensures.len ∙ length-take-le (28 - a) room c.if-room-n.false) in
    cc
