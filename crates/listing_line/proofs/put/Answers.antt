-- `listing_line::put` meets its contract.
use Rattle.std.specs.Prelude.{Ok}
use mathlib.Core.Path.{sym, ap, ◌∙◌}
use Rattle.iso_form.proofs.Laws.{short_answer, short_over, whole_answer, whole_over}
use Rattle.listing_line.proofs.put.Goals as goal

pub returns-then-room-text : goal.returns-then-room-text
returns-then-room-text c = record {
  value = sym (short_answer c.args.text.now c.args.room.now c.if-room-text.true);
  room_after = sym (short_over c.args.text.now c.args.room.now c.if-room-text.true);
}

pub returns : goal.returns
returns c = record {
  value = ap Ok c.copy-n.ensures.count ∙ sym (whole_answer c.args.text.now c.args.room.now c.if-room-text.false);
  room_after = c.copy-n.ensures.copied ∙ sym (whole_over c.args.text.now c.args.room.now c.if-room-text.false);
}
