-- `iso_text::write_iso` meets its contract: the fields of the instant, written in the one form; on a refusal nothing is written.
use Rattle.std.specs.Prelude.{Result, Ok}
use Rattle.std.proofs.lemmas.Grind.{common_steps}
use native.Mathlib.Omega.{arith}
use mathlib.Core.Path.{◌≡◌, sym, ap, ◌∙◌}
use mir.ValLaws.{to_z-of_z}
use mir.Syntax.{w64}
use Rattle.date_text.specs.declared.WrittenDate.{WrittenDate}
use Rattle.instant.specs.Instant.{fields_answer}
use Rattle.iso_form.specs.Form.{iso_text, length_answer, over}
use Rattle.iso_text.specs.Iso.{iso_length, iso_room, write_iso, room_iso}
use Rattle.iso_text.proofs.Laws.{fields_year}
use Rattle.iso_text.proofs.write_iso.Goals as goal
use Rattle.iso_text.proofs.write_iso.Goals.{After-fields_of}
use Rattle.instant.specs.declared.Fields.{Fields}
use Rattle.refusal.specs.declared.Refusal.{Refusal}

-- the answer is that of the instant
answer : (a : After-fields_of) → a.fields_of.result ≡ fields_answer a.args.c a.args.t
answer a = a.fields_of.ensures ∙ ap (fields_answer a.args.c) (to_z-of_z w64 a.args.t a.ranges.t)

pub written_of-requires : goal.written_of-requires
written_of-requires c = fields_year c.args.c c.args.t _ (sym (answer (goal.at.written_of-requires c).After-fields_of) ∙ c.in_ok-f.was)

pub returns : goal.returns
unfolding write_iso room_iso
returns c =
    let e : Ok c.in_ok-f.f ≡ fields_answer c.args.c c.args.t = sym c.in_ok-f.was ∙ answer (goal.at.returns c).After-fields_of in
    let room = c.args.room.now in
    record {
      value = c.write_form.ensures.value ∙ (ap (λ (v : WrittenDate). length_answer (iso_text v) room) c.written_of.ensures ∙ ap (λ (o : Result Fields Refusal). iso_length o room) e);
      room_after = c.write_form.ensures.room_after ∙ (ap (λ (v : WrittenDate). over (iso_text v) room) c.written_of.ensures ∙ ap (λ (o : Result Fields Refusal). iso_room o room) e);
    }

pub returns-in_err-f : goal.returns-in_err-f
unfolding write_iso room_iso
returns-in_err-f c =
    let e = sym c.in_err-f.was ∙ answer (goal.at.returns-in_err-f c).After-fields_of in
    let refused = ap (λ (o : Result Fields Refusal). iso_length o c.args.room.now) e in
    record {
      value = grind (arith, common_steps, refused);
      room_after = ap (λ (o : Result Fields Refusal). iso_room o c.args.room.now) e;
    }
