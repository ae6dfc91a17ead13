-- `listing_line::answer` meets its contract.
use Prim.Native.Nat.{ℕ}
use mathlib.Core.Path.{◌≡◌, sym, ap, ◌∙◌}
use mathlib.Core.List.{List, ◌++◌}
use Rattle.iso_form.specs.Form.{length_answer, over}
use Rattle.listing_line.specs.Line.{LineAnswer, line_answer, answer_text, newline, line_text}
use Rattle.listing_line.proofs.Theorems.{shown_inside}
use Rattle.listing_line.proofs.answer.Goals as goal

-- the text of a line by its answer
printed : (s : List ℕ) (a : LineAnswer) → a ≡ line_answer s → answer_text a ++ newline ≡ line_text s
unfolding line_text
printed s a e = ap (λ (x : LineAnswer). answer_text x ++ newline) e

pub put_shown-requires : goal.put_shown-requires
put_shown-requires c =
    shown_inside _ _ _ _ (sym c.read_line.ensures ∙ c.in-Ok.is)

pub returns-in-Err : goal.returns-in-Err
returns-in-Err c =
    let e = printed c.args.line.now _ (sym c.in-Err.is ∙ c.read_line.ensures) in
    record {
      value = c.put_refused.ensures.value ∙ ap (λ (t : List ℕ). length_answer t c.args.room.now) e;
      room_after = c.put_refused.ensures.room_after ∙ ap (λ (t : List ℕ). over t c.args.room.now) e;
    }

pub returns-in-Ok : goal.returns-in-Ok
returns-in-Ok c =
    let e = printed c.args.line.now _ (sym c.in-Ok.is ∙ c.read_line.ensures) in
    record {
      value = c.put_shown.ensures.value ∙ ap (λ (t : List ℕ). length_answer t c.args.room.now) e;
      room_after = c.put_shown.ensures.room_after ∙ ap (λ (t : List ℕ). over t c.args.room.now) e;
    }
