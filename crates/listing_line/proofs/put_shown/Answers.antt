-- `listing_line::put_shown` meets its contract.
use Rattle.std.specs.Prelude.{Ok}
use Prim.Native.Nat.{ℕ, ◌-◌, ◌≤◌}
use native.Mathlib.Omega.{arith}
use mathlib.Core.Path.{◌≡◌, ap, ◌∙◌}
use mathlib.Core.List.{List, ◌++◌, append_assoc}
use lib.ListN.{length, replicate}
use Rattle.iso_form.specs.Form.{length_answer, over}
use Rattle.iso_text.specs.Iso.{text_of}
use Rattle.listing_line.specs.Line.{fields_in, rounded_text, answer_text, newline}
use Rattle.listing_line.proofs.Instants.{shown_length}
use Rattle.listing_line.proofs.Rooms.{taken, reaches}
use Rattle.listing_line.proofs.put_shown.Goals as goal
use Rattle.listing_line.proofs.put_shown.Goals.{After-put_instant-n}

-- the text, and that it was made
module _ (p : After-put_instant-n) where
  abbrev text : List ℕ
  text = answer_text (Ok p.args.shown) ++ newline

  abbrev made : List ℕ
  made = p.put_instant-n.new.room

  count : p.put_instant-n.result ≡ length text
  count = p.put_instant-n.ensures.value

  short : length text ≤ 37
  short = omega (arith, ap length (append_assoc (text_of (fields_in p.args.shown.calendar p.args.shown.instant)) (rounded_text p.args.shown.exact) newline), shown_length p.args.shown.calendar p.args.shown.instant p.args.shown.exact)

  made_is : made ≡ over text (replicate 37 0)
  made_is = p.put_instant-n.ensures.room_after

pub slice_bounds-put-end : goal.slice_bounds-put-end
slice_bounds-put-end c =
    let p = (goal.at.slice_bounds-put-end c).After-put_instant-n in
    reaches (text p) (replicate 37 0) (made p) p.put_instant-n.result (count p) (made_is p) (short p)

pub returns : goal.returns
returns c =
    let p = (goal.at.returns c).After-put_instant-n in
    let e = taken (text p) (replicate 37 0) (made p) (p.put_instant-n.result - 0) (omega (arith, count p)) (made_is p) (short p) in
    record {
      value = c.put.ensures.value ∙ ap (λ (t : List ℕ). length_answer t c.args.room.now) e;
      room_after = c.put.ensures.room_after ∙ ap (λ (t : List ℕ). over t c.args.room.now) e;
    }
