-- `listing_line::put_instant` meets its contract: an instant in the range has a text, which is not refused.
use Rattle.std.specs.Prelude.{Ok}
use Prim.Native.Nat.{ℕ, ◌+◌, ◌≤◌}
use native.Mathlib.Omega.{arith}
use mathlib.Core.Bool.{true}
use mathlib.Core.Path.{◌≡◌, sym, ap, ◌∙◌}
use mathlib.Core.List.{List, ◌++◌, append_assoc}
use lib.IntN.{ℤ}
use lib.ListN.{length, drop, length-append, length-drop}
use mir.Syntax.{w64}
use mir.ValLaws.{to_z-of_z}
use borrow.Author.Rules.{rules}
use Rattle.iso_form.specs.Form.{over}
use Rattle.iso_text.specs.Iso.{text_of, write_iso, room_iso}
use Rattle.listing_line.specs.Line.{fields_in, rounded_text, newline}
use Rattle.listing_line.proofs.Instants.{text_length, shown_length, written_length, written_room}
use Rattle.listing_line.proofs.Rooms.{rest, put_after}
use Rattle.listing_line.proofs.put_instant.Goals as goal
use Rattle.listing_line.proofs.put_instant.Goals.{After-write_iso}

-- ---- after the text of the instant is written

module _ (w : After-write_iso) where
  -- the text, what stands after it, the room, and what the room then holds
  abbrev iso : List ℕ
  iso = text_of (fields_in w.args.shown.calendar w.args.shown.instant)

  abbrev end : List ℕ
  end = rounded_text w.args.shown.exact ++ newline

  abbrev room : List ℕ
  room = w.args.room.now

  abbrev filled : List ℕ
  filled = w.write_iso.new.room

  enough : 28 ≤ length room
  enough = omega (arith, w.requires.in_bounds)

  answered : w.write_iso.result ≡ Ok (length iso)
  answered =
      w.write_iso.ensures.value
      ∙ (ap (λ (z : ℤ). write_iso w.args.shown.calendar z room) (to_z-of_z w64 w.args.shown.instant (search rules)) ∙ written_length w.args.shown.calendar w.args.shown.instant room w.requires.t_value enough)

  filled_is : filled ≡ iso ++ drop (length iso) room
  filled_is =
      w.write_iso.ensures.room_after
      ∙ (ap (λ (z : ℤ). room_iso w.args.shown.calendar z room) (to_z-of_z w64 w.args.shown.instant (search rules)) ∙ written_room w.args.shown.calendar w.args.shown.instant room w.requires.t_value enough)

  both : length (iso ++ end) ≤ 37
  both = shown_length w.args.shown.calendar w.args.shown.instant w.args.shown.exact

  fits : length (iso ++ end) ≤ length room
  fits = let b = both in omega (arith, w.requires.in_bounds)

  -- ---- where it was not refused

  module _ (n : ℕ) (e : w.write_iso.result ≡ Ok n) where
    count : n ≡ length iso
    count = let x = answered in (cc)

    inside : n ≤ length filled
    inside =
        let c = count in
        let l = ap length filled_is ∙ length-append iso (drop (length iso) room) in
        omega arith

    sum : (r : ℕ) → r ≡ length end → n + r ≡ length (iso ++ end)
    sum r k =
        let c = count in
        let l = length-append iso end in
        omega arith

pub unwrap-n-requires : goal.unwrap-n-requires
unwrap-n-requires c = rw (answered (goal.at.unwrap-n-requires c).After-write_iso) (λ i. true)

pub slice_bounds-put_end-count : goal.slice_bounds-put_end-count
slice_bounds-put_end-count c = inside (goal.at.slice_bounds-put_end-count c).After-write_iso c.unwrap-n.result c.unwrap-n.ensures

pub slice_bounds-put_end-start : goal.slice_bounds-put_end-start
slice_bounds-put_end-start c = inside (goal.at.slice_bounds-put_end-start c).After-write_iso c.unwrap-n.result c.unwrap-n.ensures

pub put_end-requires : goal.put_end-requires
put_end-requires c =
    let w = (goal.at.put_end-requires c).After-write_iso in
    let s = text_length w.args.shown.calendar w.args.shown.instant in
    let e = ap length (rest (iso w) (end w) (room w) (filled w) (filled w) c.unwrap-n.result (count w c.unwrap-n.result c.unwrap-n.ensures) (filled_is w)) ∙ length-drop (length (iso w)) (room w) in
    omega (arith, w.requires.in_bounds)

pub overflow_add-result : goal.overflow_add-result
overflow_add-result c =
    let w = (goal.at.overflow_add-result c).After-write_iso in
    let s = sum w c.unwrap-n.result c.unwrap-n.ensures c.put_end.result c.put_end.ensures.value in
    let b = both w in
    record { fits = omega arith }

pub returns : goal.returns
returns c =
    let w = (goal.at.returns c).After-write_iso in
    let e = sym (append_assoc (iso w) (rounded_text c.args.shown.exact) newline) in
    record {
      value = sum w c.unwrap-n.result c.unwrap-n.ensures c.put_end.result c.put_end.ensures.value ∙ ap length e;
      room_after =
          put_after (iso w) (end w) (room w) (filled w) c.put_end.new.room c.unwrap-n.result (count w c.unwrap-n.result c.unwrap-n.ensures) (filled_is w) (fits w) c.put_end.ensures.room_after
          ∙ ap (λ (t : List ℕ). over t (room w)) e;
    }
