-- The text of an instant that lies in the range.
use Rattle.std.specs.Prelude.{Result, Ok}
use Prim.Native.Nat.{ℕ, ◌≤◌}
use native.Mathlib.Omega.{arith}
use mathlib.Core.Path.{◌≡◌, ap, ◌∙◌}
use mathlib.Core.Bool.{Bool, true, false}
use mathlib.Core.List.{List, ◌++◌}
use lib.IntN.{ℤ}
use lib.ListN.{length, drop, length-append}
use Rattle.calendar.specs.declared.Calendar.{Calendar}
use Rattle.instant.specs.Instant.{in_range}
use Rattle.instant.proofs.Theorems.{fields_in_lem}
use Rattle.iso_form.proofs.Laws.{iso_length_lem, whole_answer, whole_over}
use Rattle.iso_text.specs.Iso.{utc_date, text_of, iso_length, iso_room, write_iso, room_iso}
use Rattle.listing_line.specs.Line.{fields_in, rounded_text, newline}
use Rattle.instant.specs.declared.Fields.{Fields}
use Rattle.refusal.specs.declared.Refusal.{Refusal}

end_length : (exact : Bool) → length (rounded_text exact ++ newline) ≤ 9
end_length true = omega arith
end_length false = omega arith

module _ (c : Calendar) (t : ℤ) where
  pub text_length : length (text_of (fields_in c t)) ≤ 28
  text_length = let w = utc_date (fields_in c t) in omega (arith, iso_length_lem w)

  -- with what stands after it
  pub shown_length : (exact : Bool) → length (text_of (fields_in c t) ++ (rounded_text exact ++ newline)) ≤ 37
  shown_length exact =
      let s = text_length in
      let l = length-append (text_of (fields_in c t)) (rounded_text exact ++ newline) in
      omega (arith, end_length exact)

  -- what writing it answers and leaves
  module _ (room : List ℕ) (h : in_range c t ≡ true) (l : 28 ≤ length room) where
    pub written_length : write_iso c t room ≡ Ok (length (text_of (fields_in c t)))
    unfolding write_iso
    written_length =
        let s = text_length in
        ap (λ (a : Result Fields Refusal). iso_length a room) (fields_in_lem c t h) ∙ whole_answer (text_of (fields_in c t)) room (omega arith)

    pub written_room : room_iso c t room ≡ text_of (fields_in c t) ++ drop (length (text_of (fields_in c t))) room
    unfolding room_iso
    written_room =
        let s = text_length in
        ap (λ (a : Result Fields Refusal). iso_room a room) (fields_in_lem c t h) ∙ whole_over (text_of (fields_in c t)) room (omega arith)
