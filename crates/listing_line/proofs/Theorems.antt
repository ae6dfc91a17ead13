-- What is proved of a line beyond its contract.
--   shown-inside    an instant that a line shows lies in the years -9999 to 9999
--   shown-fields    so it has fields, and these are the ones whose text is printed
--   one_more        a line has one text more than bars
--   line-length     1 to 37 bytes are printed
--   room-enough     37 bytes are room for what any line prints, so none is refused there
use Rattle.std.specs.Prelude.{Result, Ok, Err}
use Prim.Native.Nat.{ℕ, suc, ◌+◌, ◌≤◌}
use native.Mathlib.Omega.{arith}
use mathlib.Core.Path.{◌≡◌, refl, ap, ◌∙◌}
use mathlib.Core.Bool.{Bool, true, false, cond}
use mathlib.Core.List.{List, [], ◌∷◌, ◌++◌, append_assoc}
use mathlib.Core.Option.{Option, none, some}
use lib.Dec.{leb, ltb, eqb}
use lib.IntN.{ℤ}
use lib.ListN.{length, length-append}
use Rattle.grammar.specs.Reader.{read}
use Rattle.grammar.specs.Rules.{bytes}
use Rattle.refusal.specs.Number.{number_of}
use Rattle.refusal.specs.declared.Refusal.{Refusal}
use Rattle.refusal.specs.declared.Refusal.TheVariants.{TextTooLong}
use Rattle.calendar.specs.declared.Calendar.{Calendar}
use Rattle.instant.specs.Instant.{in_range, fields_answer}
use Rattle.instant.proofs.Theorems.{fields_in_lem}
use Rattle.axis.specs.Axis.{read_offset}
use Rattle.axis_types.specs.declared.Offset.{Offset}
use Rattle.axis.proofs.Demands.{read_inside}
use Rattle.calendar.specs.Cutover.{first_cutover}
use Rattle.axis_text.specs.Units.{read_units}
use Rattle.iso_form.specs.Form.{two_digits, length_answer}
use Rattle.iso_form.proofs.Laws.{whole_answer}
use Rattle.iso_text.specs.Iso.{text_of}
use Rattle.offset_text.specs.OffsetRule.{offset}
use Rattle.listing_line.specs.Line.{LineAnswer, on_first, parted, line_reading, on_axis, with_offset, of_parts, line_answer, short_number, refused_text, fields_in, rounded_text, newline, answer_text, line_text}
use Rattle.listing_line.specs.declared.Shown.{Shown}
use Rattle.listing_line.proofs.Instants.{shown_length}
use Rattle.axis_types.specs.Reading.{Reading}
use Rattle.axis_types.specs.declared.Axis.{Axis}

-- ---- a line shows an instant of the range

module _ (c : Calendar) (t : ℤ) (exact : Bool) where
  abbrev shown : Shown
  shown = record { calendar = c; instant = t; exact = exact }

  refused_shows : {A : Type 0} {r : Refusal} → ◌≡◌ {A = LineAnswer} (Err r) (Ok shown) → A
  refused_shows e = absurd (let z : ◌≡◌ {A = ℕ} 0 1 = cc in omega arith)

  of_reading_lem : (d : Calendar) (r : Reading) → ((u : ℤ) (e : Bool) → r ≡ Ok (u, e) → in_range d u ≡ true) → line_reading d r ≡ Ok shown → in_range c t ≡ true
  of_reading_lem d (Ok (u, e)) f h =
      let other : Shown = record { calendar = d; instant = u; exact = e } in
      let s : shown ≡ other = cc in
      ap (λ (x : Shown). in_range x.calendar x.instant) s ∙ f u e refl
  of_reading_lem d (Err r) f h = refused_shows h

  on_axis_lem : (a : Result Axis Refusal) (o : Offset) → on_axis a o ≡ Ok shown → in_range c t ≡ true
  on_axis_lem (Ok a) o h = of_reading_lem a.calendar (read_offset a o) (λ u e. read_inside a u e o) h
  on_axis_lem (Err r) o h = refused_shows h

  with_offset_lem : (name units : List ℕ) (o : Option Offset) → with_offset name units o ≡ Ok shown → in_range c t ≡ true
  with_offset_lem name units (some o) h = on_axis_lem (read_units name first_cutover units) o h
  with_offset_lem name units none h = refused_shows h

  of_parts_lem : (ps : List (List ℕ)) → of_parts ps ≡ Ok shown → in_range c t ≡ true
  of_parts_lem (name ∷ units ∷ text ∷ []) h = with_offset_lem name units (read offset text) h
  of_parts_lem [] h = refused_shows h
  of_parts_lem (name ∷ []) h = refused_shows h
  of_parts_lem (name ∷ units ∷ []) h = refused_shows h
  of_parts_lem (name ∷ units ∷ text ∷ more ∷ rest) h = refused_shows h

  module _ (s : List ℕ) (shows : line_answer s ≡ Ok shown) where
    pub shown_inside : in_range c t ≡ true
    unfolding line_answer
    shown_inside = go (leb (length s) 255) shows
      where
        go : (b : Bool) → cond b (of_parts (parted s)) (Err TextTooLong) ≡ Ok shown → in_range c t ≡ true
        go true h = of_parts_lem (parted s) h
        go false h = refused_shows h

    pub shown_fields : fields_answer c t ≡ Ok (fields_in c t)
    shown_fields = fields_in_lem c t shown_inside

-- ---- the texts of a line

abbrev pub bars : List ℕ → ℕ
bars [] = 0
bars (b ∷ s) = cond (eqb b 124) (suc (bars s)) (bars s)

pub one_more : (s : List ℕ) → length (parted s) ≡ suc (bars s)
unfolding parted
one_more [] = refl
one_more (b ∷ s) = go (eqb b 124) (parted s) (one_more s)
  where
    go : (t : Bool) (ps : List (List ℕ)) → length ps ≡ suc (bars s) → length (cond t ([] ∷ ps) (on_first b ps)) ≡ suc (cond t (suc (bars s)) (bars s))
    go true ps e = ap suc e
    go false [] e = absurd (omega arith)
    go false (p ∷ ps) e = e

-- ---- how much is printed

number_length : (n : ℕ) → length (short_number n) ≤ 2
number_length n = go (ltb n 10)
  where
    go : (b : Bool) → length (cond b ((n + 48) ∷ []) (two_digits n)) ≤ 2
    go true = omega arith
    go false = omega arith

printed_length : (a : LineAnswer) → length (answer_text a ++ newline) ≤ 37
printed_length (Ok s) = rw (append_assoc (text_of (fields_in s.calendar s.instant)) (rounded_text s.exact) newline) (shown_length s.calendar s.instant s.exact)
printed_length (Err r) =
    let l = length-append (refused_text r) newline in
    let m = length-append (bytes "refused ") (short_number (number_of r)) in
    omega (arith, number_length (number_of r))

pub line_length : (s : List ℕ) → (1 ≤ length (line_text s)) × (length (line_text s) ≤ 37)
unfolding line_text
line_length s = let l = length-append (answer_text (line_answer s)) newline in (omega arith, printed_length (line_answer s))

pub room_enough : (s room : List ℕ) → 37 ≤ length room → length_answer (line_text s) room ≡ Ok (length (line_text s))
room_enough s room h = let l = (line_length s).1 in whole_answer (line_text s) room (omega arith)
