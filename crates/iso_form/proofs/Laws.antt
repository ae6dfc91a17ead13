-- The text as a part of 28 bytes, and what a copy of that part leaves in the room.
use Rattle.std.specs.Prelude.{Ok, Err}
use Prim.Native.Nat.{ℕ, ◌-◌, ◌≤◌, ◌<◌}
use native.Mathlib.Omega.{arith}
use mathlib.Core.Path.{◌≡◌, refl, sym, ap, ◌∙◌}
use mathlib.Core.Bool.{Bool, true, false, cond}
use mathlib.Core.List.{List, ◌∷◌, ◌++◌}
use lib.ListN.{length, take, drop}
use lib.Seq.{take-length}
use borrow.Author.Tests.{le-leb, lt-leb}
use Rattle.refusal.specs.declared.Refusal.{Refusal}
use Rattle.date_text.specs.declared.WrittenDate.{WrittenDate}
use Rattle.iso_form.specs.Form.{body, iso_text, length_answer, over}
use Rattle.iso_form.specs.Closed.{lead}

pub lead_small : (b : Bool) → lead b ≤ 1
lead_small true = omega arith
lead_small false = omega arith

-- ---- the text

pub iso_length_lem : (w : WrittenDate) → length (iso_text w) ≡ 28 - lead w.negative
unfolding iso_text
iso_length_lem w = go w.negative
  where
    go : (b : Bool) → length (cond b (45 ∷ body w) (body w)) ≡ 28 - lead b
    go true = refl
    go false = refl

iso_part : (w : WrittenDate) → take (28 - lead w.negative) (drop (lead w.negative) (45 ∷ body w)) ≡ iso_text w
unfolding iso_text
iso_part w = go w.negative
  where
    go : (b : Bool) → take (28 - lead b) (drop (lead b) (45 ∷ body w)) ≡ cond b (45 ∷ body w) (body w)
    go true = refl
    go false = refl

-- ---- a text and the room for it

module _ (text room : List ℕ) (h : length room < length text) where
  pub short_answer : length_answer text room ≡ Err Refusal.NoRoom
  unfolding length_answer
  short_answer = rw (lt-leb (length text) (length room) h)

  pub short_over : over text room ≡ room
  unfolding over
  short_over = rw (lt-leb (length text) (length room) h)

module _ (text room : List ℕ) (h : length text ≤ length room) where
  pub whole_answer : length_answer text room ≡ Ok (length text)
  unfolding length_answer
  whole_answer = rw (le-leb (length text) (length room) h)

  pub whole_over : over text room ≡ text ++ drop (length text) room
  unfolding over
  whole_over = rw (le-leb (length text) (length room) h)

-- what a copy to the front of the room leaves
pub copied : (text room : List ℕ) → length text ≤ length room → take (length text) text ++ drop (length text) room ≡ over text room
copied text room h = ap (λ (t : List ℕ). t ++ drop (length text) room) (take-length text) ∙ sym (whole_over text room h)

-- and a copy of the part that is the text
pub part_copied : (w : WrittenDate) (t room : List ℕ) (a n : ℕ) → a ≡ lead w.negative → t ≡ 45 ∷ body w → length (iso_text w) ≤ length room → n ≡ length (take (28 - a) (drop a t)) → take n (take (28 - a) (drop a t)) ++ drop n room ≡ over (iso_text w) room
part_copied w t room a n p q h e =
    let s : take (28 - a) (drop a t) ≡ iso_text w = rw (p, q) (iso_part w) in
    rw (e, s) (copied (iso_text w) room h)
