-- Texts in lent room: one text, and one after another.
use Prim.Native.Nat.{ℕ, ◌-◌, ◌≤◌}
use native.Mathlib.Omega.{arith}
use mathlib.Core.Path.{◌≡◌, sym, ap, ap₂, ◌∙◌}
use mathlib.Core.List.{List, [], ◌++◌, append_assoc, append-nil}
use lib.ListN.{length, take, drop, length-append, length-drop, drop_of_length-le}
use lib.Seq.{take_all, take_at, drop_at, drop-drop}
use Rattle.iso_form.specs.Form.{over}
use Rattle.iso_form.proofs.Laws.{whole_over}

-- a text, and then another after it
pub over_both : (a b room : List ℕ) → length (a ++ b) ≤ length room → a ++ over b (drop (length a) room) ≡ over (a ++ b) room
over_both a b room h =
    let l = length-append a b in
    let d = length-drop (length a) room in
    let e : drop (length b) (drop (length a) room) ≡ drop (length (a ++ b)) room = drop-drop (length b) (length a) room ∙ ap (λ (n : ℕ). drop n room) (sym l) in
    ap (◌++◌ a) (whole_over b (drop (length a) room) (omega arith) ∙ ap (◌++◌ b) e)
    ∙ (sym (append_assoc a b (drop (length (a ++ b)) room)) ∙ sym (whole_over (a ++ b) room h))

-- what is left once a text stands at the front, and another is put into the rest
module _ (a b room xs ys : List ℕ) (n : ℕ) (e : n ≡ length a) (f : xs ≡ a ++ drop (length a) room) where
  pub rest : take (length xs - n) (drop n xs) ≡ drop (length a) room
  rest = take_all (length xs - n) (drop n xs) (omega (arith, length-drop n xs)) ∙ (ap (drop n) f ∙ drop_at a (drop (length a) room) n (sym e))

  left : drop (length xs - n) (drop n xs) ≡ []
  left =
      let h : length (drop n xs) ≤ length xs - n = omega (arith, length-drop n xs) in
      drop_of_length-le (drop n xs) h

  pub put_after : length (a ++ b) ≤ length room → ys ≡ over b (take (length xs - n) (drop n xs)) → take n xs ++ (ys ++ drop (length xs - n) (drop n xs)) ≡ over (a ++ b) room
  put_after h g =
      ap₂ ◌++◌ (ap (take n) f ∙ take_at a (drop (length a) room) n (sym e)) (ap (◌++◌ ys) left ∙ (append-nil ys ∙ (g ∙ ap (over b) rest)))
      ∙ over_both a b room h

-- a text at the front of what it was put into
module _ (text room out : List ℕ) (n : ℕ) (e : n ≡ length text) (f : out ≡ over text room) (h : length text ≤ length room) where
  pub taken : take n out ≡ text
  taken = ap (take n) (f ∙ whole_over text room h) ∙ take_at text (drop (length text) room) n (sym e)

  pub reaches : n ≤ length out
  reaches = let l = ap length (f ∙ whole_over text room h) ∙ length-append text (drop (length text) room) in omega arith
