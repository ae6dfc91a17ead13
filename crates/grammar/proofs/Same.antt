-- Whether two texts are the same, byte by byte.
use Prim.Native.Nat.{ℕ}
use native.Mathlib.Omega.{arith}
use mathlib.Core.Path.{◌≡◌, refl, ap₂}
use mathlib.Core.Bool.{true, false}
use mathlib.Core.List.{List, [], ◌∷◌}
use lib.Dec.{eqb}
use lib.ListN.{length}
use borrow.Author.Tests.{eq-eqb, eqb-true}
use Rattle.grammar.specs.Rules.{same}
use Rattle.grammar.proofs.Tests.{clash, and_parts, and_no}

pub same_refl : (a : List ℕ) → same a a ≡ true
same_refl [] = refl
same_refl (x ∷ a) = rw (eq-eqb x x refl) (same_refl a)

pub same_true : (a b : List ℕ) → same a b ≡ true → a ≡ b
same_true [] [] e = refl
same_true [] (y ∷ b) e = clash e refl
same_true (x ∷ a) [] e = clash e refl
same_true (x ∷ a) (y ∷ b) e =
    let h = and_parts (eqb x y) (same a b) e in
    ap₂ ◌∷◌ (eqb-true x y h.0) (same_true a b h.1)

pub same_length_no : (a b : List ℕ) → (length a ≡ length b → ⊥) → same a b ≡ false
same_length_no [] [] n = absurd (n refl)
same_length_no [] (y ∷ b) n = refl
same_length_no (x ∷ a) [] n = refl
same_length_no (x ∷ a) (y ∷ b) n = and_no (eqb x y) (same_length_no a b (λ e. n (omega arith)))
