-- Laws of tests, and of answers that exclude each other.
use Prim.Native.Nat.{ℕ}
use native.Mathlib.Omega.{arith}
use mathlib.Core.Path.{◌≡◌, refl, sym, ◌∙◌}
use mathlib.Core.Bool.{Bool, true, false, true≢false, ◌&&◌, ◌||◌, not}
use mathlib.Core.List.{List, [], ◌∷◌}
use mathlib.Core.Option.{none, some}
use Rattle.grammar.specs.Reader.{found, nothing}

pub clash : {A : Type 0} {b : Bool} → b ≡ true → b ≡ false → A
clash p q = absurd (true≢false (sym p ∙ q))

pub none_some : {A B : Type 0} {v : A} → none ≡ some v → B
none_some e = absurd (let z : ◌≡◌ {A = ℕ} 0 1 = cc in omega arith)

pub nothing_found : {A B : Type 0} {v : A} {r : List ℕ} → nothing ≡ found v r → B
nothing_found e = absurd (let z : ◌≡◌ {A = ℕ} 0 1 = cc in omega arith)

pub nil_cons : {A B : Type 0} {b : A} {r : List A} → [] ≡ b ∷ r → B
nil_cons e = absurd (let z : ◌≡◌ {A = ℕ} 0 1 = cc in omega arith)

pub and_parts : (a b : Bool) → (a && b) ≡ true → (a ≡ true) × (b ≡ true)
and_parts true b e = (refl, e)
and_parts false b e = clash e refl

pub and_no : (a : Bool) {b : Bool} → b ≡ false → (a && b) ≡ false
and_no true e = e
and_no false e = refl

pub or_neither : (a b : Bool) → (a || b) ≡ false → (a ≡ false) × (b ≡ false)
or_neither true b e = clash refl e
or_neither false b e = (refl, e)

pub or_left : {a : Bool} (b : Bool) → a ≡ true → (a || b) ≡ true
or_left b e = rw e

pub or_right : (a : Bool) {b : Bool} → b ≡ true → (a || b) ≡ true
or_right true e = refl
or_right false e = e

pub not_so : (a : Bool) → not a ≡ true → a ≡ false
not_so true e = clash e refl
not_so false e = refl

pub so_not : (a : Bool) → (a ≡ true → ⊥) → a ≡ false
so_not true n = absurd (n refl)
so_not false n = refl
