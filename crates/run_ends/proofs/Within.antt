-- Every offset of a run lies between its ends, in any order of what is compared.
use mathlib.Core.Path.{◌≡◌, refl, sym, ◌∙◌}
use mathlib.Core.Bool.{Bool, true, false, cond, not, false≢true, true≢false}
use mathlib.Core.List.{List, [], ◌∷◌}
use lib.Dec.{T}
use lib.IntN.{ℤ}
use lib.Signed.{lt_z, le_z}
use lib.Ieee.{Float, lt, le}
use Rattle.signed.proofs.Order.{le_refl, le_of_lt, lt_not_le, le_trans}
use Rattle.run_ends.specs.Each.{Each}
use Rattle.run_ends.specs.Ends.{lesser, least_from, greatest_from, all_pass, is_number}
use Rattle.std.proofs.lemmas.Float as Float
use Rattle.std.proofs.lemmas.Float.{T_from_true, T_from_false}

-- an order of the B that are comparable
pub record Order (B : Type 0) (before : B → B → Bool) (AtMost : B → B → Type 0) (Comparable : B → Type 0) : Type 0 where
  from : (x y z : B) → AtMost x y → AtMost y z → AtMost x z
  itself : (x : B) → Comparable x → AtMost x x
  ahead : (x y : B) → before x y ≡ true → AtMost x y
  behind : (x y : B) → Comparable x → Comparable y → before x y ≡ false → AtMost y x

opposite : {B : Type 0} {before : B → B → Bool} {AtMost : B → B → Type 0} {Comparable : B → Type 0} → Order B before AtMost Comparable → Order B (λ (x y : B). before y x) (λ (x y : B). AtMost y x) Comparable
opposite o =
    record {
      from = λ x y z h g. o.from z y x g h;
      itself = o.itself;
      ahead = λ x y. o.ahead y x;
      behind = λ x y h g. o.behind y x g h;
    }

module _ {A B : Type 0} (number : A → B) {before : B → B → Bool} {AtMost : B → B → Type 0} {Comparable : B → Type 0} (o : Order B before AtMost Comparable) where
  record Lower (x y r : B) : Type 0 where
    first : AtMost r x
    second : AtMost r y
    known : Comparable r

  lower : (x y : B) (b : Bool) → before x y ≡ b → Comparable x → Comparable y → Lower x y (cond b x y)
  lower x y true e h g = record { first = o.itself x h; second = o.ahead x y e; known = h }
  lower x y false e h g = record { first = o.behind x y h g e; second = o.itself y g; known = g }

  record Lowest (l z : B) (xs : List A) : Type 0 where
    start : AtMost l z
    run : Each (λ (x : A). AtMost l (number x)) xs

  lowest : (z : B) (xs : List A) → Comparable z → Each (λ (x : A). Comparable (number x)) xs → Lowest (least_from number before z xs) z xs
  unfolding least_from
  lowest z [] h k = record { start = o.itself z h; run = tt }
  lowest z (x ∷ xs) h k =
      let l = lower (number x) z (before (number x) z) refl k.0 h in
      let r = lowest (lesser before (number x) z) xs l.known k.1 in
      record { start = o.from _ _ _ r.start l.second; run = (o.from _ _ _ r.start l.first, r.run) }

-- what holds of each offset, from what holds of each
pub each_so : {A : Type 0} (P Q : A → Type 0) → ((x : A) → P x → Q x) → (xs : List A) → Each P xs → Each Q xs
each_so P Q f [] k = tt
each_so P Q f (x ∷ xs) k = (f x k.0, each_so P Q f xs k.1)

each_both : {A : Type 0} (P Q : A → Type 0) (xs : List A) → Each P xs → Each Q xs → Each (λ (x : A). P x × Q x) xs
each_both P Q [] p q = tt
each_both P Q (x ∷ xs) p q = ((p.0, q.0), each_both P Q xs p.1 q.1)

each_good : {A : Type 0} (good : A → Bool) (xs : List A) → all_pass good xs ≡ true → Each (λ (x : A). good x ≡ true) xs
unfolding all_pass
each_good good [] h = tt
each_good {A} good (x ∷ xs) h = split (good x) h (each_good good xs)
  where
    split : (b : Bool) → cond b (all_pass good xs) false ≡ true → (all_pass good xs ≡ true → Each (λ (x : A). good x ≡ true) xs) → (b ≡ true) × Each (λ (x : A). good x ≡ true) xs
    split true h rest = (refl, rest h)
    split false h rest = absurd (false≢true h)

module _ {A B : Type 0} (number : A → B) (good : A → Bool) (before : B → B → Bool) (AtMost : B → B → Type 0) (Comparable : B → Type 0) (o : Order B before AtMost Comparable) (compared : (x : A) → good x ≡ true → Comparable (number x)) where
  pub within : (z : B) (xs : List A) → Comparable z → all_pass good xs ≡ true → Each (λ (x : A). (good x ≡ true) × (AtMost (least_from number before z xs) (number x) × AtMost (number x) (greatest_from number before z xs))) xs
  within z xs h t =
      let g = each_good good xs t in
      let k = each_so (λ (x : A). good x ≡ true) (λ (x : A). Comparable (number x)) compared xs g in
      let low : A → Type 0 = λ x. AtMost (least_from number before z xs) (number x) in
      let high : A → Type 0 = λ x. AtMost (number x) (greatest_from number before z xs) in
      each_both (λ (x : A). good x ≡ true) (λ (x : A). low x × high x) xs g (each_both low high xs (lowest number o z xs h k).run (lowest number (opposite o) z xs h k).run)

-- ---- the order of doubles, of which a NaN is no part, and that of whole numbers
pub doubles : Order Float lt (λ (x y : Float). T (le x y)) (λ (x : Float). is_number x ≡ true)
doubles =
    record {
      from = Float.le_trans;
      itself = λ x h. Float.le_refl x (T_from_true _ h);
      ahead = λ x y h. Float.le_of_lt x y (T_from_true _ h);
      behind = λ x y h g k. Float.le_of_not-lt x y (T_from_true _ h) (T_from_true _ g) (T_from_false _ k);
    }

pub wholes : Order ℤ lt_z (λ (x y : ℤ). le_z x y ≡ true) (λ (x : ℤ). T true)
wholes = record { from = le_trans; itself = λ x h. le_refl x; ahead = le_of_lt; behind = λ x y h g e. opened (le_z y x) (sym (lt_not_le x y) ∙ e) }
  where
    opened : (b : Bool) → not b ≡ false → b ≡ true
    opened true h = refl
    opened false h = absurd (true≢false h)
