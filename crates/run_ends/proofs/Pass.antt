-- The pass over a run that finds its ends, one offset more at a time. The offsets are of any kind, compared in any order.
use mathlib.Core.Path.{◌≡◌, refl, sym, ap, ◌∙◌}
use mathlib.Core.Bool.{Bool, true, false, cond}
use mathlib.Core.List.{List, ◌∷◌}
use Prim.Native.Nat.{ℕ, ◌+◌, ◌≤◌, ◌<◌}
use native.Mathlib.Numerals.{add-one}
use native.Mathlib.Omega.{arith}
use lib.ListN.{length, drop, get_or, drop_of_length-le}
use lib.Seq.{drop-cons}
use Rattle.run_ends.specs.Ends.{lesser, greater, least_from, greatest_from, all_pass}

module _ {A B : Type 0} (number : A → B) (good : A → Bool) (before : B → B → Bool) (z : B) (xs : List A) where
  -- the first i offsets pass the test, and l and g are the ends of z and them
  pub record Passing (l g : B) (i : ℕ) : Type 0 where
    pub within : i ≤ length xs
    pub passed : all_pass good xs ≡ all_pass good (drop i xs)
    pub lowest : least_from number before z xs ≡ least_from number before l (drop i xs)
    pub highest : greatest_from number before z xs ≡ greatest_from number before g (drop i xs)

  -- all offsets pass, and l and g are the ends
  pub record Passed (l g : B) : Type 0 where
    pub all : all_pass good xs ≡ true
    pub least : l ≡ least_from number before z xs
    pub greatest : g ≡ greatest_from number before z xs

  pub starts : Passing z z 0
  starts = record { within = omega arith; passed = refl; lowest = refl; highest = refl }

  module _ {l g : B} {i : ℕ} (d : A) (s : Passing l g i) (h : i < length xs) where
    next : drop i xs ≡ get_or xs i d ∷ drop (i + 1) xs
    next = rw (add-one, drop-cons xs i d)

    tested : (b : Bool) → good (get_or xs i d) ≡ b → all_pass good xs ≡ cond b (all_pass good (drop (i + 1) xs)) false
    unfolding all_pass
    tested b e = s.passed ∙ (ap (all_pass good) next ∙ ap (λ (t : Bool). cond t (all_pass good (drop (i + 1) xs)) false) e)

    pub goes_on : {l' g' : B} → good (get_or xs i d) ≡ true → l' ≡ lesser before (number (get_or xs i d)) l → g' ≡ greater before (number (get_or xs i d)) g → Passing l' g' (i + 1)
    unfolding least_from
    goes_on t e f =
        let rest = drop (i + 1) xs in
        record {
          within = omega arith;
          passed = tested true t;
          lowest = s.lowest ∙ (ap (least_from number before l) next ∙ ap (λ (y : B). least_from number before y rest) (sym e));
          highest = s.highest ∙ (ap (greatest_from number before g) next ∙ ap (λ (y : B). greatest_from number before y rest) (sym f));
        }

    pub stops : good (get_or xs i d) ≡ false → all_pass good xs ≡ false
    stops = tested false

  pub ends : {l g : B} {i : ℕ} → Passing l g i → length xs ≤ i → Passed l g
  unfolding least_from all_pass
  ends {l} {g} s h =
      let none = drop_of_length-le xs h in
      record {
        all = s.passed ∙ ap (all_pass good) none;
        least = sym (s.lowest ∙ ap (least_from number before l) none);
        greatest = sym (s.highest ∙ ap (greatest_from number before g) none);
      }
