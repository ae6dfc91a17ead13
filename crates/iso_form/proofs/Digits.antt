-- The digits of a number, from its last up: they are decimal digits, and read as that number again.
use Prim.Native.Nat.{ℕ, zero, suc, ◌+◌, ◌-◌, ◌*◌, ◌/◌, ◌%◌, ◌^◌, ◌≤◌, ◌<◌}
use native.Mathlib.Omega.{arith}
use native.Mathlib.Nat.{pow-suc, div-one, div-div-eq-div-mul}
use mathlib.Core.Path.{◌≡◌, refl, sym, ap, subst, ◌∙◌}
use mathlib.Core.Bool.{true}
use mathlib.Core.List.{List, [], ◌∷◌, ◌++◌}
use mathlib.Core.Option.{some}
use lib.ListN.{length, length-append}
use borrow.Author.Tests.{le-leb}
use Rattle.grammar.specs.Grammar.{inside, within, every, Derives}
use Rattle.grammar.specs.Rules.{digit, decimal, number}
use Rattle.grammar.proofs.Classes.{every_append, starts_every}
use Rattle.date_text.specs.DateRule.{fraction}
use Rattle.iso_form.specs.Form.{two_digits, four_digits, six_digits}

-- the last k digits of n
abbrev pub places : ℕ → ℕ → List ℕ
places zero n = []
places (suc k) n = places k (n / 10) ++ ((n % 10 + 48) ∷ [])

two_places : (n : ℕ) → two_digits n ≡ places 2 n
two_places n = rw (div-one n)

four_places : (n : ℕ) → four_digits n ≡ places 4 n
four_places n = rw (div-one n, div-div-eq-div-mul n 10 10, div-div-eq-div-mul n 100 10)

six_places : (n : ℕ) → six_digits n ≡ places 6 n
six_places n = rw (div-one n, div-div-eq-div-mul n 10 10, div-div-eq-div-mul n 100 10, div-div-eq-div-mul n 1000 10, div-div-eq-div-mul n 10000 10)

decimal_last : (m b : ℕ) (s : List ℕ) → decimal m (s ++ b ∷ []) ≡ decimal m s * 10 + (b - 48)
decimal_last m b [] = refl
decimal_last m b (a ∷ s) = decimal_last (m * 10 + (a - 48)) b s

pub places_decimal : (k n : ℕ) → n < 10 ^ k → decimal 0 (places k n) ≡ n
places_decimal zero n h = omega arith
places_decimal (suc k) n h =
    let p = pow-suc 10 k in
    let e = places_decimal k (n / 10) (omega arith) in
    decimal_last 0 (n % 10 + 48) (places k (n / 10)) ∙ rw e (omega arith)

places_every : (k n : ℕ) → every digit (places k n) ≡ true
unfolding every within inside
places_every zero n = refl
places_every (suc k) n =
    every_append digit (places k (n / 10)) ((n % 10 + 48) ∷ []) (places_every k (n / 10))
    (rw (le-leb 48 (n % 10 + 48) (omega arith), le-leb (n % 10 + 48) 57 (omega arith)))

places_length : (k n : ℕ) → length (places k n) ≡ k
places_length zero n = refl
places_length (suc k) n = omega (arith, length-append (places k (n / 10)) ((n % 10 + 48) ∷ []), places_length k (n / 10))

-- a number of at most k digits is what its last k digits are derived with
module _ (k n : ℕ) (l : 1 ≤ k) (h : n < 10 ^ k) where
  number_written_lem : Derives (number k) (places k n) n
  unfolding Derives
  number_written_lem =
      let s = places_length k n in
      (starts_every digit (places k n) (omega arith) (places_every k n), places_every k n, rw (le-leb (length (places k n)) k (omega arith)) (ap some (places_decimal k n h)))

pub two_written : (n : ℕ) → n ≤ 99 → Derives (number 2) (two_digits n) n
two_written n h = rw (two_places n) (number_written_lem 2 n (omega arith) (omega arith))

pub four_written : (n : ℕ) → n ≤ 9999 → Derives (number 4) (four_digits n) n
four_written n h = rw (four_places n) (number_written_lem 4 n (omega arith) (omega arith))

pub six_written : (n : ℕ) → n ≤ 999999 → Derives fraction (six_digits n) n
unfolding Derives
six_written n h =
    let e : decimal 0 (places 6 n) * 1 ≡ n = rw (places_decimal 6 n (omega arith)) (omega arith) in
    subst (λ (s : List ℕ). Derives fraction s n) (sym (six_places n))
    ((number_written_lem 6 n (omega arith) (omega arith)).0, places_every 6 n, ap some e)
