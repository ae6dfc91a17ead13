-- The time of day of a second: its minute and its second of the minute.
use mathlib.Core.Path.{◌≡◌, refl, sym, ◌∙◌}
use mathlib.Core.Bool.{Bool, true, false, ◌&&◌, ◌||◌}
use Prim.Native.Nat.{ℕ, ◌+◌, ◌-◌, ◌*◌, ◌/◌, ◌%◌, ◌<◌, ◌≤◌}
use native.Mathlib.Omega.{arith}
use lib.Dec.{ltb, eqb}
use borrow.Author.Tests.{lt-ltb, le-ltb, ltb-true, ltb-false}
use Rattle.signed.proofs.Tests.{test_is}
use Rattle.signed.proofs.Lexicographic.{lexicographic}
use Rattle.tt2000.specs.Tt2000.{minute_of}

-- second q of a day, up to 86,400
pub record Clock (q : ℕ) : Type 0 where
  pub minute_small : minute_of q < 1440
  pub begun : minute_of q * 60 ≤ q
  pub second_small : q - minute_of q * 60 ≤ 60
  -- of which second 60 is the last
  pub last : q - minute_of q * 60 ≡ 60 → (q ≡ 86400) × (minute_of q ≡ 1439)

pub clock : (q : ℕ) → q ≤ 86400 → Clock q
clock q h = go (ltb q 86400) refl
  where
    go : (t : Bool) → ltb q 86400 ≡ t → Clock q
    go true e =
        let g = ltb-true q 86400 e in
        let m : minute_of q ≡ q / 60 = rw e in
        record { minute_small = omega arith; begun = omega arith; second_small = omega arith; last = λ f. absurd (omega arith) }
    go false e =
        let g = ltb-false q 86400 e in
        let m : minute_of q ≡ 1439 = rw e in
        record { minute_small = omega arith; begun = omega arith; second_small = omega arith; last = λ f. (omega arith, m) }

-- ---- the order of times of day, field by field

-- the second of the minute, and hour, minute and second as digits: second 60 is one
abbrev second_of : ℕ → ℕ
second_of q = q - minute_of q * 60

abbrev digits : ℕ → ℕ → ℕ
digits q n = minute_of q / 60 * 3660000000000 + (minute_of q % 60 * 61000000000 + (second_of q * 1000000000 + n))

-- by the minute, which is q / 60 or the last
abbrev place : ℕ → ℕ → Bool → ℕ
place q n true = q / 60 * 61000000000 + (q % 60 * 1000000000 + n)
place q n false = 1439 * 61000000000 + (60 * 1000000000 + n)

digits_are : (q n : ℕ) (t : Bool) → q ≤ 86400 → ltb q 86400 ≡ t → digits q n ≡ place q n t
digits_are q n true h e = let m : minute_of q ≡ q / 60 = rw e in omega arith
digits_are q n false h e =
    let m : minute_of q ≡ 1439 = rw e in
    let k : q ≡ 86400 = omega (arith, ltb-false q 86400 e) in
    omega arith

module _ (q n q' n' : ℕ) (h : q ≤ 86400) (h' : q' ≤ 86400) (small : n < 1000000000) (small' : n' < 1000000000) where
  abbrev a : ℕ
  a = q * 1000000000 + n

  abbrev b : ℕ
  b = q' * 1000000000 + n'

  digits_order : ltb (digits q n) (digits q' n') ≡ ltb a b
  digits_order = go (ltb q 86400) (ltb q' 86400) refl refl
    where
      go : (t t' : Bool) → ltb q 86400 ≡ t → ltb q' 86400 ≡ t' → ltb (digits q n) (digits q' n') ≡ ltb a b
      go true true e e' =
          let x = digits_are q n true h e in
          let y = digits_are q' n' true h' e' in
          test_is (ltb (digits q n) (digits q' n')) (ltb a b) (λ f. lt-ltb a b (omega (arith, ltb-true (digits q n) (digits q' n') f))) (λ f. le-ltb a b (omega (arith, ltb-false (digits q n) (digits q' n') f)))
      go true false e e' =
          let x = digits_are q n true h e in
          let y = digits_are q' n' false h' e' in
          lt-ltb (digits q n) (digits q' n') (omega (arith, ltb-true q 86400 e)) ∙ sym (lt-ltb a b (omega (arith, ltb-true q 86400 e, ltb-false q' 86400 e')))
      go false true e e' =
          let x = digits_are q n false h e in
          let y = digits_are q' n' true h' e' in
          le-ltb (digits q n) (digits q' n') (omega (arith, ltb-true q' 86400 e')) ∙ sym (le-ltb a b (omega (arith, ltb-false q 86400 e, ltb-true q' 86400 e')))
      go false false e e' =
          let x = digits_are q n false h e in
          let y = digits_are q' n' false h' e' in
          test_is (ltb (digits q n) (digits q' n')) (ltb a b) (λ f. lt-ltb a b (omega (arith, ltb-true (digits q n) (digits q' n') f, ltb-false q 86400 e, ltb-false q' 86400 e'))) (λ f. le-ltb a b (omega (arith, ltb-false (digits q n) (digits q' n') f, ltb-false q 86400 e, ltb-false q' 86400 e')))

  pub clock_order : (ltb (minute_of q / 60) (minute_of q' / 60) || (eqb (minute_of q / 60) (minute_of q' / 60) && (ltb (minute_of q % 60) (minute_of q' % 60) || (eqb (minute_of q % 60) (minute_of q' % 60) && (ltb (q - minute_of q * 60) (q' - minute_of q' * 60) || (eqb (q - minute_of q * 60) (q' - minute_of q' * 60) && ltb n n')))))) ≡ ltb (q * 1000000000 + n) (q' * 1000000000 + n')
  clock_order =
      let low = (clock q h).second_small in
      let low' = (clock q' h').second_small in
      let c = minute_of q / 60 in
      let c' = minute_of q' / 60 in
      let m = minute_of q % 60 in
      let m' = minute_of q' % 60 in
      let last = lexicographic 1000000000 (second_of q) n (second_of q') n' small small' in
      let middle = lexicographic 61000000000 m (second_of q * 1000000000 + n) m' (second_of q' * 1000000000 + n') (omega arith) (omega arith) in
      let first = lexicographic 3660000000000 c (m * 61000000000 + (second_of q * 1000000000 + n)) c' (m' * 61000000000 + (second_of q' * 1000000000 + n')) (omega arith) (omega arith) in
      (λ i. ltb c c' || (eqb c c' && (ltb m m' || (eqb m m' && sym last i))))
      ∙ ((λ i. ltb c c' || (eqb c c' && sym middle i)) ∙ (sym first ∙ digits_order))
