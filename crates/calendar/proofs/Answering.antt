-- The answers, from tests on a day number with its bias of 2^63.
use Rattle.std.specs.Prelude.{Result, Ok, Err}
use mathlib.Core.Path.{◌≡◌, refl, sym, ap, ◌∙◌}
use mathlib.Core.Bool.{Bool, true, false, ◌&&◌, cond}
use Prim.Native.Nat.{ℕ, ◌+◌, ◌-◌, ◌<◌, ◌≤◌}
use native.Mathlib.Omega.{arith}
use lib.Dec.{leb, ltb}
use lib.IntN.{ℤ, sub_ℕ}
use lib.Signed.{le_z}
use borrow.Author.Tests.{le-leb, lt-leb, leb-true, leb-false, ltb-true, ltb-false}
use Rattle.refusal.specs.declared.Refusal.TheVariants.{ImpossibleField, OutOfRange, MissingDate, DroppedDate}
use Rattle.signed.specs.Bias.{unbiased}
use Rattle.signed.proofs.Tests.{test_is, both, and_parts, left_out, right_out}
use Rattle.signed.proofs.Differences.{sub_le, same_diff}
use Rattle.calendar.specs.Calendar.{date_of, in_years, exists, dropped}
use Rattle.calendar.specs.Answers.{date_answer, is_possible, fault_with, refusal_with, day_number, day_with, day_answer}
use Rattle.calendar.specs.Closed.{epoch_day, first_day, end_day}
use Rattle.calendar.specs.declared.Calendar.{Calendar}
use Rattle.calendar.specs.declared.Date.{Date}
use Rattle.calendar.proofs.Range.{range, small, wide, low_day, high_day}
use Rattle.calendar.proofs.Existing.{exists_possible}
use Rattle.calendar.proofs.Numbering.{number_is}
use Rattle.refusal.specs.declared.Refusal.{Refusal}

module _ (c : Calendar) where
  pub out_of_range : (z : ℤ) → in_years (date_of c z).year ≡ false → Err OutOfRange ≡ date_answer c z
  unfolding date_answer
  out_of_range z h = ap (λ (t : Bool). cond t (Ok (date_of c z)) (Err OutOfRange)) (sym h)

  pub in_range_lem : (z : ℤ) → in_years (date_of c z).year ≡ true → Ok (date_of c z) ≡ date_answer c z
  unfolding date_answer
  in_range_lem z h = ap (λ (t : Bool). cond t (Ok (date_of c z)) (Err OutOfRange)) (sym h)

  -- the range of a raised day number
  range_biased : (k : ℕ) → in_years (date_of c (unbiased k)).year ≡ (leb (first_day c + (9223372036854775808 - epoch_day c)) k && leb k (end_day c - 1 + (9223372036854775808 - epoch_day c)))
  range_biased k =
      let o = 9223372036854775808 - epoch_day c in
      let low : low_day c ≡ unbiased (first_day c + o) = same_diff (first_day c) (epoch_day c) (first_day c + o) 9223372036854775808 (omega (arith, small c)) in
      let high : high_day c ≡ unbiased (end_day c - 1 + o) = same_diff (end_day c - 1) (epoch_day c) (end_day c - 1 + o) 9223372036854775808 (omega (arith, small c)) in
      range c (unbiased k) ∙ ((λ i. le_z (low i) (unbiased k) && le_z (unbiased k) (high i)) ∙ (λ i. sub_le (first_day c + o) k 9223372036854775808 i && sub_le k (end_day c - 1 + o) 9223372036854775808 i))

  -- the tests that the code makes: every calendar has the days from 4000000 before 1970-01-01 to 2800000 after it
  pub years_middle : (k : ℕ) → 9223372036854775808 - 4000000 ≤ k → k < 9223372036854775808 + 2800000 → in_years (date_of c (unbiased k)).year ≡ true
  years_middle k l h =
      let o = 9223372036854775808 - epoch_day c in
      range_biased k ∙ both (leb (first_day c + o) k) (leb k (end_day c - 1 + o)) (le-leb (first_day c + o) k (omega (arith, small c, wide c))) (le-leb k (end_day c - 1 + o) (omega (arith, small c, wide c)))

  -- with o for the raised day number of the first place
  module _ (k o : ℕ) (is : o ≡ 9223372036854775808 - epoch_day c) where
    pub years_early : k < 9223372036854775808 - 4000000 → leb (o + first_day c) k ≡ in_years (date_of c (unbiased k)).year
    years_early h =
        let b = 9223372036854775808 - epoch_day c in
        test_is (leb (o + first_day c) k) (in_years (date_of c (unbiased k)).year)
        (λ e. range_biased k ∙ both (leb (first_day c + b) k) (leb k (end_day c - 1 + b)) (le-leb (first_day c + b) k (omega (arith, leb-true (o + first_day c) k e))) (le-leb k (end_day c - 1 + b) (omega (arith, small c, wide c))))
        (λ e. range_biased k ∙ left_out (leb (first_day c + b) k) (leb k (end_day c - 1 + b)) (lt-leb (first_day c + b) k (omega (arith, leb-false (o + first_day c) k e))))

    pub years_late : 9223372036854775808 + 2800000 ≤ k → ltb (k - o) (end_day c) ≡ in_years (date_of c (unbiased k)).year
    years_late h =
        let b = 9223372036854775808 - epoch_day c in
        test_is (ltb (k - o) (end_day c)) (in_years (date_of c (unbiased k)).year)
        (λ e. range_biased k ∙ both (leb (first_day c + b) k) (leb k (end_day c - 1 + b)) (le-leb (first_day c + b) k (omega (arith, small c))) (le-leb k (end_day c - 1 + b) (omega (arith, small c, ltb-true (k - o) (end_day c) e))))
        (λ e. range_biased k ∙ right_out (leb (first_day c + b) k) (leb k (end_day c - 1 + b)) (lt-leb k (end_day c - 1 + b) (omega (arith, small c, ltb-false (k - o) (end_day c) e))))

    -- a day number of those years, counted from the first place
    pub years_inside : in_years (date_of c (unbiased k)).year ≡ true → (o ≤ k) × (k - o < end_day c)
    years_inside h =
        let b = 9223372036854775808 - epoch_day c in
        let w = and_parts (leb (first_day c + b) k) (leb k (end_day c - 1 + b)) (sym (range_biased k) ∙ h) in
        let l = leb-true (first_day c + b) k w.0 in
        (omega arith, omega (arith, small c, leb-true k (end_day c - 1 + b) w.1))

    pub place_is : o ≤ k → sub_ℕ (k - o) (epoch_day c) ≡ unbiased k
    place_is l = same_diff (k - o) (epoch_day c) k 9223372036854775808 (omega (arith, small c))

-- ---- why a date is refused, with what stands beside it

module _ (rest : Bool) (c : Calendar) (x : Date) where
  pub refused_past : in_years x.year ≡ false → OutOfRange ≡ refusal_with rest c x
  unfolding refusal_with
  refused_past h = rw h

  module _ (h : in_years x.year ≡ true) where
    pub refused_impossible : (rest && is_possible x.month x.day) ≡ false → ImpossibleField ≡ refusal_with rest c x
    unfolding refusal_with fault_with
    refused_impossible p = rw (h, p)

    module _ (p : (rest && is_possible x.month x.day) ≡ true) where
      pub refused_dropped : dropped c x ≡ true → DroppedDate ≡ refusal_with rest c x
      unfolding refusal_with fault_with
      refused_dropped d = rw (h, p, d)

      pub refused_missing : dropped c x ≡ false → MissingDate ≡ refusal_with rest c x
      unfolding refusal_with fault_with
      refused_missing d = rw (h, p, d)

-- ---- its day number

module _ (rest : Bool) (c : Calendar) (x : Date) where
  pub day_refused : (rest && (in_years x.year && exists c x)) ≡ false → Err (refusal_with rest c x) ≡ day_with rest c x
  unfolding day_with
  day_refused h = rw h

  pub year_out : in_years x.year ≡ false → Err OutOfRange ≡ day_with rest c x
  year_out h = ap Err (refused_past rest c x h) ∙ day_refused (right_out rest (in_years x.year && exists c x) (left_out (in_years x.year) (exists c x) h))

  pub day_given : (z : ℤ) → rest ≡ true → in_years x.year ≡ true → exists c x ≡ true → date_of c z ≡ x → Ok z ≡ day_with rest c x
  unfolding day_with
  day_given z p h g e = rw (p, h, g) (ap Ok (sym (number_is c x z h e)))

  -- one of the five
  pub data DayOutcome : Result ℤ Refusal → Type 0 where
    past : in_years x.year ≡ false → DayOutcome (Err OutOfRange)
    impossible : in_years x.year ≡ true → (rest && is_possible x.month x.day) ≡ false → DayOutcome (Err ImpossibleField)
    missing : in_years x.year ≡ true → (rest && is_possible x.month x.day) ≡ true → exists c x ≡ false → dropped c x ≡ false → DayOutcome (Err MissingDate)
    was_dropped : in_years x.year ≡ true → (rest && is_possible x.month x.day) ≡ true → exists c x ≡ false → dropped c x ≡ true → DayOutcome (Err DroppedDate)
    there : in_years x.year ≡ true → (rest && is_possible x.month x.day) ≡ true → exists c x ≡ true → DayOutcome (Ok (day_number c x))

  pub day_outcome : DayOutcome (day_with rest c x)
  unfolding day_with refusal_with fault_with
  day_outcome = go rest (in_years x.year) (exists c x) (is_possible x.month x.day) (dropped c x) refl refl refl refl refl
    where
      go : (r h e p d : Bool) → rest ≡ r → in_years x.year ≡ h → exists c x ≡ e → is_possible x.month x.day ≡ p → dropped c x ≡ d
          → DayOutcome (cond (r && (h && e)) (Ok (day_number c x)) (Err (cond h (cond (r && p) (cond d DroppedDate MissingDate) ImpossibleField) OutOfRange)))
      go true false e p d a b f g k = past b
      go false false e p d a b f g k = past b
      go false true e p d a b f g k = impossible b (left_out rest (is_possible x.month x.day) a)
      go true true true p d a b f g k = there b (both rest (is_possible x.month x.day) a (exists_possible c x f)) f
      go true true false false d a b f g k = impossible b (right_out rest (is_possible x.month x.day) g)
      go true true false true true a b f g k = was_dropped b (both rest (is_possible x.month x.day) a g) f k
      go true true false true false a b f g k = missing b (both rest (is_possible x.month x.day) a g) f k

pub date_there : (c : Calendar) (x : Date) (z : ℤ) → in_years x.year ≡ true → exists c x ≡ true → date_of c z ≡ x → Ok z ≡ day_answer c x
date_there c x z = day_given true c x z refl

-- the years -9999 to 9999, of a year with its bias of 2^63
pub year_biased : (k : ℕ) → in_years (unbiased k) ≡ (leb 9223372036854765809 k && leb k 9223372036854785807)
year_biased k = λ i. sub_le 9223372036854765809 k 9223372036854775808 i && sub_le k 9223372036854785807 9223372036854775808 i
