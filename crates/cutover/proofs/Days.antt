-- The days from 1582-10-15 to a cutover: the search finds those that lead to it, and the test of a date is the test of its days.
use Rattle.std.specs.Prelude.{Ok, Err, Some, None}
use mathlib.Core.Path.{◌≡◌, refl, sym, ap, subst, ◌∙◌}
use mathlib.Core.Bool.{Bool, true, false, not, ◌&&◌, cond, true≢false}
use Prim.Native.Nat.{ℕ, zero, suc, ◌+◌, ◌-◌, ◌<◌, ◌≤◌}
use native.Mathlib.Omega.{arith}
use native.Mathlib.Decide.{dec_le}
use lib.IntN.{ℤ}
use mir.Syntax.{w64}
use mir.Val.{SFits}
use mir.ValLaws.{to_z-of_z}
use borrow.Author.Tests.{le-ltb, lt-ltb}
use Rattle.refusal.specs.declared.Refusal.TheVariants.{CutoverNotAllowed}
use Rattle.signed.specs.Bias.{unbiased}
use Rattle.signed.proofs.Tests.{both, and_parts, to_false}
use Rattle.signed.proofs.Differences.{same_diff, sub_inj}
use Rattle.signed.proofs.Machine.{read}
use Rattle.calendar.specs.Plain.{times, day_after, has_day}
use Rattle.calendar.specs.Calendar.{date, date_of, exists, in_years}
use Rattle.calendar.specs.Closed.{year_start, row_epoch}
use Rattle.calendar.specs.declared.Calendar.TheVariants.{Standard, ProlepticGregorian}
use Rattle.calendar.specs.Cutover.{gregorian, first_cutover, cutover_after, allowed_after, days_to, cutover_days, allowed}
use Rattle.calendar.specs.Order.{earlier, same_date}
use Rattle.calendar.specs.declared.Date.{Date}
use Rattle.calendar.proofs.Ordered.{Before, not_before, not_earlier, same_of, same_self, not_same}
use Rattle.calendar.proofs.Days.{day_date, day_exists, day_next, day_rises, day_below}
use Rattle.calendar.proofs.Cutovers.{first_1582, cutover_is, allowed_test, allowed_most, used}
use Rattle.calendar.proofs.Answering.{years_middle}
use Rattle.calendar.proofs.Theorems.{cutover_date, dates_exist, one_day}
use Rattle.cutover.specs.Calendars.{standard_with}
use Rattle.cutover.specs.Closed.{allowed_days, standard_of}

-- the search from day a finds the day m of x, if m lies within n days
days_to_lem : (x : Date) (n a m : ℕ) → a ≤ m → m < a + n → day_date gregorian m ≡ x → days_to x n (day_date gregorian a) ≡ m - a
unfolding days_to
days_to_lem x zero a m h g e = absurd (omega arith)
days_to_lem x (suc n) a m h g e =
    elim (dec_le (suc a) m) [
      | yes l ↦
          let other : same_date (day_date gregorian a) x ≡ false = not_same (day_date gregorian a) x (λ u. not_before x (subst (λ (d : Date). Before d x) u (subst (Before (day_date gregorian a)) e (day_rises gregorian a m l)))) in
          ap (λ (t : Bool). cond t 0 (suc (days_to x n (day_after gregorian (day_date gregorian a))))) other
          ∙ (ap (λ (d : Date). suc (days_to x n d)) (day_next gregorian a) ∙ (ap suc (days_to_lem x n (suc a) m l (omega arith) e) ∙ omega arith))
      | no l ↦
          let here : same_date (day_date gregorian a) x ≡ true = ap (λ (d : Date). same_date d x) (ap (day_date gregorian) (omega arith) ∙ e) ∙ same_self x in
          ap (λ (t : Bool). cond t 0 (suc (days_to x n (day_after gregorian (day_date gregorian a))))) here ∙ omega arith
    ]

-- what it finds within n days leads to x
days_found : (x : Date) (n a : ℕ) → days_to x n (day_date gregorian a) < n → day_date gregorian (a + days_to x n (day_date gregorian a)) ≡ x
unfolding days_to
days_found x zero a h = absurd (omega arith)
days_found x (suc n) a h = go (days_found x n (suc a)) (same_date (day_date gregorian a) x) refl h
  where
    rest : ℕ
    rest = days_to x n (day_after gregorian (day_date gregorian a))

    go : (days_to x n (day_date gregorian (suc a)) < n → day_date gregorian (suc a + days_to x n (day_date gregorian (suc a))) ≡ x) → (t : Bool) → same_date (day_date gregorian a) x ≡ t → cond t 0 (suc rest) < suc n → day_date gregorian (a + cond t 0 (suc rest)) ≡ x
    go f true e l = ap (day_date gregorian) (omega arith) ∙ same_of (day_date gregorian a) x e
    go f false e l =
        let k = ap (days_to x n) (day_next gregorian a) in
        ap (day_date gregorian) (omega (arith, k)) ∙ f (omega (arith, k))

pub days_back_lem : (k : ℕ) → k ≤ 124624 → cutover_days (cutover_after k) ≡ k
unfolding cutover_days
days_back_lem k h =
    ap (days_to (cutover_after k) 150000) (sym first_1582)
    ∙ (days_to_lem (cutover_after k) 150000 4230526 (4230526 + k) (omega arith) (omega arith) (sym (cutover_is k)) ∙ omega arith)

-- the cutover after k days is allowed where its days are
pub allowed_after_lem : (k : ℕ) → k ≤ 124624 → allowed (cutover_after k) ≡ allowed_after k
unfolding allowed
allowed_after_lem k h =
    let x = cutover_after k in
    let there : has_day gregorian x ≡ true = ap (has_day gregorian) (cutover_is k) ∙ day_exists gregorian (4230526 + k) in
    let late : earlier x first_cutover ≡ false = not_earlier x first_cutover (λ b. omega (arith, day_below gregorian (4230526 + k) 4230526 (subst (Before (day_date gregorian (4230526 + k))) (sym first_1582) (subst (λ (d : Date). Before d first_cutover) (cutover_is k) b)))) in
    rw (there, late, days_back_lem k h)

-- a date that is allowed is the cutover after so many days
pub record IsCutover (x : Date) : Type 0 where
  pub most : cutover_days x ≤ 124624
  pub is : cutover_after (cutover_days x) ≡ x
  pub after : allowed_after (cutover_days x) ≡ true

found : (x : Date) → cutover_days x ≤ 124624 → cutover_after (cutover_days x) ≡ x
unfolding cutover_days
found x m =
    let e = ap (days_to x 150000) first_1582 in
    cutover_is (cutover_days x) ∙ (ap (λ (j : ℕ). day_date gregorian (4230526 + j)) (sym e) ∙ days_found x 150000 4230526 (omega (arith, e)))

pub is_cutover : (x : Date) → allowed x ≡ true → IsCutover x
unfolding allowed
is_cutover x h =
    let w = (and_parts (has_day gregorian x) (not (earlier x first_cutover) && allowed_after (cutover_days x)) h).1 in
    let after = (and_parts (not (earlier x first_cutover)) (allowed_after (cutover_days x)) w).1 in
    let most = allowed_most (cutover_days x) after in
    record { most = most; is = found x most; after = after }

-- ---- cutovers by their day number in `proleptic_gregorian`: the cutover after k days has the number k - 141427

abbrev gregorian_day : ℕ → ℤ
gregorian_day k = unbiased (9223372036854634381 + k)

gregorian_date : (k : ℕ) → date_of ProlepticGregorian (gregorian_day k) ≡ cutover_after k
unfolding row_epoch year_start
gregorian_date k =
    let e : 9223372036854634381 + k + 4371953 ≡ 4230526 + k + 9223372036854775808 = omega arith in
    ap (date_of ProlepticGregorian) (same_diff (9223372036854634381 + k) 9223372036854775808 (4230526 + k) 4371953 e) ∙ cutover_date k

-- a date that is not found is not allowed
pub not_found : (x : Date) → (in_years x.year && exists ProlepticGregorian x) ≡ false → allowed x ≡ false
not_found x h = to_false (allowed x) (λ a.
    let w = is_cutover x a in
    let k = cutover_days x in
    let e : date_of ProlepticGregorian (gregorian_day k) ≡ x = gregorian_date k ∙ w.is in
    let y : in_years x.year ≡ true = ap (λ (d : Date). in_years d.year) (sym e) ∙ years_middle ProlepticGregorian (9223372036854634381 + k) (omega arith) (omega (arith, w.most)) in
    let t : exists ProlepticGregorian x ≡ true = ap (exists ProlepticGregorian) (sym e) ∙ dates_exist ProlepticGregorian (gregorian_day k) in
    true≢false (sym (both (in_years x.year) (exists ProlepticGregorian x) y t) ∙ h))

-- the date with the number n - 2^63
module _ (x : Date) (n : ℕ) (e : date_of ProlepticGregorian (unbiased n) ≡ x) where
  -- is allowed only between the first cutover and the last
  pub number_of : allowed x ≡ true → n ≡ 9223372036854634381 + cutover_days x
  number_of a =
      let k = cutover_days x in
      sub_inj n (9223372036854634381 + k) 9223372036854775808 (one_day ProlepticGregorian (unbiased n) (gregorian_day k) (e ∙ sym (gregorian_date k ∙ (is_cutover x a).is)))

  pub before_first : n < 9223372036854634381 → allowed x ≡ false
  before_first h = to_false (allowed x) (λ a. omega (arith, number_of a))

  pub after_last : 9223372036854759005 < n → allowed x ≡ false
  after_last h = to_false (allowed x) (λ a. omega (arith, number_of a, (is_cutover x a).most))

  -- and there where its days are
  module _ (low : 9223372036854634381 ≤ n) (high : n - 9223372036854634381 ≤ 124624) where
    abbrev k : ℕ
    k = n - 9223372036854634381

    is : x ≡ cutover_after k
    is = let m : n ≡ 9223372036854634381 + k = omega arith in sym e ∙ (ap (λ (j : ℕ). date_of ProlepticGregorian (unbiased j)) m ∙ gregorian_date k)

    pub test_of : allowed x ≡ allowed_after k
    test_of = ap allowed is ∙ allowed_after_lem k high

    pub days_are : cutover_days x ≡ k
    days_are = ap cutover_days is ∙ days_back_lem k high

-- 1582-10-15 is allowed, after 0 days
pub first_with : standard_with first_cutover ≡ Ok (Standard 0)
unfolding standard_with cutover_after times
first_with =
    let a : allowed_after 0 ≡ true = sym (allowed_test 0 (omega arith)) ∙ lt-ltb _ _ (used 0).fits in
    λ i. cond ((allowed_after_lem 0 (omega arith) ∙ a) i) (Ok (Standard (days_back_lem 0 (omega arith) i))) (Err CutoverNotAllowed)

-- by its days, or by more
pub with_days : (x : Date) → standard_of (allowed_days x) ≡ standard_with x
unfolding standard_with allowed_days
with_days x = go (allowed x) refl
  where
    go : (t : Bool) → allowed x ≡ t → standard_of (cond t (Some (cutover_days x)) None) ≡ cond t (Ok (Standard (cutover_days x))) (Err CutoverNotAllowed)
    go true h = rw (le-ltb 124624 (cutover_days x) (is_cutover x h).most)
    go false h = refl

-- with the fields of the date handed over one by one
pub with_fields : (x : Date) → SFits w64 x.year → standard_of (allowed_days (date (read x.year) x.month x.day)) ≡ standard_with x
with_fields x fits = ap (λ (y : ℤ). standard_of (allowed_days (date y x.month x.day))) (to_z-of_z w64 x.year fits) ∙ with_days x
