-- What the functions compute, from the counts of months.
use Rattle.std.specs.Prelude.{Some, None}
use mathlib.Core.Path.{◌≡◌, refl, sym, ap, ◌∙◌}
use mathlib.Core.Bool.{Bool, true, false, ◌&&◌, true≢false}
use Prim.Native.Nat.{ℕ, ◌+◌, ◌-◌, ◌*◌, ◌/◌, ◌<◌, ◌≤◌}
use native.Mathlib.Decide.{dec_lt}
use native.Mathlib.Omega.{arith}
use lib.Dec.{leb, ltb}
use lib.IntN.{ℤ, sub_ℕ}
use borrow.Author.Tests.{le-leb, lt-leb, leb-true, leb-false, lt-ltb, le-ltb, ltb-true}
use Rattle.signed.specs.Bias.{unbiased}
use Rattle.signed.proofs.Tests.{test_is, both, and_parts, left_out, right_out}
use Rattle.signed.proofs.Differences.{same_diff}
use Rattle.calendar.specs.Calendar.{has_year_zero, in_years}
use Rattle.calendar.specs.Closed.{year_at}
use Rattle.calendar.specs.declared.Calendar.{Calendar}
use Rattle.calendar.specs.declared.Date.{Date}
use Rattle.calendar.proofs.Existing.{date_eq, valid_of}
use Rattle.calendar.proofs.Labels.{first_year, first_low, year_in}
use Rattle.step.specs.Answers.{steps_between}
use Rattle.step.specs.Closed.{month_at, month_count, months_of, YearOf}
use Rattle.step.specs.Steps.{YearMonth, year_month, year_month_of, month_reached, down_to, steps_down, date_down, date_after, days_back}
use Rattle.step.specs.declared.Part.{Part}
use Rattle.step.proofs.Counts.{months_at, months_below, month_is}
use Rattle.step.proofs.Existing.{month_kept}
use Rattle.step.proofs.Order.{dates_rise}
use Rattle.step.proofs.Searching.{found_none, found_at}
use Rattle.step.proofs.Steps.{one_number}

-- ---- months as numbers

-- n - b steps from one month of the years to another are fewer than 240000
pub steps_few : (part : Part) (n b i j : ℕ) → i < 240000 → j < 240000 → j + b * months_of part ≡ i + n * months_of part → (b < n + 240000) × (n < b + 240000)
steps_few Part.Month n b i j p q e = (omega arith, omega arith)
steps_few Part.Year n b i j p q e = (omega arith, omega arith)

-- 240000 steps or more, biased by 2^63, lead out of the months
pub far_below : (part : Part) (i k : ℕ) → i < 240000 → k < 9223372036854535808 → i + k * months_of part < 9223372036854775808 * months_of part
far_below Part.Month i k p q = omega arith
far_below Part.Year i k p q = omega arith

pub far_above : (part : Part) (i k : ℕ) → 9223372036855015808 ≤ k → 9223372036854775808 * months_of part + 240000 ≤ i + k * months_of part
far_above Part.Month i k p = omega arith
far_above Part.Year i k p = omega arith

-- a number raised by 240000
pub raised_is : (k : ℕ) → 9223372036854535808 ≤ k → sub_ℕ (k - 9223372036854535808) 240000 ≡ unbiased k
raised_is k h = same_diff (k - 9223372036854535808) 240000 k 9223372036854775808 (omega arith)

-- the months of the years -9999 to 9999
month_in_lem : (z : Bool) (j : ℕ) → in_years (year_at z (j / 12)) ≡ (leb (12 * first_year z) j && ltb j 240000)
month_in_lem z j =
    let low : leb (first_year z) (j / 12) ≡ leb (12 * first_year z) j = test_is (leb (first_year z) (j / 12)) (leb (12 * first_year z) j) (λ e. le-leb (12 * first_year z) j (omega (arith, leb-true (first_year z) (j / 12) e))) (λ e. lt-leb (12 * first_year z) j (omega (arith, leb-false (first_year z) (j / 12) e))) in
    let high : leb (j / 12) 19999 ≡ ltb j 240000 = test_is (leb (j / 12) 19999) (ltb j 240000) (λ e. lt-ltb j 240000 (omega (arith, leb-true (j / 12) 19999 e))) (λ e. le-ltb j 240000 (omega (arith, leb-false (j / 12) 19999 e))) in
    year_in z (j / 12) ∙ (λ k. low k && high k)

-- ---- a date x of year y

module _ (c : Calendar) (x : Date) (y : ℕ) (g : YearOf c x y) where
  pub year_inside : (1 ≤ y) × (y < 20000)
  year_inside =
      let z = has_year_zero c in
      let w = and_parts (leb (first_year z) y) (leb y 19999) (sym (year_in z y) ∙ (ap in_years g.is ∙ g.date.inside)) in
      (omega (arith, first_low z, leb-true (first_year z) y w.0), omega (arith, leb-true y 19999 w.1))

  pub month_inside : (y < 20000) × ((1 ≤ x.month) × (x.month ≤ 12))
  month_inside = let v = valid_of c x g.date.there in (year_inside.1, (v.month_low, v.month_high))

  pub count_small : month_count y x.month < 240000
  count_small = omega (arith, month_inside)

  pub month_counted : month_at c (month_count y x.month) ≡ year_month_of x
  month_counted = month_is c y x.month month_inside.1.0 month_inside.1.1 ∙ ap (λ (u : ℤ). year_month u x.month) g.is

  -- the date n - b steps after it
  module _ (part : Part) (n b : ℕ) where
    year_below : month_count y x.month + n * months_of part < b * months_of part → in_years (date_after part c (sub_ℕ n b) x).year ≡ false
    unfolding date_after
    year_below h = ap (λ (p : YearMonth). in_years (month_reached part c (sub_ℕ n b) p).year) (sym month_counted) ∙ months_below c part n b (month_count y x.month) h

    module _ (j : ℕ) (e : j + b * months_of part ≡ month_count y x.month + n * months_of part) where
      month_at_lem : month_at c j ≡ month_reached part c (sub_ℕ n b) (year_month_of x)
      month_at_lem = sym (months_at c part n b (month_count y x.month) j e) ∙ ap (month_reached part c (sub_ℕ n b)) month_counted

      pub date_at_lem : date_down c (month_at c j) x.day ≡ date_after part c (sub_ℕ n b) x
      unfolding date_after
      date_at_lem = ap (λ (p : YearMonth). date_down c p x.day) month_at_lem

      pub back_at : steps_down c (month_at c j).year (month_at c j).month x.day ≡ days_back part c (sub_ℕ n b) x
      unfolding days_back
      back_at = ap (λ (p : YearMonth). steps_down c p.year p.month x.day) month_at_lem

      year_at_lem : in_years (date_after part c (sub_ℕ n b) x).year ≡ (leb (12 * first_year (has_year_zero c)) j && ltb j 240000)
      year_at_lem = ap (λ (d : Date). in_years d.year) (sym date_at_lem) ∙ month_in_lem (has_year_zero c) j

    -- the tests of its month against the first and the last of the years
    pub year_before_lem : month_count y x.month + n * months_of part < b * months_of part + 12 * first_year (has_year_zero c) → in_years (date_after part c (sub_ℕ n b) x).year ≡ false
    year_before_lem h =
        let j = month_count y x.month + n * months_of part - b * months_of part in
        elim (dec_lt (month_count y x.month + n * months_of part) (b * months_of part)) [
          | yes e ↦ year_below e
          | no e ↦ year_at_lem j (omega arith) ∙ left_out (leb (12 * first_year (has_year_zero c)) j) (ltb j 240000) (lt-leb (12 * first_year (has_year_zero c)) j (omega arith))
        ]

    pub year_past : b * months_of part + 240000 ≤ month_count y x.month + n * months_of part → in_years (date_after part c (sub_ℕ n b) x).year ≡ false
    year_past h =
        let j = month_count y x.month + n * months_of part - b * months_of part in
        year_at_lem j (omega arith) ∙ right_out (leb (12 * first_year (has_year_zero c)) j) (ltb j 240000) (le-ltb j 240000 (omega arith))

    pub year_between : b * months_of part + 12 * first_year (has_year_zero c) ≤ month_count y x.month + n * months_of part → month_count y x.month + n * months_of part < b * months_of part + 240000 → in_years (date_after part c (sub_ℕ n b) x).year ≡ true
    year_between h g =
        let j = month_count y x.month + n * months_of part - b * months_of part in
        year_at_lem j (omega arith) ∙ both (leb (12 * first_year (has_year_zero c)) j) (ltb j 240000) (le-leb (12 * first_year (has_year_zero c)) j (omega arith)) (lt-ltb j 240000 (omega arith))

    -- where it is known to lie in the years
    pub record Inside : Type 0 where
      pub from : b * months_of part + 12 ≤ month_count y x.month + n * months_of part
      pub to : month_count y x.month + n * months_of part - b * months_of part < 240000
      pub few : (b < n + 240000) × (n < b + 240000)

    pub inside : in_years (date_after part c (sub_ℕ n b) x).year ≡ true → Inside
    inside h =
        let i = month_count y x.month in
        let j = i + n * months_of part - b * months_of part in
        let l : b * months_of part ≤ i + n * months_of part = elim (dec_lt (i + n * months_of part) (b * months_of part)) [ yes e ↦ absurd (true≢false (sym h ∙ year_below e)) | no e ↦ omega arith ] in
        let e : j + b * months_of part ≡ i + n * months_of part = omega arith in
        let z = has_year_zero c in
        let w = and_parts (leb (12 * first_year z) j) (ltb j 240000) (sym (year_at_lem j e) ∙ h) in
        let t = ltb-true j 240000 w.1 in
        record { from = omega (arith, first_low z, leb-true (12 * first_year z) j w.0, e); to = t; few = steps_few part n b i j count_small t e }

-- ---- the number of steps from x to d

module _ (part : Part) (c : Calendar) (x d : Date) where
  pub none : ((n : ℤ) → date_after part c n x ≡ d → ⊥) → None ≡ steps_between part c x d
  unfolding steps_between
  none f = sym (found_none (λ (z : ℤ). date_after part c z x) d f)

  pub found : (n b : ℕ) → b < n + 240000 → n < b + 240000 → date_after part c (sub_ℕ n b) x ≡ d → Some (sub_ℕ n b) ≡ steps_between part c x d
  unfolding steps_between
  found n b p q e =
      let s : sub_ℕ (n + 240000 - b) 240000 ≡ sub_ℕ n b = same_diff (n + 240000 - b) 240000 n b (omega arith) in
      let F : ℤ → Date = λ z. date_after part c z x in
      sym (found_at F d (one_number F (dates_rise c part x)) (n + 240000 - b) (omega arith) (ap F s ∙ e) ∙ ap Some s)

  -- no number leads to another day of the month of d than the one that is kept, nor steps by years to another month
  pub other_day : (down_to c d.year d.month x.day ≡ d.day → ⊥) → (n : ℤ) → date_after part c n x ≡ d → ⊥
  unfolding date_after
  other_day f n e = f (sym (λ i. down_to c (e i).year (e i).month x.day) ∙ ap (λ (u : Date). u.day) e)

  pub other_month : part ≡ Part.Year → (d.month ≡ x.month → ⊥) → (n : ℤ) → date_after part c n x ≡ d → ⊥
  unfolding date_after
  other_month y f n e = f (sym (ap (λ (u : Date). u.month) e) ∙ (ap (λ (p : Part). (month_reached p c n (year_month_of x)).month) y ∙ month_kept c n (year_month_of x)))

  module _ (y w : ℕ) (g : YearOf c x y) (h : YearOf c d w) where
    pub found_between : (n b : ℕ) → month_count w d.month + b * months_of part ≡ month_count y x.month + n * months_of part → down_to c d.year d.month x.day ≡ d.day → Some (sub_ℕ n b) ≡ steps_between part c x d
    found_between n b e k =
        let l = steps_few part n b (month_count y x.month) (month_count w d.month) (count_small c x y g) (count_small c d w h) e in
        found n b l.0 l.1 (sym (date_at_lem c x y g part n b (month_count w d.month) e) ∙ (ap (λ (p : YearMonth). date_down c p x.day) (month_counted c d w h) ∙ date_eq refl refl k))
