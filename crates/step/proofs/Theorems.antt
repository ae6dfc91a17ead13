-- What is proved of steps, in one place. `part` is the month or the year, `c` any of the six calendars; z, w and n are any integers.
use Rattle.std.specs.Prelude.{Some}
use mathlib.Core.Path.{◌≡◌, refl, sym, ap, ◌∙◌}
use mathlib.Core.Bool.{true, false}
use Prim.Native.Nat.{ℕ, ◌*◌, ◌+◌, ◌/◌, ◌%◌, ◌<◌, ◌≤◌}
use native.Mathlib.Omega.{arith}
use lib.IntN.{ℤ, pos, sub_ℕ}
use lib.Signed.{lt_z, mag}
use Rattle.signed.proofs.Differences.{common}
use Rattle.calendar.specs.Calendar.{has_year_zero, days_used, row_of, exists, date, in_years}
use Rattle.calendar.specs.Closed.{year_at}
use Rattle.calendar.specs.Cutover.{most_back}
use Rattle.calendar.specs.declared.Calendar.TheVariants.{Standard}
use Rattle.calendar.specs.declared.place.Place.{Place}
use Rattle.calendar.specs.declared.rule.Rule.{Rule}
use Rattle.calendar.specs.Order.{earlier}
use Rattle.calendar.specs.declared.Calendar.{Calendar}
use Rattle.calendar.specs.declared.Date.{Date}
use Rattle.calendar.proofs.Existing.{date_eq, valid_of, valid_year}
use Rattle.calendar.proofs.Places.{at_proper}
use Rattle.calendar.proofs.Cutovers.{kept_place, kept_label}
use Rattle.calendar.proofs.Months.{DaysBelow, last_there, past_last}
use Rattle.calendar.proofs.Theorems.{count_of}
use Rattle.step.specs.Answers.{steps_between}
use Rattle.step.specs.Closed.{month_at, months_of, HasNumber, YearOf}
use Rattle.step.specs.Steps.{YearMonth, year_month, year_month_of, month_reached, down_to, steps_down, date_down, date_after, days_back}
use Rattle.step.specs.declared.Part.{Part}
use Rattle.step.proofs.Answering.{inside, found}
use Rattle.step.proofs.Counts as Counts
use Rattle.step.proofs.Days.{passed_days, down_to_lem, Kept}
use Rattle.step.proofs.Existing as Existing
use Rattle.step.proofs.Order.{dates_rise}
use Rattle.step.proofs.Searching.{found_is, found_near}
use Rattle.step.proofs.Steps.{in_order}

module _ (part : Part) (c : Calendar) where
  -- steps as arithmetic, on months counted from January of year -10000: n - b steps lead from month i to month j = i + (n - b) * months_of part
  pub months_at : (n b i j : ℕ) → j + b * months_of part ≡ i + n * months_of part → month_reached part c (sub_ℕ n b) (month_at c i) ≡ month_at c j
  months_at = Counts.months_at c part

  -- ---- from every date, by all numbers: more steps lead to a later date

  module _ (x : Date) where
    pub steps_order : (z w : ℤ) → earlier (date_after part c z x) (date_after part c w x) ≡ lt_z z w
    steps_order = in_order (λ (z : ℤ). date_after part c z x) (dates_rise c part x)

  -- ---- from a date that exists

  module _ (x : Date) (there : exists c x ≡ true) where
    -- the date that is reached exists
    pub steps_exist : (z : ℤ) → exists c (date_after part c z x) ≡ true
    steps_exist = Existing.dates_there c part x there

    -- its day is that of x, the last of its month, or the last day that `standard` kept
    pub steps_kept : (z : ℤ) → let d = date_after part c z x in Kept c d.year d.month x.day d.day
    steps_kept = Existing.days_kept c part x there

    -- the days that it is stepped back are the asked day less the given one, and none of those days exists
    pub back_apart : (z : ℤ) → days_back part c z x + (date_after part c z x).day ≡ x.day
    back_apart = Existing.days_apart c part x there

    pub back_none : (z : ℤ) → let d = date_after part c z x in (k : ℕ) → d.day < k → k ≤ x.day → exists c (date d.year d.month k) ≡ false
    back_none = Existing.back_none c part x there

    -- they are at most 3, or in the month of the last day that `standard` kept at most `most_back`
    pub back_few : (z : ℤ) → let d = date_after part c z x in DaysBelow c d.year d.month (days_back part c z x)
    back_few = Existing.back_few c part x there

  -- ---- the number of steps between two dates

  module _ (x d : Date) where
    -- the number that is answered leads to d, and is small
    pub between_is : (n : ℤ) → steps_between part c x d ≡ Some n → date_after part c n x ≡ d
    unfolding steps_between
    between_is n e = found_is (λ (z : ℤ). date_after part c z x) d n e

    pub between_near : (n : ℤ) → steps_between part c x d ≡ Some n → mag n ≤ 719999
    unfolding steps_between
    between_near n e = found_near (λ (z : ℤ). date_after part c z x) d n e

    -- both dates exist in the years -9999 to 9999: the n that leads to d is answered
    module _ (p : HasNumber c x) (q : HasNumber c d) where
      pub is_between : (n : ℤ) → date_after part c n x ≡ d → steps_between part c x d ≡ Some n
      is_between n e =
          let y = count_of (has_year_zero c) x.year p.inside (valid_year c x (valid_of c x p.there)) in
          let g : YearOf c x y.count = record { date = p; is = y.is } in
          let k = common n (pos 0) in
          let e' : date_after part c (sub_ℕ k.left k.least) x ≡ d = ap (λ (z : ℤ). date_after part c z x) k.is_left ∙ e in
          let l = (inside c x y.count g part k.left k.least (ap (λ (u : Date). in_years u.year) e' ∙ q.inside)).few in
          sym (found part c x d k.left k.least l.0 l.1 e') ∙ ap Some k.is_left

-- ---- with every cutover so many are reached: from January 2000 to the month of the last day kept

module _ (k : ℕ) where
  abbrev kept : Date
  kept = (row_of (Standard k)).last

  abbrev most : ℕ
  most = most_back (days_used k)

  abbrev place : Place
  place = kept_place (days_used k)

  abbrev pub asked_in2000 : Date
  asked_in2000 = date (pos 2000) 1 (kept.day + most)

  abbrev pub months_to : ℤ
  months_to = sub_ℕ (12 * place.y + place.m) 144000

  kept_month_lem : month_reached Part.Month (Standard k) months_to (year_month_of asked_in2000) ≡ year_month_of kept
  kept_month_lem =
      let j = 12 * place.y + place.m in
      let m = (at_proper Rule.Julian (4230602 + days_used k)).month in
      let l = kept_label (days_used k) in
      let y : j / 12 ≡ place.y = omega arith in
      let n : j % 12 ≡ place.m = omega arith in
      months_at Part.Month (Standard k) j 144000 144000 j (omega arith)
      ∙ (λ i. year_month ((ap (year_at false) y ∙ sym (ap (λ (x : Date). x.year) l)) i) ((ap (λ (q : ℕ). q + 1) n ∙ sym (ap (λ (x : Date). x.month) l)) i))

  down_to_kept : down_to (Standard k) kept.year kept.month (kept.day + most) ≡ kept.day
  down_to_kept = down_to_lem (Standard k) kept.year kept.month kept.day (kept.day + most) (omega arith) (last_there k) (past_last k)

  pub kept_reached : date_after Part.Month (Standard k) months_to asked_in2000 ≡ kept
  unfolding date_after
  kept_reached = ap (λ (p : YearMonth). date_down (Standard k) p (kept.day + most)) kept_month_lem ∙ date_eq refl refl down_to_kept

  pub most_reached : days_back Part.Month (Standard k) months_to asked_in2000 ≡ most
  unfolding days_back
  most_reached =
      ap (λ (p : YearMonth). steps_down (Standard k) p.year p.month (kept.day + most)) kept_month_lem
      ∙ omega (arith, passed_days (Standard k) kept.year kept.month (kept.day + most), down_to_kept)
