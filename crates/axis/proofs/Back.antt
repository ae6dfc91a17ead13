-- How far the day of the month is stepped back: in calendar mode by months and years as `MovedBack` says, and elsewhere not at all.
use Rattle.std.specs.Prelude.{Result, Ok, Err}
use mathlib.Core.Path.{◌≡◌, refl, sym, ap, ◌∙◌, subst}
use mathlib.Core.Bool.{Bool, true}
use Prim.Native.Nat.{ℕ, ◌≤◌}
use native.Mathlib.Omega.{arith}
use lib.IntN.{ℤ, pos}
use lib.Ieee.{Float}
use Rattle.calendar.specs.Calendar.{date, times, days_used, exists, exists_by, date_of, in_years}
use Rattle.calendar.specs.Cutover.{cutover_after, last_kept_after, most_back}
use Rattle.calendar.specs.Order.{earlier}
use Rattle.calendar.specs.Plain.{has_day, kind, month_days}
use Rattle.calendar.specs.Answers.{day_number}
use Rattle.calendar.specs.declared.Calendar.{Calendar}
use Rattle.calendar.specs.declared.Calendar.TheVariants.{Standard}
use Rattle.calendar.specs.declared.Date.{Date}
use Rattle.calendar.proofs.Cutovers.{used, most_low, most_high}
use Rattle.calendar.proofs.Months.{DaysBelow, few, among_dropped, january_there, last_inside}
use Rattle.calendar.proofs.Theorems.{dates_exist, date_of_number}
use Rattle.instant.specs.Instant.{day_of, time_of, instant_at}
use Rattle.instant.proofs.Theorems.{day_of_sum}
use Rattle.axis_types.specs.declared.Axis.{Axis}
use Rattle.axis_types.specs.declared.Mode.{Mode}
use Rattle.axis_types.specs.declared.Period.{Period}
use Rattle.double.specs.Whole.{whole_of}
use Rattle.step.specs.Steps.{steps, step_after, down_to, steps_down, date_after, days_back}
use Rattle.step.specs.declared.Part.{Part}
use Rattle.step.proofs.Theorems as Steps
use Rattle.step.proofs.Theorems.{steps_exist, back_apart, back_none, back_few, asked_in2000, months_to, kept_reached}
use Rattle.calendar_axis.specs.Steps.{date_at, read_steps}
use Rattle.calendar_axis.proofs.Demands.{day_read}
use Rattle.axis.specs.Axis.{axis_check, on_good, step_in, step_on, read_by, back_by, whole_back, as_whole_back, double_back_in, double_back, read_whole_on}
use Rattle.axis.specs.MovedBack.{MonthsOrYears, months, years, CutoverMonth, MovedBack}
use Rattle.axis.specs.declared.Step.{Step}
use Rattle.axis.proofs.Laws.{good_in}
use Rattle.axis.proofs.Demands.{moved}
use Rattle.refusal.specs.declared.Refusal.{Refusal}

-- ---- by months and years

-- the bounds of document 02, CR 7 and CR 8
bounded : (c : Calendar) (d : Date) (n : ℕ) → DaysBelow c d.year d.month n → (((k : ℕ) → CutoverMonth c k d → ⊥) → n ≤ 3) × ((k : ℕ) → CutoverMonth c k d → n ≤ most_back (days_used k))
bounded c d n (few h) = ((λ _. h), λ k m. let u = used k in omega (arith, most_low (days_used k) u.fits u.most))
bounded c d n (among_dropped k e f g h) =
    ((λ none. absurd (none k (record { calendar = e; year = sym f; month = sym g }))), λ j m. let i : k ≡ j = standard_one k j (sym e ∙ m.calendar) in subst (λ (q : ℕ). n ≤ most_back (days_used q)) i h)
  where
    standard_one : (k j : ℕ) → Standard k ≡ Standard j → k ≡ j
    standard_one k j e = cc

module _ (a : Axis) (part : Part) (m : step_on a ≡ Step.Date part) (n t : ℤ) (exact : Bool) (h : read_whole_on a n ≡ Ok (t, exact)) where
  abbrev c : Calendar
  c = a.calendar

  abbrev asked : Date
  asked = date_at c a.reference

  abbrev given : Date
  given = date_after part c n asked

  by_part : MovedBack c asked (date_at c t) (whole_back a n)
  by_part =
      let there = dates_exist c (day_of a.reference) in
      let b = bounded c given (days_back part c n asked) (back_few part c asked there n) in
      let k : MovedBack c asked given (days_back part c n asked) = record { difference = back_apart part c asked there n; passed = back_none part c asked there n; few = b.0; most = b.1 } in
      subst (λ (d : Date). MovedBack c asked d (whole_back a n)) (sym (moved a part m n t exact h).0) (subst (MovedBack c asked given) (sym (ap (λ (s : Step). back_by s c a.reference n) m)) k)

pub moved_back : (a : Axis) → a.mode ≡ Mode.Calendar → MonthsOrYears a.period → (n t : ℤ) (exact : Bool) → read_whole_on a n ≡ Ok (t, exact) → MovedBack a.calendar (date_at a.calendar a.reference) (date_at a.calendar t) (whole_back a n)
moved_back a e p = go a.period p refl
  where
    go : (p : Period) → MonthsOrYears p → a.period ≡ p → (n t : ℤ) (exact : Bool) → read_whole_on a n ≡ Ok (t, exact) → MovedBack a.calendar (date_at a.calendar a.reference) (date_at a.calendar t) (whole_back a n)
    go p months f = by_part a Part.Month (λ i. step_in (e i) (f i))
    go p years f = by_part a Part.Year (λ i. step_in (e i) (f i))

-- ---- elsewhere

-- what moves no date
pub fixed_time : (a : Axis) → a.mode ≡ Mode.Fixed → step_on a ≡ Step.Time
fixed_time a e = ap (λ (m : Mode). step_in m a.period) e

pub shorter_time : (a : Axis) → (MonthsOrYears a.period → ⊥) → step_on a ≡ Step.Time
shorter_time a = go a.mode a.period
  where
    go : (m : Mode) (p : Period) → (MonthsOrYears p → ⊥) → step_in m p ≡ Step.Time
    go Mode.Fixed p h = refl
    go Mode.Calendar Period.Second h = refl
    go Mode.Calendar Period.Millisecond h = refl
    go Mode.Calendar Period.Minute h = refl
    go Mode.Calendar Period.Hour h = refl
    go Mode.Calendar Period.Day h = refl
    go Mode.Calendar Period.Week h = refl
    go Mode.Calendar Period.Month h = absurd (h months)
    go Mode.Calendar Period.Year h = absurd (h years)

module _ (a : Axis) (e : step_on a ≡ Step.Time) where
  pub whole_none : (n : ℤ) → whole_back a n ≡ 0
  whole_none n = ap (λ (s : Step). back_by s a.calendar a.reference n) e

  pub double_none : (x : Float) → double_back a x ≡ 0
  double_none x = go a.mode
    where
      by_whole : (w : Result ℤ Refusal) → as_whole_back w (whole_back a) ≡ 0
      by_whole (Ok n) = whole_none n
      by_whole (Err r) = refl

      go : (m : Mode) → double_back_in m a x ≡ 0
      go Mode.Fixed = refl
      go Mode.Calendar = by_whole (whole_of x)

-- ---- a double in calendar mode is stepped back as the whole offset that it is

pub double_back_lem : (a : Axis) (x : Float) (n : ℤ) → a.mode ≡ Mode.Calendar → whole_of x ≡ Ok n → double_back a x ≡ whole_back a n
double_back_lem a x n e f = ap (λ (m : Mode). double_back_in m a x) e ∙ ap (λ (w : Result ℤ Refusal). as_whole_back w (whole_back a)) f

-- ---- both bounds are reached

-- n steps from midnight of a date x, on the axis that begins there
module _ (c : Calendar) (p : Period) (part : Part) (s : step_in Mode.Calendar p ≡ Step.Date part) (x : Date) (inside : in_years x.year ≡ true) (there : exists c x ≡ true) (n : ℤ) where
  abbrev from : Axis
  from = record { calendar = c; period = p; mode = Mode.Calendar; reference = instant_at (day_number c x) 0 }

  asked_is : date_at c from.reference ≡ x
  asked_is = ap (date_of c) (day_of_sum (day_number c x) 0 (omega arith)) ∙ date_of_number c x inside there

  good : (Ok tt) ≡ axis_check from
  good = good_in from (ap (λ (d : Date). in_years d.year) asked_is ∙ inside)

  abbrev moved_date : Date
  moved_date = date_after part c n (date_at c from.reference)

  is_read : in_years moved_date.year ≡ true → (t : ℤ) × (read_whole_on from n ≡ Ok (t, true))
  unfolding read_whole_on read_steps
  is_read h =
      let w = day_read c moved_date (steps_exist part c (date_at c from.reference) (dates_exist c (day_of from.reference)) n) (time_of from.reference) h in
      (w.0, (λ i. on_good (sym good i) Err (read_by (s i) c p from.reference n)) ∙ w.1)

  -- it is read, at the date that the steps lead to, stepped back by their days
  reached : in_years (date_after part c n x).year ≡ true → (t : ℤ) × (read_whole_on from n ≡ Ok (t, true)) × (date_at c t ≡ date_after part c n x) × (whole_back from n ≡ days_back part c n x)
  reached h =
      let w = is_read (ap (λ (d : Date). in_years (date_after part c n d).year) asked_is ∙ h) in
      (w.0, w.1, (moved from part s n w.0 true w.1).0 ∙ ap (date_after part c n) asked_is, (λ i. back_by (s i) c from.reference n) ∙ ap (days_back part c n) asked_is)

pub three_reached : (a : Axis) × (n t : ℤ) × (a.calendar ≡ Standard 0) × (read_whole_on a n ≡ Ok (t, true)) × (whole_back a n ≡ 3)
unfolding cutover_after last_kept_after date_after days_back steps times step_after steps_down down_to exists exists_by earlier has_day kind month_days
three_reached =
    let w = reached (Standard 0) Period.Month Part.Month refl (date (pos 1930) 1 31) refl refl (pos 1) refl in
    (from (Standard 0) Period.Month Part.Month refl (date (pos 1930) 1 31) refl refl (pos 1), pos 1, w.0, refl, w.1, w.3)

-- the bound in the month of the dropped dates, with every cutover
pub most_reached : (k : ℕ) → (a : Axis) × (n t : ℤ) × (a.calendar ≡ Standard k) × (read_whole_on a n ≡ Ok (t, true)) × CutoverMonth a.calendar k (date_at a.calendar t) × (whole_back a n ≡ most_back (days_used k))
most_reached k =
    let x = asked_in2000 k in
    let u = used k in
    let there = january_there k x.day (omega (arith, most_low (days_used k) u.fits u.most)) (most_high (days_used k) u.fits u.most) in
    let w = reached (Standard k) Period.Month Part.Month refl x refl there (months_to k) (ap (λ (d : Date). in_years d.year) (kept_reached k) ∙ last_inside k) in
    let d = w.2 ∙ kept_reached k in
    (from (Standard k) Period.Month Part.Month refl x refl there (months_to k), months_to k, w.0, refl, w.1, record { calendar = refl; year = ap (λ (e : Date). e.year) d; month = ap (λ (e : Date). e.month) d }, w.3 ∙ Steps.most_reached k)
