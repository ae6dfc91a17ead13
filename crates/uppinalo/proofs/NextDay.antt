-- Demand 2, dates: day numbers, and offsets on an axis of days, by the next-day rule.
use Rattle.std.specs.Prelude.{Ok, Err}
use mathlib.Core.Path.{◌≡◌, refl, sym, ap, ◌∙◌, subst}
use mathlib.Core.Bool.{Bool, true, false, cond}
use lib.IntN.{ℤ, pos, ◌+ℤ◌, +ℤ_idl}
use Rattle.refusal.specs.declared.Refusal.TheVariants.{OutOfRange}
use Rattle.calendar.specs.Calendar.{times, date_by, date_of, DaysOn, in_years}
use Rattle.calendar.specs.Answers.{date_answer}
use Rattle.calendar.specs.declared.Calendar.{Calendar}
use Rattle.calendar.specs.declared.Date.{Date}
use Rattle.calendar.proofs.Answering.{year_out, date_there}
use Rattle.calendar.proofs.Theorems.{dates_exist, days_there, days_only}
use Rattle.instant.specs.Instant.{day_of, time_of, in_range, fields_at, with_time, fields_answer}
use Rattle.instant.proofs.Theorems.{fields_in_lem}
use Rattle.axis_types.specs.declared.Period.{Period}
use Rattle.fixed_axis.specs.Fixed.{time_after, read_whole}
use Rattle.fixed_axis.proofs.Dates.{day_after_lem, time_after_lem}
use Rattle.fixed_axis.proofs.Offsets.{reads}
use Rattle.fixed_axis.proofs.Readings.{settled}
use Rattle.axis.specs.Axis.{whole_back}
use Rattle.axis.proofs.Laws.{good_in}
use Rattle.axis.proofs.Demands as Axes
use Rattle.uppinalo.specs.Given.{GivenCalendar, GivenAxis, axis_given, calendar_on, axis_codes}
use Rattle.uppinalo.specs.Days.{of_date, no_date, of_day, no_fields, of_fields}
use Rattle.uppinalo.specs.Offsets.{of_reading, uppinalo_read_whole}
use Rattle.uppinalo.specs.Demands.{GoodReference, fields_given, IsDay, DatesByNextDay, DaysFromReference, DaysRead}
use Rattle.uppinalo.specs.declared.days.UppinaloDateAnswer.{UppinaloDateAnswer}
use Rattle.uppinalo.proofs.Boundary.{whole_is, date_is, day_is, fields_is, at_reading}
use Rattle.axis_types.specs.Reading.{Reading}

-- ---- demand 2: dates

module _ (c : Calendar) where
  is_date : (n : ℤ) (d : Date) → IsDay c n d → d ≡ date_of c n
  unfolding date_of date_by times
  is_date n d p = days_only c (pos 0) n d p.there p.steps ∙ ap (date_of c) (+ℤ_idl n)

  dated : (n : ℤ) → IsDay c n (date_of c n)
  unfolding date_of date_by times
  dated n = record { there = dates_exist c n; steps = subst (λ (z : ℤ). DaysOn c (date_of c (pos 0)) n (date_of c z)) (+ℤ_idl n) (days_there c (pos 0) n) }

  -- the answer of a date, or 5
  abbrev in_years_only : Date → UppinaloDateAnswer
  in_years_only d = cond (in_years d.year) (record { number = 0; date = d }) (no_date OutOfRange)

  answered : (n : ℤ) → of_date (date_answer c n) ≡ in_years_only (date_of c n)
  unfolding date_answer
  answered n = go (in_years (date_of c n).year)
    where
      go : (b : Bool) → of_date (cond b (Ok (date_of c n)) (Err OutOfRange)) ≡ cond b (record { number = 0; date = date_of c n }) (no_date OutOfRange)
      go true = refl
      go false = refl

  fields_answered : (t : ℤ) (d : Date) → IsDay c (day_of t) d → of_fields (fields_answer c t) ≡ cond (in_years d.year) (fields_given (fields_at d (time_of t))) (no_fields OutOfRange)
  unfolding fields_answer date_answer
  fields_answered t d p = ap (λ (x : Date). of_fields (with_time (cond (in_years x.year) (Ok x) (Err OutOfRange)) (time_of t))) (sym (is_date (day_of t) d p)) ∙ go (in_years d.year)
    where
      go : (b : Bool) → of_fields (with_time (cond b (Ok d) (Err OutOfRange)) (time_of t)) ≡ cond b (fields_given (fields_at d (time_of t))) (no_fields OutOfRange)
      go true = refl
      go false = refl

pub dates : (g : GivenCalendar) → DatesByNextDay g.calendar g.cutover
dates g =
    let c = g.calendar in
    record {
      dated = dated c;
      one_date = λ n d e p q. is_date c n d p ∙ sym (is_date c n e q);
      date_of_day = λ n d p. date_is g n ∙ (answered c n ∙ ap (in_years_only c) (sym (is_date c n d p)));
      fields_of = λ t d p. fields_is g t ∙ fields_answered c t d p;
      day_of_date = λ n d p h. day_is g d ∙ ap of_day (sym (date_there c d n h p.there (sym (is_date c n d p))));
      year_past = λ x h. day_is g x ∙ ap of_day (sym (year_out true c x h));
    }

-- ---- demand 2: days from a reference

pub days_after : (x : GivenAxis) → GoodReference x → x.period ≡ Period.Day → (n : ℤ) → (r : Date) × (d : Date) × DaysFromReference x n r d
days_after x g e n =
    let c = x.calendar in
    let z = day_of x.reference in
    (date_of c z, date_of c (z +ℤ n), record { good = g; days = e; from = dated c z; there = dates_exist c (z +ℤ n); steps = days_there c z n })

module _ (x : GivenAxis) (n : ℤ) (r d : Date) (h : DaysFromReference x n r d) where
  abbrev c : Calendar
  c = x.calendar

  abbrev t : ℤ
  t = time_after Period.Day x.reference n

  date_of_time : date_of c (day_of t) ≡ d
  date_of_time =
      let z = day_of x.reference in
      let s = subst (λ (y : Date). DaysOn c y n d) (is_date c z r h.from) h.steps in
      ap (date_of c) (day_after_lem x.reference n) ∙ sym (days_only c z n d h.there s)

  by_days : {r : Reading} → read_whole c Period.Day x.reference n ≡ r → uppinalo_read_whole (axis_codes x) n ≡ of_reading r (whole_back (axis_given x) n)
  by_days e = whole_is x n (Axes.days_read (axis_given x) (good_in (axis_given x) h.good) h.days n ∙ e)

  in_years_of : {b : Bool} → in_years d.year ≡ b → in_range c t ≡ b
  in_years_of k = ap (λ (y : Date). in_years y.year) date_of_time ∙ k

  pub days : DaysRead x n d
  unfolding read_whole
  days =
      record {
        inside = λ k. (
          t,
          at_reading (uppinalo_read_whole (axis_codes x) n) (whole_back (axis_given x) n) t true (by_days (reads c Period.Day x.reference n t (in_years_of k) refl)),
          fields_is (calendar_on x) t ∙ (ap of_fields (fields_in_lem c t (in_years_of k)) ∙ (λ i. fields_given (fields_at (date_of_time i) (time_after_lem x.reference n i)))),
        );
        past = λ k. by_days (sym (settled c t true (in_years_of k)));
      }
