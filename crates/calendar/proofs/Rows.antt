-- The rows of the six calendars meet what a cutover must satisfy; and a plain row is its plain calendar.
use mathlib.Core.Path.{◌≡◌, refl, sym, ap, ◌∙◌}
use Prim.Native.Nat.{ℕ, ◌+◌}
use mathlib.Core.Bool.{Bool, true, false, ◌&&◌, cond, false≢true}
use native.Mathlib.Omega.{arith}
use lib.IntN.{pos}
use borrow.Author.Tests.{lt-ltb}
use Rattle.calendar.specs.Plain.{plain, last_day, date, day_after, day_before, has_day}
use Rattle.calendar.specs.Calendar.{plain_row, days_used, row_of, next_by, prev_by, exists_by}
use Rattle.calendar.specs.Closed.{kind_at, year_at, counts, mixed, cutover_day, late_from, lag}
use Rattle.calendar.specs.Order.{earlier, same_date}
use Rattle.calendar.specs.declared.Calendar.{Calendar}
use Rattle.calendar.specs.declared.Calendar.TheVariants.{Standard, ProlepticGregorian, Julian, NoLeap, AllLeap, Day360}
use Rattle.calendar.specs.declared.Date.{Date}
use Rattle.calendar.specs.declared.rule.Rule.{Rule}
use Rattle.calendar.proofs.Years.{kind_low}
use Rattle.calendar.proofs.Tables.{month_days_lem}
use Rattle.calendar.proofs.Ordered.{date_eq, by_day, same_of, not_after}
use Rattle.calendar.proofs.Plain.{long}
use Rattle.calendar.proofs.Joint.{Junction}
use Rattle.calendar.proofs.Days.{Cutover, junction, no_lag}
use Rattle.calendar.proofs.Cutovers.{used, standard_cutover, lag_77, standard_mixed, cutover_day_lem}

name_1582 : (z : Bool) → year_at z 11582 ≡ pos 1582
name_1582 true = refl
name_1582 false = refl

plain_cutover : (r : Rule) (z : Bool) → Cutover (plain_row r z)
unfolding cutover_day lag
plain_cutover r z =
    let w = month_days_lem (kind_at r 11582) 9 (kind_low r 11582) (omega arith) in
    record {
      last_at = date_eq (name_1582 z) refl refl;
      last_proper = record { month = omega arith; day = omega arith };
      first_at = date_eq (name_1582 z) refl refl;
      first_proper = record { month = omega arith; day = omega arith };
      rises = by_day refl refl (omega arith);
      behind = omega arith;
      lag_small = omega arith;
      alone = λ h. refl;
      early_year = omega arith;
      late_year = omega arith;
      before_1970 = omega arith;
      ahead = λ h. absurd (false≢true h);
    }

pub cutover : (c : Calendar) → Cutover (row_of c)
cutover (Standard k) = standard_cutover (days_used k) (used k).most
cutover ProlepticGregorian = plain_cutover _ _
cutover Julian = plain_cutover _ _
cutover NoLeap = plain_cutover _ _
cutover AllLeap = plain_cutover _ _
cutover Day360 = plain_cutover _ _

pub joint : (c : Calendar) → Junction (row_of c)
joint c = junction (row_of c) (cutover c)

-- ---- what is mixed, lags, and is late from the cutover on

pub mixed_lag : (c : Calendar) → mixed (counts c) ≡ true → lag (counts c) ≡ 77
mixed_lag (Standard k) h = lag_77 (days_used k)
mixed_lag ProlepticGregorian h = absurd (false≢true h)
mixed_lag Julian h = absurd (false≢true h)
mixed_lag NoLeap h = absurd (false≢true h)
mixed_lag AllLeap h = absurd (false≢true h)
mixed_lag Day360 h = absurd (false≢true h)

pub plain_lag : (c : Calendar) → mixed (counts c) ≡ false → lag (counts c) ≡ 0
plain_lag c h = no_lag (row_of c) (cutover c) h

pub late_from_lem : (k : ℕ) → late_from (counts (Standard k)) ≡ 4230526 + days_used k
late_from_lem k = rw (standard_mixed (days_used k)) (cutover_day_lem (days_used k))

-- ---- a plain row has the days of its plain calendar

-- 1582-10-15 comes after 1582-10-14 in each of them
after_14 : (r : Rule) (z : Bool) → day_after (plain r z) (date (pos 1582) 10 14) ≡ date (pos 1582) 10 15
unfolding day_after
after_14 r z = rw (lt-ltb 14 (last_day (plain r z) (pos 1582) 10) (omega (arith, long (plain r z) (pos 1582) 10 (omega arith) (omega arith))))

before_15 : (r : Rule) (z : Bool) → day_before (plain r z) (date (pos 1582) 10 15) ≡ date (pos 1582) 10 14
unfolding day_before
before_15 r z = refl

module _ (r : Rule) (z : Bool) (x : Date) where
  either : {A : Type 0} (t : Bool) (a : A) → cond t a a ≡ a
  either true a = refl
  either false a = refl

  pub plain_next : next_by (plain_row r z) x ≡ day_after (plain r z) x
  unfolding next_by
  plain_next = go (same_date x (date (pos 1582) 10 14)) refl
    where
      go : (t : Bool) → same_date x (date (pos 1582) 10 14) ≡ t → cond t (date (pos 1582) 10 15) (cond (earlier x (date (pos 1582) 10 15)) (day_after (plain r z) x) (day_after (plain r z) x)) ≡ day_after (plain r z) x
      go true e = sym (ap (day_after (plain r z)) (same_of x (date (pos 1582) 10 14) e) ∙ after_14 r z)
      go false e = either (earlier x (date (pos 1582) 10 15)) (day_after (plain r z) x)

  pub plain_prev : prev_by (plain_row r z) x ≡ day_before (plain r z) x
  unfolding prev_by
  plain_prev = go (same_date x (date (pos 1582) 10 15)) refl
    where
      go : (t : Bool) → same_date x (date (pos 1582) 10 15) ≡ t → cond t (date (pos 1582) 10 14) (cond (earlier x (date (pos 1582) 10 15)) (day_before (plain r z) x) (day_before (plain r z) x)) ≡ day_before (plain r z) x
      go true e = sym (ap (day_before (plain r z)) (same_of x (date (pos 1582) 10 15) e) ∙ before_15 r z)
      go false e = either (earlier x (date (pos 1582) 10 15)) (day_before (plain r z) x)

  pub plain_exists : exists_by (plain_row r z) x ≡ has_day (plain r z) x
  unfolding exists_by
  plain_exists = rw (not_after (pos 1582) 10 14 x) (go (earlier x (date (pos 1582) 10 15)) (has_day (plain r z) x))
    where
      go : (t a : Bool) → cond t (a && t) a ≡ a
      go true true = refl
      go true false = refl
      go false a = refl
