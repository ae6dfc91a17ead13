-- What is written, by the tests that the code makes.
use Rattle.std.specs.Prelude.{Err}
use mathlib.Core.Path.{◌≡◌, refl, sym, ap, ◌∙◌}
use mathlib.Core.Bool.{Bool, true, false, ◌&&◌, ◌||◌, true≢false}
use mathlib.Core.List.{List}
use Prim.Native.Nat.{ℕ, ◌<◌, ◌≤◌}
use native.Mathlib.Omega.{arith}
use lib.Dec.{ltb, eqb}
use lib.IntN.{ℤ, pos, negsuc}
use lib.Signed.{lt_z}
use borrow.Author.Tests.{leb-false, ltb-true, le-ltb, eqb-true, ne_eqb}
use Rattle.refusal.specs.declared.Refusal.TheVariants.{ImpossibleField, OutOfRange, MissingDate, Before1972}
use Rattle.signed.proofs.Tests.{and_parts, both, left_out, right_out, to_false}
use Rattle.calendar.specs.Calendar.{date, date_of, exists, in_years}
use Rattle.calendar.specs.Order.{earlier}
use Rattle.calendar.specs.Answers.{is_possible, fault_with}
use Rattle.calendar.specs.declared.Calendar.TheVariants.{ProlepticGregorian}
use Rattle.calendar.specs.declared.Date.{Date}
use Rattle.calendar.proofs.Existing.{exists_possible}
use Rattle.calendar.proofs.Answering.{date_there, year_out}
use Rattle.calendar.proofs.Possible.{never_dropped}
use Rattle.calendar.proofs.Theorems.{order}
use Rattle.calendar.proofs.AnyYear.{day_730}
use Rattle.leap_seconds.specs.Leaps.{Leap, leaps, is_good}
use Rattle.tt2000.specs.Tt2000.{tt_of, date_of_utc, day_second, is_leap_date, is_second, is_utc_time, limited, with_day, write_time, write_tt2000}
use Rattle.tt2000.specs.declared.UtcFields.{UtcFields}

-- ---- a time of day, part by part

pub data Second (l : List Leap) (f : UtcFields) : Type 0 where
  plain : f.second < 60 → Second l f
  leap : f.hour ≡ 23 → f.minute ≡ 59 → f.second ≡ 60 → is_leap_date l (date_of_utc f) ≡ true → Second l f

pub record UtcTime (l : List Leap) (f : UtcFields) : Type 0 where
  pub hour : f.hour < 24
  pub minute : f.minute < 60
  pub second : Second l f
  pub nanosecond : f.nanosecond < 1000000000

module _ (l : List Leap) (f : UtcFields) where
  second_of_lem : is_second l f ≡ true → Second l f
  second_of_lem h = go (ltb f.second 60) refl
    where
      go : (t : Bool) → ltb f.second 60 ≡ t → Second l f
      go true e = plain (ltb-true f.second 60 e)
      go false e =
          let p = and_parts (eqb f.hour 23 && (eqb f.minute 59 && eqb f.second 60)) (is_leap_date l (date_of_utc f)) (ap (λ (t : Bool). t || ((eqb f.hour 23 && (eqb f.minute 59 && eqb f.second 60)) && is_leap_date l (date_of_utc f))) (sym e) ∙ h) in
          let q = and_parts (eqb f.hour 23) (eqb f.minute 59 && eqb f.second 60) p.0 in
          let r = and_parts (eqb f.minute 59) (eqb f.second 60) q.1 in
          leap (eqb-true f.hour 23 q.0) (eqb-true f.minute 59 r.0) (eqb-true f.second 60 r.1) p.1

  pub time_of_lem : is_utc_time l f ≡ true → UtcTime l f
  unfolding is_utc_time
  time_of_lem h =
      let p = and_parts (ltb f.hour 24 && ltb f.minute 60) (is_second l f && ltb f.nanosecond 1000000000) h in
      let a = and_parts (ltb f.hour 24) (ltb f.minute 60) p.0 in
      let b = and_parts (is_second l f) (ltb f.nanosecond 1000000000) p.1 in
      record { hour = ltb-true f.hour 24 a.0; minute = ltb-true f.minute 60 a.1; second = second_of_lem b.0; nanosecond = ltb-true f.nanosecond 1000000000 b.1 }

  pub day_second_small : UtcTime l f → day_second f ≤ 86400
  day_second_small t = go t.second
    where
      go : Second l f → day_second f ≤ 86400
      go (plain s) = omega (arith, t.hour, t.minute)
      go (leap h m s d) = omega arith

-- ---- the answer of a good list

module _ (s : List ℕ) (f : UtcFields) (good : is_good s ≡ true) where
  abbrev l : List Leap
  l = leaps s

  abbrev x : Date
  x = date_of_utc f

  -- fields that are refused by themselves
  refused : (is_utc_time l f && exists ProlepticGregorian x) ≡ false → write_tt2000 s f ≡ Err (fault_with (is_utc_time l f) ProlepticGregorian x)
  unfolding write_tt2000
  refused h = rw (good, h)

  pub impossible_time : is_utc_time l f ≡ false → write_tt2000 s f ≡ Err ImpossibleField
  unfolding fault_with
  impossible_time h = refused (left_out (is_utc_time l f) (exists ProlepticGregorian x) h) ∙ rw h

  pub impossible_date : is_possible f.month f.day ≡ false → write_tt2000 s f ≡ Err ImpossibleField
  unfolding fault_with
  impossible_date h = refused (right_out (is_utc_time l f) (exists ProlepticGregorian x) none) ∙ rw (right_out (is_utc_time l f) (is_possible f.month f.day) h)
    where
      none : exists ProlepticGregorian x ≡ false
      none = to_false (exists ProlepticGregorian x) (λ e. true≢false (sym (exists_possible ProlepticGregorian x e) ∙ h))

  module _ (time : is_utc_time l f ≡ true) where
    pub missing : is_possible f.month f.day ≡ true → exists ProlepticGregorian x ≡ false → write_tt2000 s f ≡ Err MissingDate
    unfolding fault_with
    missing p e = refused (right_out (is_utc_time l f) (exists ProlepticGregorian x) e) ∙ rw (both (is_utc_time l f) (is_possible f.month f.day) time p, never_dropped x)

    module _ (there : exists ProlepticGregorian x ≡ true) where
      pub timed : write_tt2000 s f ≡ write_time l f
      unfolding write_tt2000
      timed = rw (good, time, there)

      pub too_early : earlier x (date (pos 1972) 1 1) ≡ true → write_tt2000 s f ≡ Err Before1972
      too_early h = timed ∙ rw h

      -- the year lies past 9999
      pub too_late : earlier x (date (pos 1972) 1 1) ≡ false → in_years f.year ≡ false → write_tt2000 s f ≡ Err OutOfRange
      too_late h y = timed ∙ rw h (ap (with_day l f) (sym (year_out true ProlepticGregorian x y)))

      -- the day is d
      pub on_day_lem : (d : ℤ) → earlier x (date (pos 1972) 1 1) ≡ false → in_years f.year ≡ true → date_of ProlepticGregorian d ≡ x → write_tt2000 s f ≡ limited (tt_of l d (day_second f) f.nanosecond)
      on_day_lem d h y e = timed ∙ rw h (ap (with_day l f) (sym (date_there ProlepticGregorian x d y there e)))

-- a day from 730 on lies in 1972 or later
pub before_1972 : (x : Date) (d : ℤ) → date_of ProlepticGregorian d ≡ x → earlier x (date (pos 1972) 1 1) ≡ lt_z d (pos 730)
before_1972 x d e = (λ i. earlier (sym e i) (sym day_730 i)) ∙ order ProlepticGregorian d (pos 730)

-- a year past the range lies before 1972 where it is negative, and else after it
pub negative_year : (y : ℤ) (m d : ℕ) → lt_z y (pos 0) ≡ true → earlier (date y m d) (date (pos 1972) 1 1) ≡ true
unfolding earlier
negative_year (pos n) m d h = absurd (omega (arith, ltb-true n 0 h))
negative_year (negsuc n) m d h = refl

pub positive_year : (y : ℤ) (m d : ℕ) → in_years y ≡ false → lt_z y (pos 0) ≡ false → earlier (date y m d) (date (pos 1972) 1 1) ≡ false
unfolding earlier
positive_year (pos n) m d h g =
    let late = leb-false n 9999 h in
    rw (le-ltb n 1972 (omega arith), ne_eqb n 1972 (λ e. omega arith))
positive_year (negsuc n) m d h g = absurd (true≢false g)
