-- The cutovers of `standard`, by the days that they lie after 1582-10-15: up to 1923-12-31 the two calendars meet, whichever month the
-- cutover falls in; and the dates that an allowed one drops lie in the month of the last day kept.
use mathlib.Core.Path.{◌≡◌, refl, sym, ap, ◌∙◌, subst}
use mathlib.Core.Bool.{Bool, true, false, not, ◌&&◌, ◌||◌, cond, or-true, true≢false, false≢true}
use mathlib.Core.List.{List, [], ◌∷◌}
use Prim.Native.Nat.{ℕ, zero, suc, ◌+◌, ◌-◌, ◌%◌, ◌<◌, ◌≤◌}
use native.Mathlib.Omega.{arith}
use native.Mathlib.Decide.{dec_le}
use lib.Dec.{leb, ltb, eqb}
use lib.ListN.{length}
use lib.IntN.{ℤ, pos}
use borrow.Author.Tests.{leb-true, eq-eqb, ne_eqb, eqb-true, eqb-false, not-true, le-ltb, lt-ltb}
use Rattle.signed.specs.Bias.{lift}
use Rattle.signed.proofs.Tests.{both, and_parts, to_false, left_out}
use Rattle.calendar.specs.Plain.{Plain, of_leap, month_days, last_day, next_year, date, times, day_after, has_day}
use Rattle.calendar.specs.Cutover.{julian, gregorian, first_cutover, last_cutover, cutover_after, last_kept_after, list_if, dates_to, dropped_dates, every_date, same_month, one_month, no_first, allowed_after, is_listed, most_back}
use Rattle.calendar.specs.Calendar.{days_used, standard_row}
use Rattle.calendar.specs.Closed.{kind_at, year_start, month_start, julian_count, from_march, year_day, place_at, place_of, count, label, day_place, counted_row, cutover_day, lag, mixed}
use Rattle.calendar.specs.Order.{earlier, same_year, same_date}
use Rattle.calendar.specs.declared.Date.{Date}
use Rattle.calendar.specs.declared.place.Place.{Place}
use Rattle.calendar.specs.declared.rule.Rule.{Rule}
use Rattle.calendar.proofs.YearZero.{later}
use Rattle.calendar.proofs.Years.{kind_low}
use Rattle.calendar.proofs.Tables.{all, each_month, month_days_lem, month_room}
use Rattle.calendar.proofs.Places.{at, at_step, at_proper, at_count, at_is, step_place, place_eq, place_at_lem, year_lt, year_ge, Proper}
use Rattle.calendar.proofs.Labels.{year_high}
use Rattle.calendar.proofs.Plain.{none_before_next}
use Rattle.calendar.proofs.Ordered.{date_eq, Before, by_year, by_month, by_day, earlier_of, not_before, not_earlier, same_year_lem, Comparison, earlier_than, same_as, later_than, compare, InMonth, in_month, same_of, same_self}
use Rattle.calendar.proofs.Days.{day_date, day_exists, day_next, day_rises, day_below, placed_date, Cutover, last_place, meeting}

-- ---- where the count begins

pub first_1582 : day_date gregorian 4230526 ≡ first_cutover
unfolding day_date count year_start month_start month_days kind_at
first_1582 = ap (label false) (at_is Rule.Gregorian (place_at 11582 9 14) 4230526 (record { month = omega arith; day = omega arith }) refl)

kept_1582 : day_date julian 4230602 ≡ date (pos 1582) 10 4
unfolding day_date count year_start month_start month_days kind_at
kept_1582 = ap (label false) (at_is Rule.Julian (place_at 11582 9 3) 4230602 (record { month = omega arith; day = omega arith }) refl)

last_1923 : day_date gregorian 4355150 ≡ last_cutover
unfolding day_date count year_start month_start month_days kind_at
last_1923 = ap (label false) (at_is Rule.Gregorian (place_at 11923 11 30) 4355150 (record { month = omega arith; day = omega arith }) refl)

-- k days on
day_on : (p : Plain) (n k : ℕ) → times k (day_after p) (day_date p n) ≡ day_date p (n + k)
unfolding times
day_on p n zero = ap (day_date p) (omega arith)
day_on p n (suc k) = ap (day_after p) (day_on p n k) ∙ (day_next p (n + k) ∙ ap (day_date p) (omega arith))

pub cutover_is : (k : ℕ) → cutover_after k ≡ day_date gregorian (4230526 + k)
unfolding cutover_after
cutover_is k = ap (times k (day_after gregorian)) (sym first_1582) ∙ day_on gregorian 4230526 k

pub kept_is : (k : ℕ) → last_kept_after k ≡ day_date julian (4230602 + k)
unfolding last_kept_after
kept_is k = ap (times k (day_after julian)) (sym kept_1582) ∙ day_on julian 4230602 k

-- ---- the cutover as the Julian calendar counts it

unfoldable pub written_day : ℕ → ℕ
written_day k = julian_count (4230832 + k) - 306

-- the days that are dropped, 10 to 13
unfoldable pub drop_count : ℕ → ℕ
drop_count k = julian_count (4230832 + k) - (4230909 + k)

pub some_dropped : (k : ℕ) → 10 ≤ drop_count k
unfolding drop_count
some_dropped k = omega arith

pub few_dropped : (k : ℕ) → k ≤ 124624 → drop_count k ≤ 13
unfolding drop_count
few_dropped k h = omega arith

pub dropped_to : (k : ℕ) → 4230603 + k + drop_count k ≡ written_day k
unfolding drop_count written_day
dropped_to k = omega arith

written_place : (k : ℕ) → place_of Rule.Gregorian (4230526 + k) ≡ place_of Rule.Julian (written_day k)
unfolding written_day
written_place k =
    let e : 4230526 + k + 306 ≡ 4230832 + k = omega arith in
    let f : julian_count (4230832 + k) ≡ written_day k + 306 = omega arith in
    ap (λ (n : ℕ). from_march (year_day Rule.Gregorian n)) e ∙ ap (λ (n : ℕ). from_march (year_day Rule.Julian n)) f

pub written_is : (k : ℕ) → cutover_after k ≡ day_date julian (written_day k)
written_is k = cutover_is k ∙ (sym (placed_date Rule.Gregorian false (4230526 + k)) ∙ (ap (label false) (written_place k) ∙ placed_date Rule.Julian false (written_day k)))

-- ---- one place by the two rules

-- a month begins no earlier in a leap year
no_shorter : ℕ → Bool
no_shorter m = leb (month_start 0 m) (month_start 1 m)

leap_later : (m : ℕ) → m < 12 → month_start 0 m ≤ month_start 1 m
unfolding all no_shorter month_start month_days
leap_later m h = leb-true (month_start 0 m) (month_start 1 m) (each_month (λ k. no_shorter) refl refl refl 0 m (omega arith) h)

-- and a leap year of the Gregorian rule is one of the Julian
julian_later : (y m : ℕ) → m < 12 → month_start (kind_at Rule.Gregorian y) m ≤ month_start (kind_at Rule.Julian y) m
unfolding kind_at
julian_later y m h = go (eqb (y % 4) 0) (eqb (y % 100) 0) (eqb (y % 400) 0) refl refl
  where
    go : (a b c : Bool) → eqb (y % 4) 0 ≡ a → eqb (y % 400) 0 ≡ c → month_start (of_leap ((a && not b) || c)) m ≤ month_start (of_leap a) m
    go true true true e f = omega arith
    go true true false e f = leap_later m h
    go true false c e f = omega arith
    go false b true e f = absurd (omega (arith, eqb-false (y % 4) 0 e, eqb-true (y % 400) 0 f))
    go false b false e f = omega arith

-- from 1582 on the Gregorian rule lags by more than 77 days; before it counts nothing past 1582-10-15
gregorian_behind : (k : ℕ) (p : Place) → Proper Rule.Julian p → count Rule.Julian p < 4230603 + k → count Rule.Gregorian p < 4230526 + k
unfolding count year_start
gregorian_behind k p h g =
    let day = month_days_lem (kind_at Rule.Julian p.y) p.m (kind_low Rule.Julian p.y) h.month in
    elim (dec_le 11582 p.y) [
      | yes a ↦ omega (arith, g, a, julian_later p.y p.m h.month)
      | no a ↦ omega (arith, a, h.day, day, month_room (kind_at Rule.Gregorian p.y) p.m (kind_low Rule.Gregorian p.y) (omega (arith, h.month)), h.month)
    ]

-- ---- the row of a cutover

-- a date after year 0, as a place
date_place : (p : Place) → 10000 < p.y → let x = label false p in day_place (lift x.year 10000) x.month x.day ≡ p
date_place p h = place_eq (ap (λ (y : ℤ). lift y 10000) (year_high p.y h) ∙ omega arith) (omega arith) (omega arith)

module _ (k : ℕ) where
  -- the last day kept, and the cutover, as places
  abbrev pub kept_place : Place
  kept_place = at Rule.Julian (4230602 + k)

  abbrev first_place : Place
  first_place = at Rule.Gregorian (4230526 + k)

  pub kept_label : last_kept_after k ≡ label false kept_place
  unfolding day_date
  kept_label = kept_is k

  first_label : cutover_after k ≡ label false first_place
  unfolding day_date
  first_label = cutover_is k

  written_at : at Rule.Julian (written_day k) ≡ first_place
  written_at = sym (place_at_lem Rule.Julian (written_day k)) ∙ (sym (written_place k) ∙ place_at_lem Rule.Gregorian (4230526 + k))

  kept_from : 11582 ≤ kept_place.y
  unfolding year_start
  kept_from = year_ge Rule.Julian (4230602 + k) 11582 (omega arith)

  first_from : 11582 ≤ first_place.y
  unfolding year_start
  first_from = year_ge Rule.Gregorian (4230526 + k) 11582 (omega arith)

  kept_at : last_place (standard_row k) ≡ kept_place
  kept_at = ap (λ (x : Date). day_place (lift x.year 10000) x.month x.day) kept_label ∙ date_place kept_place (omega (arith, kept_from))

  pub from_at : (counted_row (standard_row k)).from ≡ first_place
  from_at = ap (λ (x : Date). day_place (lift x.year 10000) x.month x.day) first_label ∙ date_place first_place (omega (arith, first_from))

  until_at : (counted_row (standard_row k)).until ≡ place_at kept_place.y kept_place.m (kept_place.i + 1)
  until_at = place_eq (ap (λ (p : Place). p.y) kept_at) (ap (λ (p : Place). p.m) kept_at) (ap (λ (x : Date). x.day) kept_label)

  until_from : 11582 ≤ (counted_row (standard_row k)).until.y
  until_from = rw (ap (λ (p : Place). p.y) until_at) kept_from

  from_from : 11582 ≤ (counted_row (standard_row k)).from.y
  from_from = rw (ap (λ (p : Place). p.y) from_at) first_from

  until_count : count Rule.Julian (counted_row (standard_row k)).until ≡ 4230603 + k
  unfolding count
  until_count = ap (count Rule.Julian) until_at ∙ omega (arith, at_count Rule.Julian (4230602 + k))

  pub cutover_day_lem : cutover_day (counted_row (standard_row k)) ≡ 4230526 + k
  unfolding cutover_day
  cutover_day_lem = ap (count Rule.Gregorian) from_at ∙ at_count Rule.Gregorian (4230526 + k)

  pub lag_77 : lag (counted_row (standard_row k)) ≡ 77
  unfolding lag
  lag_77 = omega (arith, until_count, cutover_day_lem)

  -- the dropped days keep the two parts from meeting
  pub standard_mixed : mixed (counted_row (standard_row k)) ≡ true
  standard_mixed = go (mixed (counted_row (standard_row k))) refl
    where
      go : (t : Bool) → mixed (counted_row (standard_row k)) ≡ t → t ≡ true
      go true e = refl
      go false e =
          let c = ap (count Rule.Julian) (meeting (standard_row k) e ∙ (from_at ∙ sym written_at)) in
          absurd (omega (arith, c, until_count, at_count Rule.Julian (written_day k), dropped_to k, some_dropped k))

  rises : Before (last_kept_after k) (cutover_after k)
  rises =
      subst (λ (x : Date). Before x (cutover_after k)) (sym (kept_is k))
      (subst (Before (day_date julian (4230602 + k))) (sym (written_is k)) (day_rises julian (4230602 + k) (written_day k) (omega (arith, dropped_to k))))

  -- up to 1923-12-31 the cutover lies before 1970
  module _ (h : k ≤ 124624) where
    from_to : (counted_row (standard_row k)).from.y ≤ 11923
    unfolding year_start
    from_to = rw (ap (λ (p : Place). p.y) from_at) (omega (arith, year_lt Rule.Gregorian (4230526 + k) 11924 (omega arith)))

    pub standard_cutover : Cutover (standard_row k)
    standard_cutover =
        record {
          last_at = ap (label false) kept_at ∙ sym kept_label;
          last_proper = subst (Proper Rule.Julian) (sym kept_at) (at_proper Rule.Julian (4230602 + k));
          first_at = ap (label false) from_at ∙ sym first_label;
          first_proper = subst (Proper Rule.Gregorian) (sym from_at) (at_proper Rule.Gregorian (4230526 + k));
          rises = rises;
          behind = omega (arith, until_count, cutover_day_lem);
          lag_small = omega (arith, lag_77);
          alone = λ e. absurd (true≢false (sym standard_mixed ∙ e));
          early_year = omega (arith, until_from);
          late_year = omega (arith, from_from);
          before_1970 = omega (arith, from_to);
          ahead = λ e p g l. omega (arith, cutover_day_lem, gregorian_behind k p g (omega (arith, l, lag_77, cutover_day_lem)));
        }

-- ---- the dropped dates, as a list of days

unfoldable days : ℕ → ℕ → List Date
days a zero = []
days a (suc n) = day_date julian a ∷ days (suc a) n

dates_to_lem : (x : Date) (b a n : ℕ) → n ≤ b → day_date julian (a + n) ≡ x → dates_to julian x b (day_date julian a) ≡ days a n
unfolding dates_to days
dates_to_lem x zero a zero h e = refl
dates_to_lem x zero a (suc n) h e = absurd (omega arith)
dates_to_lem x (suc b) a zero h e =
    ap (λ (t : Bool). list_if t (day_date julian a ∷ dates_to julian x b (day_after julian (day_date julian a))))
    (not_earlier (day_date julian a) x (λ g. not_before x (subst (λ (d : Date). Before d x) (ap (day_date julian) (omega arith) ∙ e) g)))
dates_to_lem x (suc b) a (suc n) h e =
    ap (λ (t : Bool). list_if t (day_date julian a ∷ dates_to julian x b (day_after julian (day_date julian a)))) (earlier_of (day_date julian a) x (subst (Before (day_date julian a)) e (day_rises julian a (a + suc n) (omega arith))))
    ∙ ap (λ (l : List Date). day_date julian a ∷ l) (ap (dates_to julian x b) (day_next julian a) ∙ dates_to_lem x b (suc a) n (omega arith) (ap (day_date julian) (omega arith) ∙ e))

every_of : (p : Date → Bool) (n a i : ℕ) → every_date p (days a n) ≡ true → a ≤ i → i < a + n → p (day_date julian i) ≡ true
unfolding every_date days
every_of p zero a i h g l = absurd (omega arith)
every_of p (suc n) a i h g l =
    let w = and_parts (p (day_date julian a)) (every_date p (days (suc a) n)) h in
    elim (dec_le (suc a) i) [
      | yes u ↦ every_of p n (suc a) i w.1 u (omega arith)
      | no u ↦ let e : a ≡ i = omega arith in subst (λ (j : ℕ). p (day_date julian j) ≡ true) e w.0
    ]

every_is : (p : Date → Bool) (n a : ℕ) → ((i : ℕ) → a ≤ i → i < a + n → p (day_date julian i) ≡ true) → every_date p (days a n) ≡ true
unfolding every_date days
every_is p zero a f = refl
every_is p (suc n) a f = both (p (day_date julian a)) (every_date p (days (suc a) n)) (f a (omega arith) (omega arith)) (every_is p n (suc a) (λ i g l. f i (omega arith) (omega arith)))

same_month_lem : (x y : Date) → x.year ≡ y.year → x.month ≡ y.month → same_month x y ≡ true
same_month_lem x y e f = both (same_year x.year y.year) (eqb x.month y.month) (ap (λ (z : ℤ). same_year z y.year) e ∙ same_year_lem y.year) (eq-eqb x.month y.month f)

one_month_is : (y : ℤ) (m n a : ℕ) → ((i : ℕ) → a ≤ i → i < a + n → (y ≡ (day_date julian i).year) × (m ≡ (day_date julian i).month)) → one_month (days a n) ≡ true
unfolding days
one_month_is y m zero a f = refl
one_month_is y m (suc n) a f =
    let h = f a (omega arith) (omega arith) in
    every_is (same_month (day_date julian a)) n (suc a) (λ i g l. let w = f i (omega arith) (omega arith) in same_month_lem (day_date julian a) (day_date julian i) (sym h.0 ∙ w.0) (sym h.1 ∙ w.1))

days_length : (n a : ℕ) → length (days a n) ≡ n
unfolding days
days_length zero a = refl
days_length (suc n) a = ap suc (days_length n (suc a))

listed_is : (x : Date) (n a i : ℕ) → a ≤ i → i < a + n → day_date julian i ≡ x → is_listed x (days a n) ≡ true
unfolding is_listed days
listed_is x zero a i h g e = absurd (omega arith)
listed_is x (suc n) a i h g e =
    elim (dec_le (suc a) i) [
      | yes u ↦ rw (listed_is x n (suc a) i u (omega arith) e) (or-true (same_date x (day_date julian a)))
      | no u ↦ let f : x ≡ day_date julian a = sym e ∙ ap (day_date julian) (omega arith) in rw (ap (same_date x) (sym f) ∙ same_self x)
    ]

listed_of : (x : Date) (n a : ℕ) → is_listed x (days a n) ≡ true → (i : ℕ) × (a ≤ i) × (i < a + n) × (day_date julian i ≡ x)
unfolding is_listed days
listed_of x zero a h = absurd (false≢true h)
listed_of x (suc n) a h = go (listed_of x n (suc a)) (same_date x (day_date julian a)) refl h
  where
    go : (is_listed x (days (suc a) n) ≡ true → (i : ℕ) × (suc a ≤ i) × (i < suc a + n) × (day_date julian i ≡ x)) → (t : Bool) → same_date x (day_date julian a) ≡ t → (t || is_listed x (days (suc a) n)) ≡ true → (i : ℕ) × (a ≤ i) × (i < a + suc n) × (day_date julian i ≡ x)
    go rest true e g = (a, omega arith, omega arith, sym (same_of x (day_date julian a) e))
    go rest false e g = let w = rest g in (w.0, omega (arith, w.1), omega (arith, w.2), w.3)

-- a next day that is no first of a month is the next day of its month
next_in_month : (p : Plain) (x : Date) → ((day_after p x).day ≡ 1 → ⊥) → day_after p x ≡ date x.year x.month (x.day + 1)
unfolding day_after
next_in_month p x = go (ltb x.day (last_day p x.year x.month)) (ltb x.month 12)
  where
    pick : Bool → Bool → Date
    pick a b = cond a (date x.year x.month (x.day + 1)) (cond b (date x.year (x.month + 1) 1) (date (next_year p.zero x.year) 1 1))

    go : (a b : Bool) → ((pick a b).day ≡ 1 → ⊥) → pick a b ≡ date x.year x.month (x.day + 1)
    go true b f = refl
    go false true f = absurd (f refl)
    go false false f = absurd (f refl)

-- a first of a month comes after every day, and more, of the month before it
before_next_first : (p : Plain) (x : Date) → 1 ≤ x.day → (day_after p x).day ≡ 1 → (e : ℕ) → Before (date x.year x.month e) (day_after p x)
unfolding day_after
before_next_first p x h f e = go (ltb x.day (last_day p x.year x.month)) (ltb x.month 12) f
  where
    pick : Bool → Bool → Date
    pick a b = cond a (date x.year x.month (x.day + 1)) (cond b (date x.year (x.month + 1) 1) (date (next_year p.zero x.year) 1 1))

    go : (a b : Bool) → (pick a b).day ≡ 1 → Before (date x.year x.month e) (pick a b)
    go true b g = absurd (omega arith)
    go false true g = by_month refl (omega arith)
    go false false g = by_year (later p.zero x.year)

-- ---- which cutovers are allowed

module _ (k : ℕ) where
  abbrev kept_month : ℕ
  kept_month = month_days (kind_at Rule.Julian (kept_place k).y) (kept_place k).m

  -- the dropped days fit into the month of the last day kept
  abbrev pub Fits : Type 0
  Fits = (kept_place k).i + drop_count k < kept_month

  module _ (f : Fits) where
    -- the i-th day after the last day kept
    pub kept_on : (i : ℕ) → i ≤ drop_count k → day_date julian (4230602 + k + i) ≡ date (last_kept_after k).year (last_kept_after k).month ((last_kept_after k).day + i)
    unfolding day_date count
    kept_on i h =
        let p = kept_place k in
        let w = at_proper Rule.Julian (4230602 + k) in
        ap (label false) (at_is Rule.Julian (place_at p.y p.m (p.i + i)) (4230602 + k + i) (record { month = w.month; day = omega arith }) (omega (arith, at_count Rule.Julian (4230602 + k))))
        ∙ date_eq (sym (ap (λ (x : Date). x.year) (kept_label k))) (sym (ap (λ (x : Date). x.month) (kept_label k))) (omega (arith, ap (λ (x : Date). x.day) (kept_label k)))

  module _ (h : k ≤ 124624) where
    dropped_are : dropped_dates k ≡ days (4230603 + k) (drop_count k)
    unfolding dropped_dates
    dropped_are =
        let e : day_after julian (last_kept_after k) ≡ day_date julian (4230603 + k) = ap (day_after julian) (kept_is k) ∙ (day_next julian (4230602 + k) ∙ ap (day_date julian) (omega arith)) in
        ap (dates_to julian (cutover_after k) 31) e ∙ dates_to_lem (cutover_after k) 31 (4230603 + k) (drop_count k) (omega (arith, few_dropped k h)) (ap (day_date julian) (dropped_to k) ∙ sym (written_is k))

    pub in_time : earlier last_cutover (cutover_after k) ≡ false
    in_time =
        not_earlier last_cutover (cutover_after k) (λ b.
        omega (arith, day_below gregorian 4355150 (4230526 + k) (subst (λ (x : Date). Before x (day_date gregorian (4230526 + k))) (sym last_1923) (subst (Before last_cutover) (cutover_is k) b))))

    fits_allowed : Fits → allowed_after k ≡ true
    unfolding allowed_after
    fits_allowed f =
        both (not (earlier last_cutover (cutover_after k))) (one_month (dropped_dates k) && no_first (dropped_dates k)) (ap not in_time)
        (both (one_month (dropped_dates k)) (no_first (dropped_dates k))
        (ap one_month dropped_are ∙ one_month_is (last_kept_after k).year (last_kept_after k).month (drop_count k) (4230603 + k) (λ i g l. let e = on i g l in (sym (ap (λ (x : Date). x.year) e), sym (ap (λ (x : Date). x.month) e))))
        (ap no_first dropped_are ∙ every_is (λ x. not (eqb x.day 1)) (drop_count k) (4230603 + k) (λ i g l. ap not (ne_eqb (day_date julian i).day 1 (λ u. omega (arith, u, ap (λ (x : Date). x.day) (on i g l), ap (λ (x : Date). x.day) (kept_label k)))))))
      where
        on : (i : ℕ) → 4230603 + k ≤ i → i < 4230603 + k + drop_count k → day_date julian i ≡ date (last_kept_after k).year (last_kept_after k).month ((last_kept_after k).day + (i - (4230602 + k)))
        on i g l = ap (day_date julian) (omega arith) ∙ kept_on f (i - (4230602 + k)) (omega arith)

    -- where they do not fit, the first of the next month is among them
    next_first : (Fits → ⊥) → (day_date julian (4230602 + k + (kept_month - (kept_place k).i))).day ≡ 1
    unfolding day_date count step_place
    next_first f =
        let p = kept_place k in
        let w = at_proper Rule.Julian (4230602 + k) in
        let l = place_at p.y p.m (kept_month - 1) in
        let n = 4230602 + k + (kept_month - 1 - p.i) in
        let e : at Rule.Julian n ≡ l = at_is Rule.Julian l n (record { month = w.month; day = omega (arith, w.day) }) (omega (arith, w.day, at_count Rule.Julian (4230602 + k))) in
        let s : suc n ≡ 4230602 + k + (kept_month - p.i) = omega (arith, w.day) in
        ap (λ (i : ℕ). (at Rule.Julian i).i + 1) (sym s) ∙ (ap (λ (q : Place). q.i + 1) (at_step Rule.Julian n ∙ ap (step_place Rule.Julian) e) ∙ rw (le-ltb (kept_month - 1 + 1) kept_month (omega (arith, w.day))) (go (ltb (p.m + 1) 12)))
      where
        go : (t : Bool) → (cond t (place_at (kept_place k).y ((kept_place k).m + 1) 0) (place_at (suc (kept_place k).y) 0 0)).i + 1 ≡ 1
        go true = refl
        go false = refl

    allowed_fits : allowed_after k ≡ true → Fits
    unfolding allowed_after
    allowed_fits e =
        elim (dec_le (suc ((kept_place k).i + drop_count k)) kept_month) [
          | yes f ↦ f
          | no f ↦
              let a = (and_parts (not (earlier last_cutover (cutover_after k))) (one_month (dropped_dates k) && no_first (dropped_dates k)) e).1 in
              let b = (and_parts (one_month (dropped_dates k)) (no_first (dropped_dates k)) a).1 in
              let i = 4230602 + k + (kept_month - (kept_place k).i) in
              let w = at_proper Rule.Julian (4230602 + k) in
              let t = every_of (λ x. not (eqb x.day 1)) (drop_count k) (4230603 + k) i (ap no_first (sym dropped_are) ∙ b) (omega (arith, w.day)) (omega (arith, w.day, f)) in
              absurd (eqb-false (day_date julian i).day 1 (not-true (eqb (day_date julian i).day 1) t) (next_first f))
        ]

    -- the test that is made
    pub allowed_test : ltb ((kept_place k).i + drop_count k) kept_month ≡ allowed_after k
    allowed_test =
        elim (dec_le (suc ((kept_place k).i + drop_count k)) kept_month) [
          | yes f ↦ lt-ltb ((kept_place k).i + drop_count k) kept_month f ∙ sym (fits_allowed f)
          | no f ↦ le-ltb ((kept_place k).i + drop_count k) kept_month (omega arith) ∙ sym (to_false (allowed_after k) (λ e. f (allowed_fits e)))
        ]

  -- after 1923-12-31 none is allowed
  pub too_late : 124624 < k → allowed_after k ≡ false
  unfolding allowed_after
  too_late h =
      left_out (not (earlier last_cutover (cutover_after k))) (one_month (dropped_dates k) && no_first (dropped_dates k))
      (ap not (earlier_of last_cutover (cutover_after k) (subst (Before last_cutover) (sym (cutover_is k)) (subst (λ (x : Date). Before x (day_date gregorian (4230526 + k))) last_1923 (day_rises gregorian 4355150 (4230526 + k) (omega arith))))))

  pub allowed_most : allowed_after k ≡ true → k ≤ 124624
  allowed_most e =
      elim (dec_le k 124624) [
        | yes h ↦ h
        | no h ↦ absurd (true≢false (sym e ∙ too_late (omega arith)))
      ]

-- ---- the cutover that a calendar uses

pub record Used (k : ℕ) : Type 0 where
  pub most : k ≤ 124624
  pub fits : Fits k

used_0 : Used 0
unfolding drop_count month_days kind_at count year_start month_start
used_0 =
    let e : kept_place 0 ≡ place_at 11582 9 3 = at_is Rule.Julian (place_at 11582 9 3) 4230602 (record { month = omega arith; day = omega arith }) refl in
    record { most = omega arith; fits = rw e (omega arith) }

pub used : (k : ℕ) → Used (days_used k)
used zero = used_0
used (suc k) = go (allowed_after (suc k)) refl
  where
    go : (t : Bool) → allowed_after (suc k) ≡ t → Used (cond t (suc k) zero)
    go true e = let h = allowed_most (suc k) e in record { most = h; fits = allowed_fits (suc k) h e }
    go false e = used_0

-- the dates between the last day kept and the cutover: the days of its month after it
module _ (k : ℕ) (f : Fits k) where
  abbrev l : Date
  l = last_kept_after k

  -- the last of them
  abbrev w : Date
  w = date l.year l.month (l.day + drop_count k)

  last_dropped : day_date julian (4230602 + k + drop_count k) ≡ w
  last_dropped = kept_on k f (drop_count k) (omega arith)

  after_dropped : day_after julian w ≡ cutover_after k
  after_dropped =
      let n = 4230602 + k + drop_count k in
      ap (day_after julian) (sym last_dropped) ∙ (day_next julian n ∙ (ap (day_date julian) (omega (arith, dropped_to k)) ∙ sym (written_is k)))

  pub dropped_in : (x : Date) → has_day julian x ≡ true → Before l x → Before x (cutover_after k) → InMonth l.year l.month l.day (l.day + drop_count k + 1) x
  dropped_in x h a b = go (compare x w)
    where
      go : Comparison x w → InMonth l.year l.month l.day (l.day + drop_count k + 1) x
      go (earlier_than c) = let i = in_month l.year l.month l.day (l.day + drop_count k) x a c in record { year = i.year; month = i.month; after = i.after; before = omega (arith, i.before) }
      go (same_as e) =
          let d = ap (λ (y : Date). y.day) e in
          record { year = sym (ap (λ (y : Date). y.year) e); month = sym (ap (λ (y : Date). y.month) e); after = omega (arith, some_dropped k); before = omega arith }
      go (later_than c) = absurd (none_before_next julian w x (ap (has_day julian) (sym last_dropped) ∙ day_exists julian (4230602 + k + drop_count k)) h c (subst (Before x) (sym after_dropped) b))

  -- the cutover is the first of a month, or comes after them in their month
  pub cutover_in_month : ((cutover_after k).day ≡ 1 → ⊥) → cutover_after k ≡ date l.year l.month (l.day + drop_count k + 1)
  cutover_in_month g = sym after_dropped ∙ next_in_month julian w (λ e. g (ap (λ (x : Date). x.day) (sym after_dropped) ∙ e))

  kept_low : 1 ≤ l.day
  kept_low = omega (arith, ap (λ (x : Date). x.day) (kept_label k))

  kept_high : l.day + drop_count k ≤ 31
  kept_high =
      let p = kept_place k in
      omega (arith, f, ap (λ (x : Date). x.day) (kept_label k), month_days_lem (kind_at Rule.Julian p.y) p.m (kind_low Rule.Julian p.y) (at_proper Rule.Julian (4230602 + k)).month)

  -- ---- they are those of the list

  module _ (h : k ≤ 124624) where
    pub drop_length : length (dropped_dates k) ≡ drop_count k
    drop_length = ap length (dropped_are k h) ∙ days_length (drop_count k) (4230603 + k)

    pub dropped_listed : (x : Date) → InMonth l.year l.month l.day (l.day + drop_count k + 1) x → is_listed x (dropped_dates k) ≡ true
    dropped_listed x m =
        let i = x.day - l.day in
        let e : day_date julian (4230602 + k + i) ≡ x = kept_on k f i (omega (arith, m.before)) ∙ date_eq m.year m.month (omega (arith, m.after)) in
        ap (is_listed x) (dropped_are k h) ∙ listed_is x (drop_count k) (4230603 + k) (4230602 + k + i) (omega (arith, m.after)) (omega (arith, m.after, m.before)) e

    pub listed_between : (x : Date) → is_listed x (dropped_dates k) ≡ true → (has_day julian x ≡ true) × (Before l x) × (Before x (cutover_after k))
    listed_between x e =
        let w = listed_of x (drop_count k) (4230603 + k) (ap (is_listed x) (sym (dropped_are k h)) ∙ e) in
        let i = w.0 in (
          ap (has_day julian) (sym w.3) ∙ day_exists julian i,
          subst (λ (y : Date). Before y x) (sym (kept_is k)) (subst (Before (day_date julian (4230602 + k))) w.3 (day_rises julian (4230602 + k) i (omega (arith, w.1)))),
          subst (Before x) (sym (written_is k)) (subst (λ (y : Date). Before y (day_date julian (written_day k))) w.3 (day_rises julian i (written_day k) (omega (arith, w.2, dropped_to k)))),
        )

    -- ---- how far a day of their month is stepped back

    pub most_cases : (P : ℕ → Type 0) → ((cutover_after k).day ≡ 1 → P (31 - l.day)) → (((cutover_after k).day ≡ 1 → ⊥) → P (drop_count k)) → P (most_back k)
    unfolding most_back
    most_cases P a b = go (eqb (cutover_after k).day 1) refl
      where
        go : (t : Bool) → eqb (cutover_after k).day 1 ≡ t → P (cond t (31 - l.day) (length (dropped_dates k)))
        go true e = a (eqb-true (cutover_after k).day 1 e)
        go false e = subst P (sym drop_length) (b (eqb-false (cutover_after k).day 1 e))

    pub most_low : 10 ≤ most_back k
    most_low = most_cases (λ n. 10 ≤ n) (λ e. omega (arith, kept_high, some_dropped k)) (λ e. some_dropped k)

    pub most_high : l.day + most_back k ≤ 31
    most_high = most_cases (λ n. l.day + n ≤ 31) (λ e. omega (arith, kept_high)) (λ e. kept_high)

    -- no day so far above the last day kept lies on the other side of the cutover
    pub before_cutover : (e : ℕ) → e ≤ l.day + most_back k → Before (date l.year l.month e) (cutover_after k)
    before_cutover e =
        most_cases (λ n. e ≤ l.day + n → Before (date l.year l.month e) (cutover_after k))
        (λ g h. subst (Before (date l.year l.month e)) after_dropped (before_next_first julian w (omega (arith, kept_low)) (ap (λ (x : Date). x.day) after_dropped ∙ g) e))
        (λ g h. let c = cutover_in_month g in subst (Before (date l.year l.month e)) (sym c) (by_day refl refl (omega arith)))
