-- The dates of a row by their count: those of its early part before the cutover's day, and those of its late part, which lags, from
-- there on.
use mathlib.Core.Path.{◌≡◌, refl, sym, ap, ◌∙◌, subst}
use mathlib.Core.Bool.{Bool, true, false, ◌&&◌, cond}
use Prim.Native.Nat.{ℕ, suc, ◌+◌, ◌-◌, ◌<◌, ◌≤◌}
use native.Mathlib.Omega.{arith}
use native.Mathlib.Decide.{dec_le}
use lib.Dec.{ltb, eqb}
use lib.IntN.{ℤ, pos, sub_ℕ}
use borrow.Author.Tests.{ltb-true, ltb-false, lt-ltb, le-ltb, eqb-true, not-false}
use Rattle.signed.specs.Bias.{lift}
use Rattle.signed.proofs.Tests.{and_parts}
use Rattle.signed.proofs.Differences.{same_diff}
use Rattle.calendar.specs.Plain.{Plain, plain, month_days, last_day, date, day_after, has_day}
use Rattle.calendar.specs.Calendar.{CalendarRow, early_part, late_part, next_by, prev_by, exists_by, date_by, epoch}
use Rattle.calendar.specs.Closed.{kind_at, year_start, place_at, count, place_of, year_at, label, day_place, counted_row, mixed, cutover_day, late_from, lag, row_epoch}
use Rattle.calendar.specs.declared.Date.{Date}
use Rattle.calendar.specs.declared.place.Place.{Place}
use Rattle.calendar.specs.declared.rule.Rule.{Rule}
use Rattle.calendar.proofs.Years.{kind_low, year_most}
use Rattle.calendar.proofs.Tables.{month_days_lem}
use Rattle.calendar.proofs.Places.{at, at_step, at_proper, at_is, place_at_lem, month_first, step_place, place_eq, within_year, grows_to, year_grows, Proper}
use Rattle.calendar.proofs.Ordered.{date_eq, Before}
use Rattle.calendar.proofs.Labels.{kinds, after_at, there_at}
use Rattle.calendar.proofs.Plain.{Follows, day, month, year, exists_of, next_is, Chain, chain}
use Rattle.calendar.proofs.Walk.{rises, below, sequence}
use Rattle.calendar.proofs.Joint.{Junction, on_early, on_late, exists_on, next_last, next_early, next_late, joined}

name_1970 : (z : Bool) → year_at z 11970 ≡ pos 1970
name_1970 true = refl
name_1970 false = refl

-- ---- a plain calendar: the dates are the labels of its rule's places

module _ (p : Plain) where
  -- the date of the n-th day
  unfoldable pub day_date : ℕ → Date
  day_date n = label p.zero (at p.rule n)

  module _ (q : Place) (h : Proper p.rule q) where
    name : ℤ
    name = year_at p.zero q.y

    last : last_day p name (q.m + 1) ≡ month_days (kind_at p.rule q.y) q.m
    unfolding name
    last = let e : q.m + 1 - 1 ≡ q.m = omega arith in λ i. month_days (kinds p q.y i) (e i)

    step_by : (a b : Bool) → ltb (q.i + 1) (month_days (kind_at p.rule q.y) q.m) ≡ a → ltb (q.m + 1) 12 ≡ b
        → Follows p (label p.zero q) (label p.zero (cond a (place_at q.y q.m (q.i + 1)) (cond b (place_at q.y (q.m + 1) 0) (place_at (suc q.y) 0 0))))
    unfolding name
    step_by true b e f = day name (q.m + 1) (q.i + 1) (omega arith) (omega (arith, last, ltb-true (q.i + 1) (month_days (kind_at p.rule q.y) q.m) e))
    step_by false true e f =
        let d : last_day p name (q.m + 1) ≡ q.i + 1 = omega (arith, last, h.day, ltb-false (q.i + 1) (month_days (kind_at p.rule q.y) q.m) e) in
        subst (λ (n : ℕ). Follows p (date name (q.m + 1) n) (date name (q.m + 1 + 1) 1)) d (month name (q.m + 1) (omega arith) (ltb-true (q.m + 1) 12 f))
    step_by false false e f =
        let m : 12 ≡ q.m + 1 = omega (arith, h.month, ltb-false (q.m + 1) 12 f) in
        let d : last_day p name 12 ≡ q.i + 1 = ap (last_day p name) m ∙ omega (arith, last, h.day, ltb-false (q.i + 1) (month_days (kind_at p.rule q.y) q.m) e) in
        subst (λ (x : Date). Follows p x (date (year_at p.zero (suc q.y)) 1 1)) (date_eq refl m d)
        (subst (λ (y : ℤ). Follows p (date name 12 (last_day p name 12)) (date y 1 1)) (after_at p.zero q.y) (year name (there_at p.zero q.y)))

    step : Follows p (label p.zero q) (label p.zero (step_place p.rule q))
    unfolding step_place
    step = step_by _ _ refl refl

    -- a proper place is a date that exists
    pub place_exists : has_day p (label p.zero q) ≡ true
    unfolding name
    place_exists = exists_of p (label p.zero q) (record { month_low = omega arith; month_high = omega (arith, h.month); day_low = omega arith; day_high = omega (arith, last, h.day); there = there_at p.zero q.y })

    pub place_date : day_date (count p.rule q) ≡ label p.zero q
    unfolding day_date
    place_date = ap (label p.zero) (at_is p.rule q (count p.rule q) h refl)

  pub day_exists : (n : ℕ) → has_day p (day_date n) ≡ true
  unfolding day_date
  day_exists n = place_exists (at p.rule n) (at_proper p.rule n)

  pub day_next : (n : ℕ) → day_after p (day_date n) ≡ day_date (suc n)
  unfolding day_date
  day_next n = next_is p (step (at p.rule n) (at_proper p.rule n)) ∙ ap (label p.zero) (sym (at_step p.rule n))

  day_up : (n : ℕ) → Before (day_date n) (day_date (suc n))
  day_up n = subst (Before (day_date n)) (day_next n) ((chain p).later (day_date n) (day_exists n))

  pub day_rises : (a b : ℕ) → a < b → Before (day_date a) (day_date b)
  day_rises = rises day_date day_up

  pub day_below : (a b : ℕ) → Before (day_date a) (day_date b) → a < b
  day_below = below day_date day_up

  -- 1970-01-01 is the first day of year 11970
  pub day_epoch : day_date (year_start p.rule 11970) ≡ epoch
  unfolding day_date count
  day_epoch =
      let q = place_at 11970 0 0 in
      let e : at p.rule (year_start p.rule 11970) ≡ q = at_is p.rule q (year_start p.rule 11970) (record { month = omega arith; day = omega (arith, month_days_lem (kind_at p.rule 11970) 0 (kind_low p.rule 11970) (omega arith)) }) (omega (arith, month_first (kind_at p.rule 11970))) in
      ap (label p.zero) e ∙ date_eq (name_1970 p.zero) refl refl

-- day n by the closed form of its place
pub placed_date : (r : Rule) (z : Bool) (n : ℕ) → label z (place_of r n) ≡ day_date (plain r z) n
unfolding day_date
placed_date r z n = ap (label z) (place_at_lem r n)

-- ---- a row

abbrev pub last_place : CalendarRow → Place
last_place r = day_place (lift r.last.year 10000) r.last.month r.last.day

-- what the cutover of a row must satisfy: its two days exist and rise; the late rule lags, though by less than a year; parts that
-- meet at one place have one rule; both days lie in the years -9998 to 1969; and what is early by the early rule's count is so by the late one's
pub record Cutover (r : CalendarRow) : Type 0 where
  pub last_at : label r.zero (last_place r) ≡ r.last
  pub last_proper : Proper r.early (last_place r)
  pub first_at : label r.zero (counted_row r).from ≡ r.first
  pub first_proper : Proper r.late (counted_row r).from
  pub rises : Before r.last r.first
  pub behind : cutover_day (counted_row r) ≤ count r.early (counted_row r).until
  pub lag_small : lag (counted_row r) ≤ 300
  pub alone : mixed (counted_row r) ≡ false → r.early ≡ r.late
  pub early_year : 2 ≤ (counted_row r).until.y
  pub late_year : 2 ≤ (counted_row r).from.y
  pub before_1970 : (counted_row r).from.y < 11970
  pub ahead : mixed (counted_row r) ≡ true → (p : Place) → Proper r.early p → count r.early p < cutover_day (counted_row r) + lag (counted_row r) → count r.late p < cutover_day (counted_row r)

-- the date of the n-th day, from place 0 0 0 of the early rule
unfoldable pub row_date : CalendarRow → ℕ → Date
row_date r n = cond (ltb n (count r.early (counted_row r).until)) (day_date (early_part r) n) (day_date (late_part r) (n - lag (counted_row r)))

-- parts that meet
pub meeting : (r : CalendarRow) → mixed (counted_row r) ≡ false → (counted_row r).until ≡ (counted_row r).from
meeting r h =
    let p = (counted_row r).until in
    let q = (counted_row r).from in
    let a = and_parts (eqb p.y q.y) (eqb p.m q.m && eqb p.i q.i) (not-false (eqb p.y q.y && (eqb p.m q.m && eqb p.i q.i)) h) in
    let b = and_parts (eqb p.m q.m) (eqb p.i q.i) a.1 in
    place_eq (eqb-true p.y q.y a.0) (eqb-true p.m q.m b.0) (eqb-true p.i q.i b.1)

module _ (r : CalendarRow) (h : Cutover r) where
  -- the cutover's day by the early rule, the lag, and 1970-01-01
  abbrev k : ℕ
  k = count r.early (counted_row r).until

  abbrev l : ℕ
  l = lag (counted_row r)

  abbrev e : ℕ
  e = year_start r.late 11970 + l

  pub last_count : suc (count r.early (last_place r)) ≡ k
  unfolding count
  last_count = let d = ap (λ (x : Date). x.day) h.last_at in omega arith

  pub first_count : cutover_day (counted_row r) + l ≡ k
  unfolding lag
  first_count = omega (arith, h.behind)

  last_is : day_date (early_part r) (k - 1) ≡ r.last
  last_is = ap (day_date (early_part r)) (omega (arith, last_count)) ∙ (place_date (early_part r) (last_place r) h.last_proper ∙ h.last_at)

  first_is : day_date (late_part r) (k - l) ≡ r.first
  unfolding cutover_day
  first_is = ap (day_date (late_part r)) (omega (arith, first_count)) ∙ (place_date (late_part r) (counted_row r).from h.first_proper ∙ h.first_at)

  pub junction : Junction r
  junction =
      record {
        last = ap (has_day (early_part r)) (sym h.last_at) ∙ place_exists (early_part r) (last_place r) h.last_proper;
        first = ap (has_day (late_part r)) (sym h.first_at) ∙ place_exists (late_part r) (counted_row r).from h.first_proper;
        rises = h.rises;
      }

  pub date_early : (n : ℕ) → n < k → row_date r n ≡ day_date (early_part r) n
  unfolding row_date
  date_early n g = rw (lt-ltb n k g)

  pub date_late : (n : ℕ) → k ≤ n → row_date r n ≡ day_date (late_part r) (n - l)
  unfolding row_date
  date_late n g = rw (le-ltb n k g)

  -- ---- which side a day is on

  not_past : (n : ℕ) → n < k → Before r.last (day_date (early_part r) n) → ⊥
  not_past n g b = omega (arith, day_below (early_part r) (k - 1) n (subst (λ (w : Date). Before w (day_date (early_part r) n)) (sym last_is) b))

  not_short : (n : ℕ) → k - l ≤ n → Before (day_date (late_part r) n) r.first → ⊥
  not_short n g b = omega (arith, day_below (late_part r) n (k - l) (subst (Before (day_date (late_part r) n)) (sym first_is) b))

  pub row_exists : (n : ℕ) → exists_by r (row_date r n) ≡ true
  row_exists n =
      elim (dec_le (suc n) k) [
        | yes g ↦ ap (exists_by r) (date_early n g) ∙ exists_on r junction (day_date (early_part r) n) (on_early (day_exists (early_part r) n) (not_past n g))
        | no g ↦ ap (exists_by r) (date_late n (omega arith)) ∙ exists_on r junction (day_date (late_part r) (n - l)) (on_late (day_exists (late_part r) (n - l)) (not_short (n - l) (omega arith)))
      ]

  pub row_next : (n : ℕ) → next_by r (row_date r n) ≡ row_date r (suc n)
  row_next n =
      elim (dec_le (suc (suc n)) k) [
        | yes g ↦
            let b : Before (day_date (early_part r) n) r.last = subst (Before (day_date (early_part r) n)) last_is (day_rises (early_part r) n (k - 1) (omega arith)) in
            ap (next_by r) (date_early n (omega arith)) ∙ (next_early r junction (day_date (early_part r) n) b ∙ (day_next (early_part r) n ∙ sym (date_early (suc n) g)))
        | no g ↦ elim (dec_le k n) [
          | yes f ↦
              let e : suc (n - l) ≡ suc n - l = omega (arith, first_count) in
              ap (next_by r) (date_late n f) ∙ (next_late r junction (day_date (late_part r) (n - l)) (not_short (n - l) (omega arith)) ∙ (day_next (late_part r) (n - l) ∙ (ap (day_date (late_part r)) e ∙ sym (date_late (suc n) (omega arith)))))
          | no f ↦
              let e : n ≡ k - 1 = omega arith in
              let u : k - l ≡ suc n - l = omega (arith, last_count) in
              ap (next_by r) (date_early n (omega arith) ∙ (ap (day_date (early_part r)) e ∙ last_is)) ∙ (next_last r junction ∙ (sym first_is ∙ (ap (day_date (late_part r)) u ∙ sym (date_late (suc n) (omega arith)))))
        ]
      ]

  -- the late part begins before 1970
  pub late_epoch : cutover_day (counted_row r) ≤ year_start r.late 11970
  unfolding cutover_day
  late_epoch =
      let y = (counted_row r).from.y in
      omega (arith, (within_year r.late (counted_row r).from h.first_proper).1, grows_to (year_start r.late) (year_grows r.late) (suc y) 11970 h.before_1970)

  row_epoch_lem : row_date r e ≡ epoch
  row_epoch_lem = date_late e (omega (arith, late_epoch, first_count)) ∙ (ap (day_date (late_part r)) (omega arith) ∙ day_epoch (late_part r))

  pub row_chain : Chain (next_by r) (prev_by r) (exists_by r)
  row_chain = joined r junction

  pub row_start_lem : exists_by r epoch ≡ true
  row_start_lem = ap (exists_by r) (sym row_epoch_lem) ∙ row_exists e

  -- the dates of the day numbers
  pub row_dates : (n : ℕ) → date_by r (sub_ℕ n e) ≡ row_date r n
  row_dates = sequence r row_chain row_start_lem (row_date r) e row_exists row_next row_epoch_lem

  -- ---- the same by the count of the late rule

  late_dates : (n : ℕ) → date_by r (sub_ℕ n (row_epoch (counted_row r))) ≡ row_date r (n + l)
  unfolding row_epoch
  late_dates n = ap (date_by r) (same_diff n (year_start r.late 11970) (n + l) e (omega arith)) ∙ row_dates (n + l)

  pub dated_exists : (n : ℕ) → exists_by r (date_by r (sub_ℕ n (row_epoch (counted_row r)))) ≡ true
  dated_exists n = ap (exists_by r) (late_dates n) ∙ row_exists (n + l)

  pub dated_early : (n : ℕ) → n < late_from (counted_row r) → date_by r (sub_ℕ n (row_epoch (counted_row r))) ≡ day_date (early_part r) (n + l)
  dated_early n = go (mixed (counted_row r))
    where
      go : (t : Bool) → n < cond t (cutover_day (counted_row r)) 0 → date_by r (sub_ℕ n (row_epoch (counted_row r))) ≡ day_date (early_part r) (n + l)
      go true g = late_dates n ∙ date_early (n + l) (omega (arith, first_count))
      go false g = absurd (omega arith)

  -- where nothing is mixed nothing lags
  pub no_lag : mixed (counted_row r) ≡ false → l ≡ 0
  unfolding lag cutover_day
  no_lag g = let c : count r.early (counted_row r).until ≡ count r.late (counted_row r).from = λ i. count (h.alone g i) (meeting r g i) in omega arith

  pub dated_late : (n : ℕ) → late_from (counted_row r) ≤ n → date_by r (sub_ℕ n (row_epoch (counted_row r))) ≡ day_date (late_part r) n
  dated_late n = go (mixed (counted_row r)) refl
    where
      late : k ≤ n + l → date_by r (sub_ℕ n (row_epoch (counted_row r))) ≡ day_date (late_part r) n
      late g = late_dates n ∙ (date_late (n + l) g ∙ ap (day_date (late_part r)) (omega arith))

      go : (t : Bool) → mixed (counted_row r) ≡ t → cond t (cutover_day (counted_row r)) 0 ≤ n → date_by r (sub_ℕ n (row_epoch (counted_row r))) ≡ day_date (late_part r) n
      go true f g = late (omega (arith, first_count))
      go false f g =
          elim (dec_le k (n + l)) [
            | yes u ↦ late u
            | no u ↦
                let z : n + l ≡ n = omega (arith, no_lag f) in
                late_dates n ∙ (date_early (n + l) (omega arith) ∙ (λ i. day_date (plain (h.alone f i) r.zero) (z i)))
          ]

  -- ---- the number of a date, from its number on its side

  pub early_number : (n : ℕ) → (Before r.last (day_date (early_part r) n) → ⊥) → n < k
  early_number n f =
      elim (dec_le (suc n) k) [
        | yes g ↦ g
        | no g ↦ absurd (f (subst (λ (w : Date). Before w (day_date (early_part r) n)) last_is (day_rises (early_part r) (k - 1) n (omega (arith, last_count)))))
      ]

  pub late_number : (n : ℕ) → (Before (day_date (late_part r) n) r.first → ⊥) → k ≤ n + l
  late_number n f =
      elim (dec_le k (n + l)) [
        | yes g ↦ g
        | no g ↦ absurd (f (subst (Before (day_date (late_part r) n)) first_is (day_rises (late_part r) n (k - l) (omega (arith, first_count)))))
      ]

  -- ---- the numbers are small

  pub late_small : late_from (counted_row r) + l < 5000000
  late_small = go (mixed (counted_row r))
    where
      go : (t : Bool) → cond t (cutover_day (counted_row r)) 0 + l < 5000000
      go true = omega (arith, late_epoch, year_most r.late 11970, h.lag_small)
      go false = omega (arith, h.lag_small)
