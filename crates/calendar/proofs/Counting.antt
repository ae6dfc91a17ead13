-- From a date to its day: the tests and the counts of the code.
use mathlib.Core.Path.{◌≡◌, refl, sym, ap, ◌∙◌, subst}
use mathlib.Core.Bool.{Bool, true, false, not, ◌&&◌, ◌||◌, cond, or-false, true≢false}
use Prim.Native.Nat.{ℕ, suc, ◌+◌, ◌-◌, ◌<◌, ◌≤◌}
use native.Mathlib.Omega.{arith}
use native.Mathlib.Decide.{dec_le}
use lib.Dec.{leb, ltb, eqb}
use lib.IntN.{ℤ, sub_ℕ}
use borrow.Author.Tests.{le-leb, leb-true, leb-false, lt-ltb, le-ltb, ltb-true, ltb-false, eqb-true, eq-eqb, ne_eqb}
use Rattle.signed.proofs.Tests.{both, and_parts, to_false, test_is}
use Rattle.calendar.specs.Plain.{Plain, plain, month_days, date, has_day}
use Rattle.calendar.specs.Calendar.{CalendarRow, early_part, late_part, exists_by, dropped_by, date_by, exists, dropped, date_of, has_year_zero, row_of}
use Rattle.calendar.specs.Closed.{CountedRow, kind_at, count, year_at, label, day_place, has_day_at, before_place, counted_row, counts, mixed, cutover_day, late_from, lag, is_early, rule_at, lag_at, row_epoch, epoch_day}
use Rattle.calendar.specs.Order.{same_year, earlier}
use Rattle.calendar.specs.declared.Calendar.{Calendar}
use Rattle.calendar.specs.declared.Calendar.TheVariants.{ProlepticGregorian}
use Rattle.calendar.specs.declared.Date.{Date}
use Rattle.calendar.specs.declared.place.Place.{Place}
use Rattle.calendar.specs.declared.rule.Rule.{Rule}
use Rattle.calendar.specs.Answers.{is_possible}
use Rattle.calendar.proofs.Years.{kind_low}
use Rattle.calendar.proofs.Tables.{month_days_lem}
use Rattle.calendar.proofs.Places.{Proper}
use Rattle.calendar.proofs.Ordered.{date_eq, Before, clash, year_eq, same_year_lem}
use Rattle.calendar.proofs.Labels.{kinds, there_at, name_lt}
use Rattle.calendar.proofs.Joint.{Side, on_early, on_late, side_of}
use Rattle.calendar.proofs.Days.{Cutover, junction, day_date, place_date, first_count, no_lag, date_early, row_exists, row_dates, dated_exists, dated_late, early_number, late_number}
use Rattle.calendar.proofs.Rows.{cutover, plain_exists}
use Rattle.calendar.proofs.Existing.{possible_parts}

-- ---- a date of a rule, by the count of its year

record HasDay (r : Rule) (y m d : ℕ) : Type 0 where
  month_low : 1 ≤ m
  month_high : m ≤ 12
  day_low : 1 ≤ d
  day_high : d ≤ month_days (kind_at r y) (m - 1)

module _ (r : Rule) (y m d : ℕ) where
  has_day_lem : has_day_at r y m d ≡ true → HasDay r y m d
  unfolding has_day_at
  has_day_lem h =
      let l = month_days (kind_at r y) (m - 1) in
      let q = and_parts (leb 1 m && leb m 12) (leb 1 d && leb d l) h in
      let a = and_parts (leb 1 m) (leb m 12) q.0 in
      let b = and_parts (leb 1 d) (leb d l) q.1 in
      record { month_low = leb-true 1 m a.0; month_high = leb-true m 12 a.1; day_low = leb-true 1 d b.0; day_high = leb-true d l b.1 }

  -- where the month and the day are possible, the length of the month decides
  pub by_length : is_possible m d ≡ true → has_day_at r y m d ≡ ltb (d - 1) (month_days (kind_at r y) (m - 1))
  unfolding has_day_at
  by_length possible =
      let p = possible_parts m d possible in
      let l = month_days (kind_at r y) (m - 1) in
      rw (le-leb 1 m p.0, le-leb m 12 p.1.0, le-leb 1 d p.1.1.0) (test_is (leb d l) (ltb (d - 1) l) (λ e. lt-ltb (d - 1) l (omega (arith, leb-true d l e, p.1.1.0))) (λ e. le-ltb (d - 1) l (omega (arith, leb-false d l e))))

  -- and else there is no such day
  pub not_possible : is_possible m d ≡ false → has_day_at r y m d ≡ false
  not_possible e =
      to_false (has_day_at r y m d) (λ h.
      let p = has_day_lem h in
      let w = month_days_lem (kind_at r y) (m - 1) (kind_low r y) (omega (arith, p.month_low, p.month_high)) in
      true≢false (sym (both (leb 1 m && leb m 12) (leb 1 d && leb d 31) (both (leb 1 m) (leb m 12) (le-leb 1 m p.month_low) (le-leb m 12 p.month_high)) (both (leb 1 d) (leb d 31) (le-leb 1 d p.day_low) (le-leb d 31 (omega (arith, p.day_high, w))))) ∙ e))

  proper_at : has_day_at r y m d ≡ true → Proper r (day_place y m d)
  proper_at h = let p = has_day_lem h in record { month = omega (arith, p.month_low, p.month_high); day = omega (arith, p.day_low, p.day_high) }

module _ (p : Plain) (y m d : ℕ) where
  exists_at : has_day p (date (year_at p.zero y) m d) ≡ has_day_at p.rule y m d
  unfolding has_day has_day_at
  exists_at =
      let a = (leb 1 m && leb m 12) && (leb 1 d && leb d (month_days (kind_at p.rule y) (m - 1))) in
      (λ i. ((leb 1 m && leb m 12) && (leb 1 d && leb d (month_days (kinds p y i) (m - 1)))) && not (there_at p.zero y i)) ∙ and_true a
    where
      and_true : (b : Bool) → (b && true) ≡ b
      and_true true = refl
      and_true false = refl

  date_at_lem : has_day_at p.rule y m d ≡ true → day_date p (count p.rule (day_place y m d)) ≡ date (year_at p.zero y) m d
  date_at_lem h =
      let v = has_day_lem p.rule y m d h in
      place_date p (day_place y m d) (proper_at p.rule y m d h) ∙ date_eq refl (omega (arith, v.month_low)) (omega (arith, v.day_low))

-- ---- which part of its calendar a date belongs to

-- years that have one name are one
name_one : (z : Bool) (a b : ℕ) → year_at z a ≡ year_at z b → a ≡ b
name_one z a b e =
    elim (dec_le (suc a) b) [
      | yes h ↦ absurd (clash (year_at z a) (year_at z b) (name_lt z a b ∙ lt-ltb a b h) e)
      | no h ↦ elim (dec_le (suc b) a) [
        | yes g ↦ absurd (clash (year_at z b) (year_at z a) (name_lt z b a ∙ lt-ltb b a g) (sym e))
        | no g ↦ omega arith
      ]
    ]

name_same : (z : Bool) (a b : ℕ) → same_year (year_at z a) (year_at z b) ≡ eqb a b
name_same z a b =
    test_is (same_year (year_at z a) (year_at z b)) (eqb a b)
    (λ e. eq-eqb a b (name_one z a b (year_eq (year_at z a) (year_at z b) e)))
    (λ e. to_false (eqb a b) (λ g. true≢false (sym (same_year_lem (year_at z b)) ∙ (ap (λ (n : ℕ). same_year (year_at z n) (year_at z b)) (sym (eqb-true a b g)) ∙ e))))

before_place_lem : (z : Bool) (y m d : ℕ) (p : Place) → earlier (date (year_at z y) m d) (label z p) ≡ before_place y m d p
unfolding earlier before_place
before_place_lem z y m d p = λ i. name_lt z y p.y i || (name_same z y p.y i && (ltb m (p.m + 1) || (eqb m (p.m + 1) && ltb d (p.i + 1))))

-- the test, field by field
module _ (y m d : ℕ) (p : Place) where
  pub by_other_year : (y ≡ p.y → ⊥) → ltb y p.y ≡ before_place y m d p
  unfolding before_place
  by_other_year h = rw (ne_eqb y p.y h) (sym (or-false (ltb y p.y)))

  module _ (e : y ≡ p.y) where
    same_one : before_place y m d p ≡ (ltb m (p.m + 1) || (eqb m (p.m + 1) && ltb d (p.i + 1)))
    unfolding before_place
    same_one = rw (le-ltb y p.y (omega arith), eq-eqb y p.y e)

    pub by_month_before : m ≤ p.m → true ≡ before_place y m d p
    by_month_before h = sym (same_one ∙ rw (lt-ltb m (p.m + 1) (omega arith)))

    pub by_month_after : p.m < m - 1 → false ≡ before_place y m d p
    by_month_after h = sym (same_one ∙ rw (le-ltb m (p.m + 1) (omega arith), ne_eqb m (p.m + 1) (λ f. omega arith)))

    pub by_day_test : p.m < m → m - 1 ≤ p.m → leb d p.i ≡ before_place y m d p
    by_day_test h g =
        let same : leb d p.i ≡ ltb d (p.i + 1) = test_is (leb d p.i) (ltb d (p.i + 1)) (λ f. lt-ltb d (p.i + 1) (omega (arith, leb-true d p.i f))) (λ f. le-ltb d (p.i + 1) (omega (arith, leb-false d p.i f))) in
        same ∙ sym (same_one ∙ rw (le-ltb m (p.m + 1) (omega arith), eq-eqb m (p.m + 1) (omega arith)))

module _ (r : CalendarRow) (h : Cutover r) (y m d : ℕ) where
  abbrev x : Date
  x = date (year_at r.zero y) m d

  abbrev k : CountedRow
  k = counted_row r

  before_first : earlier x r.first ≡ before_place y m d k.from
  before_first = ap (earlier x) (sym h.first_at) ∙ before_place_lem r.zero y m d k.from

  -- dropped is what the early rule has before the cutover, and does not exist
  dropped_is : dropped_by r x ≡ (before_place y m d k.from && (has_day_at r.early y m d && not (exists_by r x)))
  unfolding dropped_by exists_by
  dropped_is =
      go (earlier x r.first) (has_day (early_part r) x) (earlier r.last x) (has_day (late_part r) x)
      ∙ (λ i. before_first i && (exists_at (early_part r) y m d i && not (exists_by r x)))
    where
      go : (a b e f : Bool) → (a && (b && e)) ≡ (a && (b && not (cond a (b && not e) f)))
      go true true true f = refl
      go true true false f = refl
      go true false e f = refl
      go false b e f = refl

  -- ---- a date that is there, from its count

  pub record DayIs (z : ℤ) : Type 0 where
    pub there : exists_by r x ≡ true
    pub dated : date_by r z ≡ x

  abbrev early : ℕ
  early = count r.early (day_place y m d)

  abbrev late : ℕ
  late = count r.late (day_place y m d)

  late_from_cutover : mixed k ≡ true → late_from k ≡ cutover_day k
  late_from_cutover e = ap (λ (t : Bool). cond t (cutover_day k) 0) e

  all_late : mixed k ≡ false → late_from k ≡ 0
  all_late e = ap (λ (t : Bool). cond t (cutover_day k) 0) e

  pub early_there : has_day_at r.early y m d ≡ true → early < late_from k + lag k → DayIs (sub_ℕ early (row_epoch k + lag k))
  unfolding row_epoch
  early_there g l =
      let low : early < count r.early k.until = go (mixed k) refl in
      let is = date_early r h early low ∙ date_at_lem (early_part r) y m d g in
      record { there = ap (exists_by r) (sym is) ∙ row_exists r h early; dated = row_dates r h early ∙ is }
    where
      go : (t : Bool) → mixed k ≡ t → early < count r.early k.until
      go true e = omega (arith, l, late_from_cutover e, first_count r h)
      go false e = absurd (omega (arith, l, all_late e, no_lag r h e))

  pub late_there : has_day_at r.late y m d ≡ true → late_from k ≤ late → DayIs (sub_ℕ late (row_epoch k))
  late_there g l =
      let is = dated_late r h late l ∙ date_at_lem (late_part r) y m d g in
      record { there = ap (exists_by r) (sym is) ∙ dated_exists r h late; dated = is }

  -- ---- and the count of a date that is there

  module _ (there : exists_by r x ≡ true) where
    on_side : (A : Type 0) → (has_day_at r.early y m d ≡ true → early < cutover_day k + lag k → A) → (has_day_at r.late y m d ≡ true → cutover_day k ≤ late → A) → A
    on_side A f g = go (side_of r (junction r h) x there)
      where
        go : Side r x → A
        go (on_early a b) =
            let has = sym (exists_at (early_part r) y m d) ∙ a in
            f has (omega (arith, first_count r h, early_number r h early (λ q. b (subst (Before r.last) (date_at_lem (early_part r) y m d has) q))))
        go (on_late a b) =
            let has = sym (exists_at (late_part r) y m d) ∙ a in
            g has (omega (arith, first_count r h, late_number r h late (λ q. b (subst (λ (w : Date). Before w r.first) (date_at_lem (late_part r) y m d has) q))))

    pub counted_early : is_early k y m d ≡ true → (has_day_at r.early y m d ≡ true) × (early < late_from k + lag k)
    counted_early e = go (mixed k) refl
      where
        low : late < late_from k
        low = ltb-true late (late_from k) e

        go : (t : Bool) → mixed k ≡ t → (has_day_at r.early y m d ≡ true) × (early < late_from k + lag k)
        go true f = on_side ((has_day_at r.early y m d ≡ true) × (early < late_from k + lag k)) (λ a b. (a, omega (arith, b, late_from_cutover f))) (λ a b. absurd (omega (arith, b, low, late_from_cutover f)))
        go false f = absurd (omega (arith, low, all_late f))

    pub counted_late : is_early k y m d ≡ false → has_day_at r.late y m d ≡ true
    counted_late e = go (mixed k) refl
      where
        high : late_from k ≤ late
        high = ltb-false late (late_from k) e

        go : (t : Bool) → mixed k ≡ t → has_day_at r.late y m d ≡ true
        go true f = on_side (has_day_at r.late y m d ≡ true) (λ a b. absurd (omega (arith, high, late_from_cutover f, h.ahead f (day_place y m d) (proper_at r.early y m d a) b))) (λ a b. a)
        go false f = on_side (has_day_at r.late y m d ≡ true) (λ a b. ap (λ (q : Rule). has_day_at q y m d) (sym (h.alone f)) ∙ a) (λ a b. a)

    day_is : date_by r (sub_ℕ (count (rule_at k y m d) (day_place y m d)) (row_epoch k + lag_at k y m d)) ≡ x
    day_is = go (is_early k y m d) refl
      where
        go : (t : Bool) → is_early k y m d ≡ t → date_by r (sub_ℕ (count (cond t r.early r.late) (day_place y m d)) (row_epoch k + cond t (lag k) 0)) ≡ x
        go true e = let w = counted_early e in (early_there w.0 w.1).dated
        go false e = ap (λ (j : ℕ). date_by r (sub_ℕ late j)) (omega arith) ∙ (late_there (counted_late e) (ltb-false late (late_from k) e)).dated

-- ---- the calendars

module _ (c : Calendar) (y m d : ℕ) where
  pub dropped_by_lem : dropped c (date (year_at (has_year_zero c) y) m d) ≡ (before_place y m d (counts c).from && (has_day_at (counts c).early y m d && not (exists c (date (year_at (has_year_zero c) y) m d))))
  unfolding dropped exists
  dropped_by_lem = dropped_is (row_of c) (cutover c) y m d

  pub numbered : exists c (date (year_at (has_year_zero c) y) m d) ≡ true → date_of c (sub_ℕ (count (rule_at (counts c) y m d) (day_place y m d)) (epoch_day c + lag_at (counts c) y m d)) ≡ date (year_at (has_year_zero c) y) m d
  unfolding exists date_of
  numbered = day_is (row_of c) (cutover c) y m d

-- a date of `proleptic_gregorian` exists by its rule
pub gregorian_has : (y m d : ℕ) → exists ProlepticGregorian (date (year_at true y) m d) ≡ has_day_at Rule.Gregorian y m d
unfolding exists
gregorian_has y m d = plain_exists Rule.Gregorian true (date (year_at true y) m d) ∙ exists_at (plain Rule.Gregorian true) y m d
