-- Which days of a month exist: its first day does, and below a day that does not the next that does is the month's last or the last
-- day before the cutover.
use mathlib.Core.Path.{◌≡◌, refl, sym, ap, ◌∙◌, subst}
use mathlib.Core.Bool.{Bool, true, false, and-false, true≢false}
use Prim.Native.Nat.{ℕ, ◌+◌, ◌-◌, ◌<◌, ◌≤◌}
use native.Mathlib.Omega.{arith}
use native.Mathlib.Decide.{dec_le}
use lib.Dec.{leb}
use lib.IntN.{ℤ, pos}
use borrow.Author.Tests.{le-leb}
use Rattle.signed.proofs.Tests.{both, to_false}
use Rattle.calendar.specs.Plain.{Plain, kind, month_days, lacks_year, last_day, date, has_day}
use Rattle.calendar.specs.Calendar.{CalendarRow, early_part, late_part, exists_by, exists, has_year_zero, in_years, days_used, row_of}
use Rattle.calendar.specs.Closed.{year_start}
use Rattle.calendar.specs.declared.rule.Rule.{Rule}
use Rattle.calendar.specs.Cutover.{gregorian, last_cutover, most_back}
use Rattle.calendar.specs.Order.{earlier}
use Rattle.calendar.specs.declared.Calendar.{Calendar}
use Rattle.calendar.specs.declared.Calendar.TheVariants.{Standard, ProlepticGregorian, Julian, NoLeap, AllLeap, Day360}
use Rattle.calendar.specs.declared.Date.{Date}
use Rattle.calendar.proofs.Places.{year_lt, year_ge}
use Rattle.calendar.proofs.Labels.{year_in}
use Rattle.calendar.proofs.Ordered.{date_eq, earlier_of, Before, by_year, by_month, by_day, before?, before_trans, before_le, not_before, Comparison, earlier_than, same_as, later_than, compare, clash, in_month}
use Rattle.calendar.proofs.Plain.{valid_of, exists_of, long}
use Rattle.calendar.proofs.Joint.{Junction, Side, on_early, on_late, below, side_of, exists_on}
use Rattle.calendar.proofs.Cutovers.{kept_place, kept_label, used, in_time, dropped_in, cutover_in_month, most_cases, before_cutover}
use Rattle.calendar.proofs.Rows.{joint}

-- a month of a year that is there
pub record Month (z : Bool) (y : ℤ) (m : ℕ) : Type 0 where
  pub year : lacks_year z y ≡ false
  pub low : 1 ≤ m
  pub high : m ≤ 12

-- the dates that a cutover drops lie in the month of the last day before it
pub OneMonth : CalendarRow → Type 0
OneMonth r = (x : Date) → has_day (early_part r) x ≡ true → Before r.last x → Before x r.first → (r.last.year ≡ x.year) × (r.last.month ≡ x.month)

-- why a day is the next that exists below another
pub data Reason (r : CalendarRow) (y : ℤ) (m : ℕ) : ℕ → Type 0 where
  month_end : (p : Plain) → Reason r y m (last_day p y m)
  last_kept : r.last.year ≡ y → r.last.month ≡ m → Reason r y m r.last.day

-- the next day that exists below day d
pub record Below (r : CalendarRow) (y : ℤ) (m d : ℕ) : Type 0 where
  pub day : ℕ
  pub why : Reason r y m day
  pub less : day < d
  pub there : exists_by r (date y m day) ≡ true
  pub none : (k : ℕ) → day < k → k ≤ d → exists_by r (date y m k) ≡ false

-- a day of a month is a date of a plain calendar up to the month's length
has_day_lem : (p : Plain) (y : ℤ) (m d : ℕ) → Month p.zero y m → 1 ≤ d → d ≤ last_day p y m → has_day p (date y m d) ≡ true
has_day_lem p y m d h a b = exists_of p (date y m d) (record { month_low = h.low; month_high = h.high; day_low = a; day_high = b; there = h.year })

module _ (r : CalendarRow) (j : Junction r) (o : OneMonth r) (y : ℤ) (m : ℕ) (h : Month r.zero y m) where
  pub first_exists : exists_by r (date y m 1) ≡ true
  unfolding OneMonth
  first_exists =
      elim (before? x r.first) [
        | yes a ↦ elim (before? r.last x) [
          | yes b ↦ absurd (not_dropped b a)
          | no b ↦ exists_on r j x (on_early (has (early_part r) refl) b)
        ]
        | no a ↦ exists_on r j x (on_late (has (late_part r) refl) a)
      ]
    where
      x : Date
      x = date y m 1

      has : (p : Plain) → p.zero ≡ r.zero → has_day p (date y m 1) ≡ true
      has p e = has_day_lem p y m 1 (subst (λ (z : Bool). Month z y m) (sym e) h) (omega arith) (omega (arith, long p y m h.low h.high))

      -- the first of the month of the last day is not after it
      not_dropped : Before r.last x → Before x r.first → ⊥
      not_dropped (by_year a) q = let w = o x (has (early_part r) refl) (by_year a) q in clash r.last.year y a w.0
      not_dropped (by_month e a) q = let w = o x (has (early_part r) refl) (by_month e a) q in omega (arith, w.1)
      not_dropped (by_day e f a) q = omega (arith, (valid_of (early_part r) r.last j.last).day_low)

  module _ (d : ℕ) (low : 1 ≤ d) where
    abbrev x : Date
    x = date y m d

    -- of two days of the month not the greater comes before
    upto : (k : ℕ) (w : Date) → k ≤ d → Before x w → Before (date y m k) w
    upto k w a (by_year b) = by_year b
    upto k w a (by_month e b) = by_month e b
    upto k w a (by_day e f b) = by_day e f (omega arith)

    -- a day that its month has is there, if not late, and if not after the last
    not_late : (k : ℕ) → k ≤ d → Before x r.first → Side r (date y m k) → (has_day (early_part r) (date y m k) ≡ true → (Before r.last (date y m k) → ⊥) → ⊥) → ⊥
    not_late k a b (on_early g f) h = h g f
    not_late k a b (on_late g f) h = f (upto k r.first a b)

    early_end : Before x r.first → last_day (early_part r) y m < d → (Before r.last (date y m (last_day (early_part r) y m)) → ⊥) → Below r y m d
    early_end b g f =
        let l = last_day (early_part r) y m in
        record {
          day = l;
          why = month_end (early_part r);
          less = g;
          there = exists_on r j (date y m l) (on_early (has_day_lem (early_part r) y m l h (omega (arith, long (early_part r) y m h.low h.high)) (omega arith)) f);
          none = λ k a c. to_false (exists_by r (date y m k)) (λ e. not_late k c b (side_of r j (date y m k) e) (λ u v. omega (arith, (valid_of (early_part r) (date y m k) u).day_high)));
        }

    last_end : Before x r.first → r.last.year ≡ y → r.last.month ≡ m → r.last.day < d → Below r y m d
    last_end b e f g =
        let is : r.last ≡ date y m r.last.day = date_eq e f refl in
        record {
          day = r.last.day;
          why = last_kept e f;
          less = g;
          there = ap (exists_by r) (sym is) ∙ exists_on r j r.last (on_early j.last (not_before r.last));
          none = λ k a c. to_false (exists_by r (date y m k)) (λ u. not_late k c b (side_of r j (date y m k) u) (λ v w. w (by_day e f a)));
        }

    late_end : (Before x r.first → ⊥) → last_day (late_part r) y m < d → Below r y m d
    late_end b g =
        record {
          day = l;
          why = month_end (late_part r);
          less = g;
          there = exists_on r j w (on_late (has_day_lem (late_part r) y m l h (omega (arith, long (late_part r) y m h.low h.high)) (omega arith)) from);
          none = λ k a c. to_false (exists_by r (date y m k)) (λ e. not_there k a (side_of r j (date y m k) e));
        }
      where
        l : ℕ
        l = last_day (late_part r) y m

        w : Date
        w = date y m l

        -- the first late day lies at or before the last of the month
        past : (z : Date) → has_day (late_part r) z ≡ true → y ≡ z.year → m ≡ z.month → l < z.day → ⊥
        past z u e f a = let q : l ≡ last_day (late_part r) z.year z.month = λ i. last_day (late_part r) (e i) (f i) in omega (arith, (valid_of (late_part r) z u).day_high)

        from : Before w r.first → ⊥
        from a = go (compare r.first x)
          where
            go : Comparison r.first x → ⊥
            go (earlier_than c) = let i = in_month y m l d r.first a c in past r.first j.first i.year i.month i.after
            go (same_as e) = past r.first j.first (sym (ap (λ (q : Date). q.year) e)) (sym (ap (λ (q : Date). q.month) e)) (omega (arith, ap (λ (q : Date). q.day) e))
            go (later_than c) = b c

        not_there : (k : ℕ) → l < k → Side r (date y m k) → ⊥
        not_there k a (on_early u f) = from (before_trans w (date y m k) r.first (by_day refl refl a) (below r j (date y m k) f))
        not_there k a (on_late u f) = past (date y m k) u refl refl a

    -- below a day that does not exist
    pub day_below : exists_by r x ≡ false → Below r y m d
    unfolding OneMonth
    day_below n =
        elim (before? x r.first) [
          | yes a ↦ early a
          | no a ↦ late a
        ]
      where
        l : ℕ
        l = last_day (early_part r) y m

        late : (Before x r.first → ⊥) → Below r y m d
        late f =
            elim (dec_le d (last_day (late_part r) y m)) [
              | yes g ↦ absurd (true≢false (sym (exists_on r j x (on_late (has_day_lem (late_part r) y m d h low g) f)) ∙ n))
              | no g ↦ late_end f (omega arith)
            ]

        -- after the last day, before the first
        dropped : (k : ℕ) → k ≤ d → 1 ≤ k → k ≤ l → Before x r.first → Before r.last (date y m k) → Below r y m d
        dropped k a c g b u =
            let w = o (date y m k) (has_day_lem (early_part r) y m k h c g) u (upto k r.first a b) in
            last_end b w.0 w.1 (omega (arith, day_after_lem u w.0 w.1))
          where
            day_after_lem : Before r.last (date y m k) → r.last.year ≡ y → r.last.month ≡ m → r.last.day < k
            day_after_lem (by_year q) e f = absurd (clash r.last.year y q e)
            day_after_lem (by_month p q) e f = absurd (omega arith)
            day_after_lem (by_day p q v) e f = v

        early : Before x r.first → Below r y m d
        early b =
            elim (dec_le d l) [
              | yes g ↦ elim (before? r.last x) [
                | yes u ↦ dropped d (omega arith) low g b u
                | no u ↦ absurd (true≢false (sym (exists_on r j x (on_early (has_day_lem (early_part r) y m d h low g) u)) ∙ n))
              ]
              | no g ↦ elim (before? r.last (date y m l)) [
                | yes u ↦ dropped l (omega arith) (omega (arith, long (early_part r) y m h.low h.high)) (omega arith) b u
                | no u ↦ early_end b (omega arith) u
              ]
            ]

    -- the first day of the late part exists, so that it is not passed
    pub first_not_passed : (b : Below r y m d) → r.first.year ≡ y → r.first.month ≡ m → b.day < r.first.day → d < r.first.day
    first_not_passed b e f g =
        let is : date y m r.first.day ≡ r.first = date_eq (sym e) (sym f) refl in
        elim (dec_le r.first.day d) [
          | yes p ↦ absurd (true≢false (sym (ap (exists_by r) is ∙ exists_on r j r.first (on_late j.first (not_before r.first))) ∙ b.none r.first.day g p))
          | no p ↦ omega arith
        ]

-- ---- the calendars

in_october : (a b : ℕ) (x : Date) → Before (date (pos 1582) 10 a) x → Before x (date (pos 1582) 10 b) → (pos 1582 ≡ x.year) × (10 ≡ x.month)
in_october a b x p q = let i = in_month (pos 1582) 10 a b x p q in (i.year, i.month)

pub one_month_lem : (c : Calendar) → OneMonth (row_of c)
unfolding OneMonth
one_month_lem (Standard k) x g = λ p q. let i = dropped_in (days_used k) (used k).fits x g p q in (i.year, i.month)
one_month_lem ProlepticGregorian x g = in_october _ _ x
one_month_lem Julian x g = in_october _ _ x
one_month_lem NoLeap x g = in_october _ _ x
one_month_lem AllLeap x g = in_october _ _ x
one_month_lem Day360 x g = in_october _ _ x

module _ (c : Calendar) (y : ℤ) (m : ℕ) (h : Month (has_year_zero c) y m) where
  -- the first of every month exists
  pub first_there : exists c (date y m 1) ≡ true
  unfolding exists
  first_there = first_exists (row_of c) (joint c) (one_month_lem c) y m h

  -- below a day that does not exist: the next that does, and why
  pub below_day : (d : ℕ) → 1 ≤ d → exists c (date y m d) ≡ false → Below (row_of c) y m d
  unfolding exists
  below_day = day_below (row_of c) (joint c) (one_month_lem c) y m h

-- how many days n the next that exists lies below: up to 3, or in the month of the last day that `standard` kept up to `most_back`
pub data DaysBelow (c : Calendar) (y : ℤ) (m n : ℕ) : Type 0 where
  few : n ≤ 3 → DaysBelow c y m n
  among_dropped : (k : ℕ) → c ≡ Standard k → (row_of c).last.year ≡ y → (row_of c).last.month ≡ m → n ≤ most_back (days_used k) → DaysBelow c y m n

module _ (y : ℤ) (m d : ℕ) (low : 1 ≤ d) (high : d ≤ 31) where
  until : (c : Calendar) → Month (has_year_zero c) y m → (b : Below (row_of c) y m d) → (row_of c).first.year ≡ y → (row_of c).first.month ≡ m → b.day < (row_of c).first.day → d < (row_of c).first.day
  until c h b = first_not_passed (row_of c) (joint c) (one_month_lem c) y m h d low b

  -- below the cutover, or up to the 31st where it is the first of the next month
  below_cutover : (k : ℕ) → Month false y m → (b : Below (row_of (Standard k)) y m d) → (row_of (Standard k)).last.year ≡ y → (row_of (Standard k)).last.month ≡ m → (row_of (Standard k)).last.day ≡ b.day → d - b.day ≤ most_back (days_used k)
  below_cutover k h b e f g =
      most_cases (days_used k) (used k).fits (used k).most (λ n. d - b.day ≤ n) (λ u. omega arith) (λ u.
      let c = cutover_in_month (days_used k) (used k).fits u in
      let n = ap (λ (x : Date). x.day) c in
      omega (arith, until (Standard k) h b (ap (λ (x : Date). x.year) c ∙ e) (ap (λ (x : Date). x.month) c ∙ f) (omega arith)))

  -- only `standard` has days between the last of its early part and the first of its late one
  after_last : (c : Calendar) → Month (has_year_zero c) y m → (b : Below (row_of c) y m d) → (row_of c).last.year ≡ y → (row_of c).last.month ≡ m → (row_of c).last.day ≡ b.day → DaysBelow c y m (d - b.day)
  after_last (Standard k) h b e f g = among_dropped k refl e f (below_cutover k h b e f g)
  after_last ProlepticGregorian h b e f g = absurd (omega (arith, b.less, until ProlepticGregorian h b e f (omega arith)))
  after_last Julian h b e f g = absurd (omega (arith, b.less, until Julian h b e f (omega arith)))
  after_last NoLeap h b e f g = absurd (omega (arith, b.less, until NoLeap h b e f (omega arith)))
  after_last AllLeap h b e f g = absurd (omega (arith, b.less, until AllLeap h b e f (omega arith)))
  after_last Day360 h b e f g = absurd (omega (arith, b.less, until Day360 h b e f (omega arith)))

  pub days_below : (c : Calendar) → Month (has_year_zero c) y m → (b : Below (row_of c) y m d) → DaysBelow c y m (d - b.day)
  days_below c h b = by_reason b.day b.why refl
    where
      by_reason : (k : ℕ) → Reason (row_of c) y m k → k ≡ b.day → DaysBelow c y m (d - b.day)
      by_reason k (month_end p) e = few (omega (arith, long p y m h.low h.high))
      by_reason k (last_kept f g) e = after_last c h b f g e

-- ---- in the month of the last day that `standard` kept

module _ (k : ℕ) where
  abbrev l : Date
  l = (row_of (Standard k)).last

  -- it exists, and none of the days above it, as far as they are stepped back
  pub last_there : exists (Standard k) l ≡ true
  unfolding exists
  last_there = exists_on (row_of (Standard k)) (joint (Standard k)) l (on_early (joint (Standard k)).last (not_before l))

  pub past_last : (e : ℕ) → l.day < e → e ≤ l.day + most_back (days_used k) → exists (Standard k) (date l.year l.month e) ≡ false
  unfolding exists exists_by
  past_last e g h =
      let x = date l.year l.month e in
      let r = row_of (Standard k) in
      rw (earlier_of x r.first (before_cutover (days_used k) (used k).fits (used k).most e h), earlier_of l x (by_day refl refl g), and-false (has_day (early_part r) x))

  -- January 2000 lies after every cutover, and has 31 days
  pub january_there : (d : ℕ) → 1 ≤ d → d ≤ 31 → exists (Standard k) (date (pos 2000) 1 d) ≡ true
  unfolding exists earlier month_days kind
  january_there d a b =
      let x = date (pos 2000) 1 d in
      let r = row_of (Standard k) in
      exists_on r (joint (Standard k)) x (on_late (has_day_lem gregorian (pos 2000) 1 d (record { year = refl; low = omega arith; high = omega arith }) a (omega arith)) (λ f.
      true≢false (sym (earlier_of x last_cutover (before_le x r.first last_cutover f (λ g. true≢false (sym (earlier_of last_cutover r.first g) ∙ in_time (days_used k) (used k).most)))) ∙ refl)))

  pub last_inside : in_years l.year ≡ true
  unfolding year_start
  last_inside =
      let y = (kept_place (days_used k)).y in
      let n = 4230602 + days_used k in
      let high = year_lt Rule.Julian n 11970 (omega (arith, (used k).most)) in
      let low = year_ge Rule.Julian n 11582 (omega arith) in
      ap (λ (x : Date). in_years x.year) (kept_label (days_used k)) ∙ (year_in false y ∙ both (leb 2 y) (leb y 19999) (le-leb 2 y (omega arith)) (le-leb y 19999 (omega arith)))
