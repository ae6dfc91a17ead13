-- A plain calendar: its dates follow each other one by one, and none lies between a date and the next.
use mathlib.Core.Path.{◌≡◌, refl, sym, ap, ◌∙◌, subst}
use mathlib.Core.Bool.{Bool, true, false, not, ◌&&◌, cond}
use Prim.Native.Nat.{ℕ, ◌+◌, ◌-◌, ◌<◌, ◌≤◌}
use native.Mathlib.Omega.{arith}
use lib.Dec.{leb, ltb}
use lib.IntN.{ℤ}
use borrow.Author.Tests.{le-leb, leb-true, lt-ltb, le-ltb, ltb-true, ltb-false, not-true}
use Rattle.signed.proofs.Tests.{both, and_parts}
use Rattle.signed.proofs.Order.{lt_trans}
use Rattle.calendar.specs.Plain.{Plain, leap_gregorian, leap_julian, counted, kind_by, kind, last_day, next_year, prev_year, lacks_year, date, day_after, day_before, has_day}
use Rattle.calendar.specs.declared.Date.{Date}
use Rattle.calendar.specs.declared.rule.Rule.{Rule}
use Rattle.calendar.proofs.Years.{of_leap_low}
use Rattle.calendar.proofs.Tables.{month_days_lem}
use Rattle.calendar.proofs.YearZero.{after_before, before_after, before_not_0, after_not_0, later, none_between}
use Rattle.calendar.proofs.Ordered.{date_eq, Before, by_year, by_month, by_day, clash, in_month}

-- what holds of a next-day rule, the rule that undoes it, and the dates they go through
pub record Chain (nx pv : Date → Date) (ex : Date → Bool) : Type 0 where
  pub after : (x : Date) → ex x ≡ true → ex (nx x) ≡ true
  pub before : (x : Date) → ex x ≡ true → ex (pv x) ≡ true
  pub undone : (x : Date) → ex x ≡ true → pv (nx x) ≡ x
  pub redone : (x : Date) → ex x ≡ true → nx (pv x) ≡ x
  pub later : (x : Date) → ex x ≡ true → Before x (nx x)

kind_by_low : (r : Rule) (y : ℤ) → kind_by r y < 3
kind_by_low Rule.Gregorian y = omega (arith, of_leap_low (leap_gregorian y))
kind_by_low Rule.Julian y = omega (arith, of_leap_low (leap_julian y))
kind_by_low Rule.Common y = omega arith
kind_by_low Rule.Leap y = omega arith
kind_by_low Rule.Thirty y = omega arith

pub record Valid (p : Plain) (x : Date) : Type 0 where
  pub month_low : 1 ≤ x.month
  pub month_high : x.month ≤ 12
  pub day_low : 1 ≤ x.day
  pub day_high : x.day ≤ last_day p x.year x.month
  pub there : lacks_year p.zero x.year ≡ false

pub data Follows (p : Plain) : Date → Date → Type 0 where
  day : (y : ℤ) (m d : ℕ) → 1 ≤ d → d < last_day p y m → Follows p (date y m d) (date y m (d + 1))
  month : (y : ℤ) (m : ℕ) → 1 ≤ m → m < 12 → Follows p (date y m (last_day p y m)) (date y (m + 1) 1)
  year : (y : ℤ) → lacks_year p.zero y ≡ false → Follows p (date y 12 (last_day p y 12)) (date (next_year p.zero y) 1 1)

module _ (p : Plain) where
  pub valid_of : (x : Date) → has_day p x ≡ true → Valid p x
  unfolding has_day
  valid_of x h =
      let l = last_day p x.year x.month in
      let c = and_parts ((leb 1 x.month && leb x.month 12) && (leb 1 x.day && leb x.day l)) (not (lacks_year p.zero x.year)) h in
      let q = and_parts (leb 1 x.month && leb x.month 12) (leb 1 x.day && leb x.day l) c.0 in
      let a = and_parts (leb 1 x.month) (leb x.month 12) q.0 in
      let b = and_parts (leb 1 x.day) (leb x.day l) q.1 in
      record { month_low = leb-true 1 x.month a.0; month_high = leb-true x.month 12 a.1; day_low = leb-true 1 x.day b.0; day_high = leb-true x.day l b.1; there = not-true (lacks_year p.zero x.year) c.1 }

  pub exists_of : (x : Date) → Valid p x → has_day p x ≡ true
  unfolding has_day
  exists_of x v =
      let l = last_day p x.year x.month in
      both ((leb 1 x.month && leb x.month 12) && (leb 1 x.day && leb x.day l)) (not (lacks_year p.zero x.year))
      (both (leb 1 x.month && leb x.month 12) (leb 1 x.day && leb x.day l)
      (both (leb 1 x.month) (leb x.month 12) (le-leb 1 x.month v.month_low) (le-leb x.month 12 v.month_high))
      (both (leb 1 x.day) (leb x.day l) (le-leb 1 x.day v.day_low) (le-leb x.day l v.day_high)))
      (ap not v.there)

  pub kind_low : (y : ℤ) → kind p y < 3
  unfolding kind
  kind_low y = kind_by_low p.rule (counted p.zero y)

  pub long : (y : ℤ) (m : ℕ) → 1 ≤ m → m ≤ 12 → (27 < last_day p y m) × (last_day p y m < 32)
  long y m h g = month_days_lem (kind p y) (m - 1) (kind_low y) (omega arith)

  -- ---- a follower is the next day, and `prev` undoes it

  pub next_is : {x y : Date} → Follows p x y → day_after p x ≡ y
  unfolding day_after
  next_is (day y m d a b) = rw (lt-ltb d (last_day p y m) b)
  next_is (month y m a b) = rw (le-ltb (last_day p y m) (last_day p y m) (omega arith), lt-ltb m 12 b)
  next_is (year y n) = rw (le-ltb (last_day p y 12) (last_day p y 12) (omega arith))

  pub prev_is : {x y : Date} → Follows p x y → day_before p y ≡ x
  unfolding day_before
  prev_is (day y m d a b) = rw (lt-ltb 1 (d + 1) (omega arith)) (date_eq refl refl (omega arith))
  prev_is (month y m a b) =
      let e : m + 1 - 1 ≡ m = omega arith in
      rw (lt-ltb 1 (m + 1) (omega arith)) (date_eq refl e (ap (last_day p y) e))
  prev_is (year y n) = let e = before_after p.zero y n in date_eq e refl (ap (λ (z : ℤ). last_day p z 12) e)

  valid_in : (y : ℤ) (m d : ℕ) → 1 ≤ m → m ≤ 12 → 1 ≤ d → d ≤ last_day p y m → lacks_year p.zero y ≡ false → Valid p (date y m d)
  valid_in y m d a b e f n = record { month_low = a; month_high = b; day_low = e; day_high = f; there = n }

  valid_after : {x y : Date} → Follows p x y → Valid p x → Valid p y
  valid_after (day y m d a b) v = valid_in y m (d + 1) v.month_low v.month_high (omega arith) (omega arith) v.there
  valid_after (month y m a b) v = valid_in y (m + 1) 1 (omega arith) (omega arith) (omega arith) (omega (arith, long y (m + 1) (omega arith) (omega arith))) v.there
  valid_after (year y n) v = valid_in (next_year p.zero y) 1 1 (omega arith) (omega arith) (omega arith) (omega (arith, long (next_year p.zero y) 1 (omega arith) (omega arith))) (after_not_0 p.zero y)

  valid_before : {x y : Date} → Follows p x y → Valid p y → Valid p x
  valid_before (day y m d a b) v = valid_in y m d v.month_low v.month_high a (omega arith) v.there
  valid_before (month y m a b) v = valid_in y m (last_day p y m) a (omega arith) (omega (arith, long y m a (omega arith))) (omega arith) v.there
  valid_before (year y n) v = valid_in y 12 (last_day p y 12) (omega arith) (omega arith) (omega (arith, long y 12 (omega arith) (omega arith))) (omega arith) n

  follows_later : {x y : Date} → Follows p x y → Before x y
  follows_later (day y m d a b) = by_day refl refl (omega arith)
  follows_later (month y m a b) = by_month refl (omega arith)
  follows_later (year y n) = by_year (later p.zero y)

  -- no date lies between a date and its follower
  past_last : (y : ℤ) (m : ℕ) (w : Date) → Valid p w → y ≡ w.year → m ≡ w.month → last_day p y m < w.day → ⊥
  past_last y m w v e f h = let g : last_day p y m ≡ last_day p w.year w.month = λ i. last_day p (e i) (f i) in omega (arith, v.day_high)

  none : {x y : Date} → Follows p x y → (w : Date) → Valid p w → Before x w → Before w y → ⊥
  none (day y m d a b) w v g h = let i = in_month y m d (d + 1) w g h in omega (arith, i.after, i.before)
  none (month y m a b) w v (by_year u) (by_year q) = clash y y (lt_trans y w.year y u q) refl
  none (month y m a b) w v (by_year u) (by_month e q) = clash y w.year u (sym e)
  none (month y m a b) w v (by_year u) (by_day e f q) = clash y w.year u (sym e)
  none (month y m a b) w v (by_month e u) (by_year q) = clash w.year y q (sym e)
  none (month y m a b) w v (by_month e u) (by_month f q) = omega arith
  none (month y m a b) w v (by_month e u) (by_day f g q) = omega (arith, v.day_low)
  none (month y m a b) w v (by_day e g u) q = past_last y m w v e g u
  none (year y n) w v (by_year u) (by_year q) = none_between p.zero y w.year u q v.there
  none (year y n) w v (by_year u) (by_month e q) = omega (arith, v.month_low)
  none (year y n) w v (by_year u) (by_day e f q) = omega (arith, v.day_low)
  none (year y n) w v (by_month e u) q = omega (arith, v.month_high)
  none (year y n) w v (by_day e g u) q = past_last y 12 w v e g u

  module _ (x : Date) (v : Valid p x) where
    pub follows_next : Follows p x (day_after p x)
    unfolding day_after
    follows_next = go (ltb x.day (last_day p x.year x.month)) (ltb x.month 12) refl refl
      where
        at_end : ltb x.day (last_day p x.year x.month) ≡ false → last_day p x.year x.month ≡ x.day
        at_end f = omega (arith, ltb-false x.day (last_day p x.year x.month) f, v.day_high)

        go : (b d : Bool) → ltb x.day (last_day p x.year x.month) ≡ b → ltb x.month 12 ≡ d
            → Follows p x (cond b (date x.year x.month (x.day + 1)) (cond d (date x.year (x.month + 1) 1) (date (next_year p.zero x.year) 1 1)))
        go true d f g = day x.year x.month x.day v.day_low (ltb-true x.day (last_day p x.year x.month) f)
        go false true f g =
            subst (λ (n : ℕ). Follows p (date x.year x.month n) (date x.year (x.month + 1) 1)) (at_end f) (month x.year x.month v.month_low (ltb-true x.month 12 g))
        go false false f g =
            let m : 12 ≡ x.month = omega (arith, ltb-false x.month 12 g, v.month_high) in
            subst (λ (w : Date). Follows p w (date (next_year p.zero x.year) 1 1)) (date_eq refl m (ap (last_day p x.year) m ∙ at_end f)) (year x.year v.there)

    pub follows_prev : Follows p (day_before p x) x
    unfolding day_before
    follows_prev = go (ltb 1 x.day) (ltb 1 x.month) refl refl
      where
        first_day_lem : ltb 1 x.day ≡ false → 1 ≡ x.day
        first_day_lem f = omega (arith, ltb-false 1 x.day f, v.day_low)

        go : (b d : Bool) → ltb 1 x.day ≡ b → ltb 1 x.month ≡ d
            → Follows p (cond b (date x.year x.month (x.day - 1)) (cond d (date x.year (x.month - 1) (last_day p x.year (x.month - 1))) (date (prev_year p.zero x.year) 12 (last_day p (prev_year p.zero x.year) 12)))) x
        go true d f g =
            let l : 1 < x.day = ltb-true 1 x.day f in
            let k : x.day - 1 + 1 ≡ x.day = omega arith in
            subst (λ (n : ℕ). Follows p (date x.year x.month (x.day - 1)) (date x.year x.month n)) k
            (day x.year x.month (x.day - 1) (omega arith) (omega (arith, v.day_high)))
        go false true f g =
            let l : 1 < x.month = ltb-true 1 x.month g in
            let k : x.month - 1 + 1 ≡ x.month = omega arith in
            subst (λ (w : Date). Follows p (date x.year (x.month - 1) (last_day p x.year (x.month - 1))) w) (date_eq refl k (first_day_lem f)) (month x.year (x.month - 1) (omega arith) (omega (arith, v.month_high)))
        go false false f g =
            let k : 1 ≡ x.month = omega (arith, ltb-false 1 x.month g, v.month_low) in
            let z = prev_year p.zero x.year in
            subst (λ (w : Date). Follows p (date z 12 (last_day p z 12)) w) (date_eq (after_before p.zero x.year v.there) k (first_day_lem f)) (year z (before_not_0 p.zero x.year))

  pub chain : Chain (day_after p) (day_before p) (has_day p)
  chain =
      record {
        after = λ x h. let v = valid_of x h in exists_of (day_after p x) (valid_after (follows_next x v) v);
        before = λ x h. let v = valid_of x h in exists_of (day_before p x) (valid_before (follows_prev x v) v);
        undone = λ x h. prev_is (follows_next x (valid_of x h));
        redone = λ x h. next_is (follows_prev x (valid_of x h));
        later = λ x h. follows_later (follows_next x (valid_of x h));
      }

  -- no date lies between a date and the next
  pub none_before_next : (x w : Date) → has_day p x ≡ true → has_day p w ≡ true → Before x w → Before w (day_after p x) → ⊥
  none_before_next x w h g = none (follows_next x (valid_of x h)) w (valid_of w g)
