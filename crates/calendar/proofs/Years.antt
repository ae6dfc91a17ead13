-- A year's first day and the next year's differ by the months of the year, for each rule.
use mathlib.Core.Path.{◌≡◌, refl, ap}
use mathlib.Core.Bool.{Bool, true, false, not, ◌&&◌, ◌||◌, or-true, and-false}
use Prim.Native.Nat.{ℕ, zero, suc, ◌+◌, ◌-◌, ◌/◌, ◌*◌, ◌%◌, ◌<◌, ◌≤◌}
use native.Mathlib.Omega.{arith}
use native.Mathlib.Decide.{dec_le}
use lib.Dec.{eqb}
use borrow.Author.Tests.{eqb-true, eqb-false, eq-eqb, ne_eqb}
use Rattle.calendar.specs.Plain.{month_days, of_leap}
use Rattle.calendar.specs.Closed.{kind_at, month_start, year_start, julian_count, day_of_year, year_day, leap}
use Rattle.calendar.specs.declared.rule.Rule.{Rule}
use Rattle.calendar.specs.declared.rule.YearDay.{YearDay}

-- (y + k - 1) / k grows by one just after a multiple of k
four_yes : (y : ℕ) → y % 4 ≡ 0 → (suc y + 3) / 4 ≡ (y + 3) / 4 + 1
four_yes y h = omega arith

four_no : (y : ℕ) → (y % 4 ≡ 0 → ⊥) → (suc y + 3) / 4 ≡ (y + 3) / 4
four_no y h = omega arith

cent_yes : (y : ℕ) → y % 100 ≡ 0 → (suc y + 99) / 100 ≡ (y + 99) / 100 + 1
cent_yes y h = omega arith

cent_no : (y : ℕ) → (y % 100 ≡ 0 → ⊥) → (suc y + 99) / 100 ≡ (y + 99) / 100
cent_no y h = omega arith

quad_yes : (y : ℕ) → y % 400 ≡ 0 → (suc y + 399) / 400 ≡ (y + 399) / 400 + 1
quad_yes y h = omega arith

quad_no : (y : ℕ) → (y % 400 ≡ 0 → ⊥) → (suc y + 399) / 400 ≡ (y + 399) / 400
quad_no y h = omega arith

quad_cent : (y : ℕ) → y % 400 ≡ 0 → y % 100 ≡ 0
quad_cent y h = omega arith

cent_four : (y : ℕ) → y % 100 ≡ 0 → y % 4 ≡ 0
cent_four y h = omega arith

-- no subtraction goes below zero
room : (y : ℕ) → (y + 99) / 100 ≤ (y + 3) / 4
room y = omega arith

-- ---- the law, for each rule

common_days : month_start 0 12 ≡ 365
unfolding month_start month_days
common_days = refl

leap_days : month_start 1 12 ≡ 366
unfolding month_start month_days
leap_days = refl

pub thirty_days : month_start 2 12 ≡ 360
unfolding month_start month_days
thirty_days = refl

jul : (y : ℕ) (b : Bool) → eqb (y % 4) 0 ≡ b → year_start Rule.Julian (suc y) ≡ year_start Rule.Julian y + month_start (of_leap b) 12
unfolding year_start
jul y true e = omega (arith, leap_days, four_yes y (eqb-true _ _ e))
jul y false e = omega (arith, common_days, four_no y (eqb-false _ _ e))

greg : (y : ℕ) (a b c : Bool) → eqb (y % 4) 0 ≡ a → eqb (y % 100) 0 ≡ b → eqb (y % 400) 0 ≡ c → year_start Rule.Gregorian (suc y) ≡ year_start Rule.Gregorian y + month_start (of_leap ((a && not b) || c)) 12
unfolding year_start
greg y true true true e f g = omega (arith, room y, room (suc y), leap_days, four_yes y (eqb-true _ _ e), cent_yes y (eqb-true _ _ f), quad_yes y (eqb-true _ _ g))
greg y true true false e f g = omega (arith, room y, room (suc y), common_days, four_yes y (eqb-true _ _ e), cent_yes y (eqb-true _ _ f), quad_no y (eqb-false _ _ g))
greg y true false true e f g = absurd (eqb-false _ _ f (quad_cent y (eqb-true _ _ g)))
greg y true false false e f g = omega (arith, room y, room (suc y), leap_days, four_yes y (eqb-true _ _ e), cent_no y (eqb-false _ _ f), quad_no y (eqb-false _ _ g))
greg y false true c e f g = absurd (eqb-false _ _ e (cent_four y (eqb-true _ _ f)))
greg y false false true e f g = absurd (eqb-false _ _ f (quad_cent y (eqb-true _ _ g)))
greg y false false false e f g = omega (arith, room y, room (suc y), common_days, four_no y (eqb-false _ _ e), cent_no y (eqb-false _ _ f), quad_no y (eqb-false _ _ g))

pub year_law : (r : Rule) (y : ℕ) → year_start r (suc y) ≡ year_start r y + month_start (kind_at r y) 12
unfolding kind_at year_start
year_law Rule.Gregorian y = greg y _ _ _ refl refl refl
year_law Rule.Julian y = jul y _ refl
year_law Rule.Common y = omega (arith, common_days)
year_law Rule.Leap y = omega (arith, leap_days)
year_law Rule.Thirty y = omega (arith, thirty_days)

pub year_zero : (r : Rule) → year_start r 0 ≡ 0
unfolding year_start
year_zero Rule.Gregorian = refl
year_zero Rule.Julian = refl
year_zero Rule.Common = refl
year_zero Rule.Leap = refl
year_zero Rule.Thirty = refl

-- a line of the table
pub of_leap_low : (b : Bool) → of_leap b < 2
of_leap_low true = omega arith
of_leap_low false = omega arith

pub kind_low : (r : Rule) (y : ℕ) → kind_at r y < 3
unfolding kind_at
kind_low Rule.Gregorian y = omega (arith, of_leap_low (leap y))
kind_low Rule.Julian y = omega (arith, of_leap_low (eqb (y % 4) 0))
kind_low Rule.Common y = omega arith
kind_low Rule.Leap y = omega arith
kind_low Rule.Thirty y = omega arith

-- ---- the kind of a year, test by test
pub kind_400 : (y : ℕ) → y % 400 ≡ 0 → kind_at Rule.Gregorian y ≡ 1
unfolding kind_at
kind_400 y h = rw (eq-eqb (y % 400) 0 h) (ap of_leap (or-true (eqb (y % 4) 0 && not (eqb (y % 100) 0))))

pub kind_100 : (y : ℕ) → (y % 400 ≡ 0 → ⊥) → y % 100 ≡ 0 → kind_at Rule.Gregorian y ≡ 0
unfolding kind_at
kind_100 y n h = rw (ne_eqb (y % 400) 0 n, eq-eqb (y % 100) 0 h, and-false (eqb (y % 4) 0))

pub kind_4 : (y : ℕ) → (y % 100 ≡ 0 → ⊥) → y % 4 ≡ 0 → kind_at Rule.Gregorian y ≡ 1
unfolding kind_at
kind_4 y n h = rw (ne_eqb (y % 100) 0 n, eq-eqb (y % 4) 0 h)

pub kind_other : (y : ℕ) → (y % 400 ≡ 0 → ⊥) → (y % 4 ≡ 0 → ⊥) → kind_at Rule.Gregorian y ≡ 0
unfolding kind_at
kind_other y n h = rw (ne_eqb (y % 400) 0 n, ne_eqb (y % 4) 0 h)

-- of the century years that begin before year y one in four is a leap year
pub centuries : (y : ℕ) → 365 * y + (y + 3) / 4 - 3 * ((y + 99) / 100) / 4 ≡ 365 * y + (y + 3) / 4 + (y + 399) / 400 - (y + 99) / 100
centuries y = omega arith

pub kind_julian_4 : (y : ℕ) → y % 4 ≡ 0 → kind_at Rule.Julian y ≡ 1
unfolding kind_at
kind_julian_4 y h = rw (eq-eqb (y % 4) 0 h)

pub kind_julian_other : (y : ℕ) → (y % 4 ≡ 0 → ⊥) → kind_at Rule.Julian y ≡ 0
unfolding kind_at
kind_julian_other y h = rw (ne_eqb (y % 4) 0 h)

-- ---- a year starts from 360 days for each year before it to 366, and two

pub year_least : (r : Rule) (y : ℕ) → 360 * y ≤ year_start r y
unfolding year_start
year_least Rule.Gregorian y = omega (arith, room y)
year_least Rule.Julian y = omega arith
year_least Rule.Common y = omega arith
year_least Rule.Leap y = omega arith
year_least Rule.Thirty y = omega arith

pub year_most : (r : Rule) (y : ℕ) → year_start r y ≤ 366 * y + 2
unfolding year_start
year_most Rule.Gregorian y = omega arith
year_most Rule.Julian y = omega arith
year_most Rule.Common y = omega arith
year_most Rule.Leap y = omega arith
year_most Rule.Thirty y = omega arith

-- ---- day n within its year

-- a Gregorian year starts earlier than the Julian one, by a day for three of four century years before it
lagging : (y : ℕ) → year_start Rule.Gregorian y + 3 * ((y + 99) / 100) / 4 ≡ year_start Rule.Julian y
unfolding year_start
lagging y = omega (arith, room y)

-- the century years that julian_count counts are those before the year of its day
century : (n : ℕ) → (4 * julian_count n / 1461 + 99) / 100 ≡ (4 * n + 144636) / 146097
century n = omega arith

-- and the day lies before the next year, also where that is the first of a century
century_end : (n k y : ℕ) → 4 * n + 144636 < 146097 * suc k → 4 * (n + 3 * k / 4) < 1461 * suc y → (y + 99) / 100 ≡ k → n + 3 * ((suc y + 99) / 100) / 4 < year_start Rule.Julian (suc y)
unfolding year_start
century_end n k y g h e = go (dec_le (suc y) (100 * k))
  where
    same : (c q : ℕ) → c ≡ k → suc y + 3 ≤ 4 * q + 3 → n + 3 * c / 4 < 365 * suc y + q
    same c q f l = omega (arith, ap (λ (x : ℕ). 3 * x / 4) f)

    next : (c q : ℕ) → c ≡ suc k → y ≡ 100 * k → q ≡ 25 * k + 1 → n + 3 * c / 4 < 365 * suc y + q
    next c q f l m = omega (arith, ap (λ (x : ℕ). 3 * x / 4) f)

    go : Dec (suc y ≤ 100 * k) → n + 3 * ((suc y + 99) / 100) / 4 < 365 * suc y + (suc y + 3) / 4
    go (yes l) = same _ _ (omega arith) (omega arith)
    go (no l) = next _ _ (omega arith) (omega arith) (omega arith)

-- day d of year y is day n
pub record YearSplit (r : Rule) (n : ℕ) (t : YearDay) : Type 0 where
  pub counted : year_start r t.y + t.d ≡ n
  pub inside : t.d < month_start (kind_at r t.y) 12

-- a day of a year comes before the next year
before_next : (r : Rule) (n y d : ℕ) → year_start r y + d ≡ n → n < year_start r (suc y) → YearSplit r n (day_of_year y d)
before_next r n y d e h = record { counted = e; inside = omega (arith, year_law r y) }

julian_day : (n : ℕ) → YearSplit Rule.Julian n (year_day Rule.Julian n)
unfolding year_start
julian_day n = before_next Rule.Julian n _ _ (omega arith) (omega arith)

gregorian_day_lem : (n k y d : ℕ) → 4 * n + 144636 < 146097 * suc k → 4 * (n + 3 * k / 4) < 1461 * suc y → (y + 99) / 100 ≡ k → year_start Rule.Julian y + d ≡ n + 3 * k / 4 → YearSplit Rule.Gregorian n (day_of_year y d)
gregorian_day_lem n k y d g h e s =
    before_next Rule.Gregorian n y d (omega (arith, lagging y, ap (λ (c : ℕ). 3 * c / 4) e)) (omega (arith, lagging (suc y), century_end n k y g h e))

pub year_day_lem : (r : Rule) (n : ℕ) → YearSplit r n (year_day r n)
unfolding year_start
year_day_lem Rule.Gregorian n = gregorian_day_lem n _ _ _ (omega arith) (omega arith) (century n) (julian_day (julian_count n)).counted
year_day_lem Rule.Julian n = julian_day n
year_day_lem Rule.Common n = before_next Rule.Common n _ _ (omega arith) (omega arith)
year_day_lem Rule.Leap n = before_next Rule.Leap n _ _ (omega arith) (omega arith)
year_day_lem Rule.Thirty n = before_next Rule.Thirty n _ _ (omega arith) (omega arith)

pub year_pos : (r : Rule) (y : ℕ) → 0 < year_start r y → 1 ≤ y
year_pos r zero h = omega (arith, year_zero r)
year_pos r (suc y) h = omega arith
