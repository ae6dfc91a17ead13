-- Dates that lie more steps after a date are later: for every date and all numbers.
use mathlib.Core.Path.{◌≡◌, refl}
use mathlib.Core.Bool.{Bool, true, false, cond}
use Prim.Native.Nat.{ℕ, zero, suc, ◌+◌, ◌-◌}
use native.Mathlib.Omega.{arith}
use lib.Dec.{ltb}
use lib.IntN.{ℤ, pos, negsuc, pred_ℤ}
use lib.Signed.{lt_z}
use borrow.Author.Tests.{lt-ltb, ltb-true}
use Rattle.calendar.specs.Calendar.{has_year_zero, year_after, year_before, date}
use Rattle.calendar.specs.Plain.{skip_before}
use Rattle.calendar.specs.declared.Calendar.{Calendar}
use Rattle.calendar.specs.declared.Date.{Date}
use Rattle.calendar.proofs.Ordered.{Before, by_year, by_month, by_day, before_trans, year_later}
use Rattle.step.specs.Steps.{YearMonth, year_month, year_month_of, step_after, step_before, month_reached, down_to, date_after}
use Rattle.step.specs.declared.Part.{Part}
use Rattle.step.proofs.Steps.{rising}

-- ---- years

pred_less : (y : ℤ) → lt_z (pred_ℤ y) y ≡ true
pred_less (pos zero) = refl
pred_less (pos (suc n)) = lt-ltb n (suc n) (omega arith)
pred_less (negsuc n) = lt-ltb n (suc n) (omega arith)

skip_less : (y : ℤ) → lt_z (skip_before y) y ≡ true
skip_less (pos zero) = refl
skip_less (pos (suc zero)) = refl
skip_less (pos (suc (suc n))) = lt-ltb (suc n) (suc (suc n)) (omega arith)
skip_less (negsuc n) = lt-ltb n (suc n) (omega arith)

year_earlier : (c : Calendar) (y : ℤ) → lt_z (year_before c y) y ≡ true
unfolding year_before
year_earlier c y = go (has_year_zero c)
  where
    go : (z : Bool) → lt_z (cond z (pred_ℤ y) (skip_before y)) y ≡ true
    go true = pred_less y
    go false = skip_less y

-- ---- months

-- the earlier month: of two dates with the same day, the one in it is earlier
abbrev pub BeforeMonth : YearMonth → YearMonth → Type 0
BeforeMonth p q = Before (date p.year p.month 0) (date q.year q.month 0)

months_trans : (p q r : YearMonth) → BeforeMonth p q → BeforeMonth q r → BeforeMonth p r
months_trans p q r = before_trans (date p.year p.month 0) (date q.year q.month 0) (date r.year r.month 0)

-- whatever their days are
in_months : (p q : YearMonth) (d e : ℕ) → BeforeMonth p q → Before (date p.year p.month d) (date q.year q.month e)
in_months p q d e (by_year h) = by_year h
in_months p q d e (by_month f h) = by_month f h
in_months p q d e (by_day f g h) = absurd (omega arith)

module _ (c : Calendar) where
  step_later : (part : Part) (p : YearMonth) → BeforeMonth p (step_after part c p)
  unfolding step_after
  step_later Part.Month p = go (ltb p.month 12)
    where
      go : (t : Bool) → BeforeMonth p (cond t (year_month p.year (p.month + 1)) (year_month (year_after c p.year) 1))
      go true = by_month refl (omega arith)
      go false = by_year (year_later c p.year)
  step_later Part.Year p = by_year (year_later c p.year)

  step_earlier : (part : Part) (p : YearMonth) → BeforeMonth (step_before part c p) p
  unfolding step_before
  step_earlier Part.Month p = go (ltb 1 p.month) refl
    where
      go : (t : Bool) → ltb 1 p.month ≡ t → BeforeMonth (cond t (year_month p.year (p.month - 1)) (year_month (year_before c p.year) 12)) p
      go true e = by_month refl (omega (arith, ltb-true 1 p.month e))
      go false e = by_year (year_earlier c p.year)
  step_earlier Part.Year p = by_year (year_earlier c p.year)

  pub months_rise : (part : Part) (p : YearMonth) (z w : ℤ) → lt_z z w ≡ true → BeforeMonth (month_reached part c z p) (month_reached part c w p)
  months_rise part = rising (step_after part c) (step_before part c) BeforeMonth months_trans (step_later part) (step_earlier part)

  pub dates_rise : (part : Part) (x : Date) (z w : ℤ) → lt_z z w ≡ true → Before (date_after part c z x) (date_after part c w x)
  unfolding date_after
  dates_rise part x z w h =
      let p = month_reached part c z (year_month_of x) in
      let q = month_reached part c w (year_month_of x) in
      in_months p q (down_to c p.year p.month x.day) (down_to c q.year q.month x.day) (months_rise part (year_month_of x) z w h)
