-- The date that steps lead to exists, whenever the date that they begin at does; and how far its day was stepped back.
use mathlib.Core.Path.{◌≡◌, refl}
use mathlib.Core.Bool.{Bool, true, false, cond}
use Prim.Native.Nat.{ℕ, ◌+◌, ◌-◌, ◌<◌, ◌≤◌}
use native.Mathlib.Omega.{arith}
use lib.Dec.{ltb}
use lib.IntN.{ℤ}
use borrow.Author.Tests.{ltb-true}
use Rattle.calendar.specs.Calendar.{year_after, year_before, exists, date}
use Rattle.calendar.specs.declared.Calendar.{Calendar}
use Rattle.calendar.specs.declared.Date.{Date}
use Rattle.calendar.proofs.Months.{DaysBelow}
use Rattle.calendar.proofs.Existing.{valid_of, valid_year, after_not_0, before_not_0}
use Rattle.step.specs.Steps.{YearMonth, year_month, year_month_of, step_after, step_before, month_reached, date_after, days_back}
use Rattle.step.specs.declared.Part.{Part}
use Rattle.step.proofs.Days.{passed_days, IsMonth, Kept, kept, kept_there, passed_none, passed_few}
use Rattle.step.proofs.Steps.{keeping}

module _ (c : Calendar) where
  after_month : (part : Part) (p : YearMonth) → IsMonth c p → IsMonth c (step_after part c p)
  unfolding step_after
  after_month Part.Month p h = go (ltb p.month 12) refl
    where
      go : (t : Bool) → ltb p.month 12 ≡ t → IsMonth c (cond t (year_month p.year (p.month + 1)) (year_month (year_after c p.year) 1))
      go true e = record { year = h.year; low = omega arith; high = omega (arith, ltb-true p.month 12 e) }
      go false e = record { year = after_not_0 c p.year; low = omega arith; high = omega arith }
  after_month Part.Year p h = record { year = after_not_0 c p.year; low = h.low; high = h.high }

  before_month : (part : Part) (p : YearMonth) → IsMonth c p → IsMonth c (step_before part c p)
  unfolding step_before
  before_month Part.Month p h = go (ltb 1 p.month) refl
    where
      go : (t : Bool) → ltb 1 p.month ≡ t → IsMonth c (cond t (year_month p.year (p.month - 1)) (year_month (year_before c p.year) 12))
      go true e = record { year = h.year; low = omega (arith, ltb-true 1 p.month e); high = omega (arith, h.high) }
      go false e = record { year = before_not_0 c p.year; low = omega arith; high = omega arith }
  before_month Part.Year p h = record { year = before_not_0 c p.year; low = h.low; high = h.high }

  -- steps by years keep the month
  pub month_kept : (z : ℤ) (p : YearMonth) → (month_reached Part.Year c z p).month ≡ p.month
  unfolding step_after step_before
  month_kept z p = keeping (step_after Part.Year c) (step_before Part.Year c) (λ (q : YearMonth). q.month ≡ p.month) (λ q h. h) (λ q h. h) z p refl

  module _ (part : Part) (x : Date) (there : exists c x ≡ true) (z : ℤ) where
    reached : IsMonth c (month_reached part c z (year_month_of x))
    reached =
        let v = valid_of c x there in
        keeping (step_after part c) (step_before part c) (IsMonth c) (after_month part) (before_month part) z (year_month_of x) (record { year = valid_year c x v; low = v.month_low; high = v.month_high })

    pub dates_there : exists c (date_after part c z x) ≡ true
    unfolding date_after
    dates_there = let p = month_reached part c z (year_month_of x) in kept_there c p.year p.month reached x.day (valid_of c x there).day_low

    pub days_kept : let d = date_after part c z x in Kept c d.year d.month x.day d.day
    unfolding date_after
    days_kept = let p = month_reached part c z (year_month_of x) in kept c p.year p.month reached x.day (valid_of c x there).day_low

    -- the days stepped back: the asked day less the given one
    pub days_apart : days_back part c z x + (date_after part c z x).day ≡ x.day
    unfolding date_after days_back
    days_apart = let p = month_reached part c z (year_month_of x) in passed_days c p.year p.month x.day

    -- none of them exists, and they are few
    pub back_none : let d = date_after part c z x in (k : ℕ) → d.day < k → k ≤ x.day → exists c (date d.year d.month k) ≡ false
    unfolding date_after
    back_none = let p = month_reached part c z (year_month_of x) in passed_none c p.year p.month reached x.day (valid_of c x there).day_low

    pub back_few : let d = date_after part c z x in DaysBelow c d.year d.month (days_back part c z x)
    unfolding date_after days_back
    back_few =
        let p = month_reached part c z (year_month_of x) in
        let v = valid_of c x there in
        passed_few c p.year p.month reached x.day v.day_low v.day_high
