-- Cases by hand: document 01's on calendar mode, and years beside them, with the days stepped back. One list, one proof, all over the definitions.
use mathlib.Core.List.{List, [], ◌∷◌, map}
use mathlib.Core.Path.{◌≡◌, refl}
use Prim.Native.Nat.{ℕ}
use lib.IntN.{ℤ, pos, negsuc}
use Rattle.calendar.specs.Calendar.{date, exists, exists_by, times, year_after, year_before}
use Rattle.calendar.specs.Order.{earlier}
use Rattle.calendar.specs.Plain.{has_day, kind, month_days}
use Rattle.calendar.specs.declared.Calendar.{Calendar}
use Rattle.calendar.specs.Cutover.{cutover_after, last_kept_after}
use Rattle.calendar.specs.declared.Calendar.TheVariants.{Standard, ProlepticGregorian, Day360}
use Rattle.calendar.specs.declared.Date.{Date}
use Rattle.step.specs.Steps.{step_after, step_before, steps, down_to, steps_down, date_after, days_back}
use Rattle.step.specs.declared.Part.{Part}

-- a date that is reached and the days that it is stepped back
pub record Given : Type 0 where
  pub reached : Date
  pub back : ℕ

-- so many steps from a date, and what is to be given
pub record Case : Type 0 where
  pub is : Given
  pub expected : Given

abbrev pub case : Part → Calendar → ℤ → Date → Date → ℕ → Case
case part c z x y k = record { is = record { reached = date_after part c z x; back = days_back part c z x }; expected = record { reached = y; back = k } }

abbrev pub cases : List Case
cases =
    case Part.Month (Standard 0) (pos 1) (date (pos 1930) 1 31) (date (pos 1930) 2 28) 3
    ∷ case Part.Month (Standard 0) (pos 2) (date (pos 1930) 1 31) (date (pos 1930) 3 31) 0
    ∷ case Part.Month (Standard 0) (pos 1) (date (pos 1582) 9 10) (date (pos 1582) 10 4) 6
    ∷ case Part.Month (Standard 0) (pos 1) (date (pos 1582) 9 15) (date (pos 1582) 10 15) 0
    ∷ case Part.Month (Standard 0) (pos 1) (date (negsuc 0) 12 31) (date (pos 1) 1 31) 0
    ∷ case Part.Month ProlepticGregorian (pos 1) (date (negsuc 0) 12 31) (date (pos 0) 1 31) 0
    ∷ case Part.Month Day360 (negsuc 10) (date (pos 2024) 1 30) (date (pos 2023) 2 30) 0
    ∷ case Part.Year (Standard 0) (pos 1) (date (pos 1581) 10 14) (date (pos 1582) 10 4) 10
    ∷ case Part.Year (Standard 0) (negsuc 3) (date (pos 2) 2 28) (date (negsuc 2) 2 28) 0
    ∷ case Part.Year (Standard 0) (pos 1) (date (pos 2000) 2 29) (date (pos 2001) 2 28) 1
    ∷ []

pub cases_hold : map (λ (k : Case). k.is) cases ≡ map (λ (k : Case). k.expected) cases
unfolding cutover_after last_kept_after date_after days_back steps times step_after step_before year_after year_before down_to steps_down exists exists_by earlier has_day kind month_days
cases_hold = refl
