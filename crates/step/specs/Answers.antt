-- What the functions answer, over the steps of specs/Steps.antt: the day that steps lead to, and the number of steps from one date to another.
use Rattle.std.specs.Prelude.{cond, ℕ, zero, suc, ℤ, negsuc, Result, Ok, Err, Option, Some, None}
use Rattle.std.proofs.Math.IntN.{suc_ℤ}
use Rattle.calendar.specs.Order.{same_date}
use Rattle.calendar.specs.declared.Calendar.{Calendar}
use Rattle.calendar.specs.declared.Date.{Date}
use Rattle.step.specs.Steps.{date_after}
use Rattle.step.specs.declared.DayInMonth.{DayInMonth}
use Rattle.step.specs.declared.Part.{Part}
use Rattle.refusal.specs.declared.Refusal.{Refusal}

-- a day number, with k days that it was stepped back; a refusal has none
abbrev pub stepped_back : Result ℤ Refusal → ℕ → Result DayInMonth Refusal
stepped_back (Ok n) k = Ok (record { number = n; days_back = k })
stepped_back (Err r) k = Err r

-- the first of the k numbers from z on at which f is the date d, or that none of them is one
unfoldable pub searched : (ℤ → Date) → Date → ℕ → ℤ → Option ℤ
searched f d zero z = None
searched f d (suc k) z = cond (same_date (f z) d) (Some z) (searched f d k (suc_ℤ z))

-- the number of steps that lead from x to d. Two months of the years -9999 to 9999 are fewer than 240000 months apart
unfoldable pub steps_between : Part → Calendar → Date → Date → Option ℤ
steps_between part c x d = searched (λ (z : ℤ). date_after part c z x) d 480000 (negsuc 239999)
