-- Closed forms, which only inner functions compute; no promise to a caller of the library rests on them.
use Rattle.std.specs.Prelude.{ltb, ◌≡◌, cond, ℕ, Result, Ok, Err, Option, Some, None}
use Rattle.refusal.specs.declared.Refusal.TheVariants.{CutoverNotAllowed}
use Rattle.signed.specs.Bias.{unbiased}
use Rattle.calendar.specs.Calendar.{date_of}
use Rattle.calendar.specs.Closed.{Found}
use Rattle.calendar.specs.Cutover.{cutover_days, allowed}
use Rattle.calendar.specs.declared.Calendar.TheVariants.{Standard, ProlepticGregorian}
use Rattle.calendar.specs.declared.Date.{Date}
use Rattle.calendar.specs.declared.Calendar.{Calendar}
use Rattle.refusal.specs.declared.Refusal.{Refusal}

-- the day number of a date in `proleptic_gregorian` plus 2^63; none where the date has none
abbrev pub GregorianDay : Date → Option ℕ → Type 0
GregorianDay x (Some k) = date_of ProlepticGregorian (unbiased k) ≡ x
GregorianDay x None = Found ProlepticGregorian x None

-- the days from 1582-10-15 to a cutover; none where it is not allowed
unfoldable pub allowed_days : Date → Option ℕ
allowed_days x = cond (allowed x) (Some (cutover_days x)) None

-- `standard` with so many
abbrev pub standard_of : Option ℕ → Result Calendar Refusal
standard_of (Some k) = cond (ltb 124624 k) (Err CutoverNotAllowed) (Ok (Standard k))
standard_of None = Err CutoverNotAllowed
