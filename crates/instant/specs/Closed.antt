-- What only inner functions compute: the ends of the range by closed forms, which proofs/Range.antt joins to the next-day rule; and the two parts
-- of an instant's answer.
use Rattle.std.specs.Prelude.{◌≡◌, Bool, ◌&&◌, ◌-◌, ℤ, Ok, Err, Option, Some, None}
use Rattle.std.proofs.Math.IntN.{sub_ℕ}
use Rattle.refusal.specs.declared.Refusal.{Refusal}
use Rattle.calendar.specs.Answers.{refusal_with}
use Rattle.calendar.specs.Closed.{epoch_day, first_day, end_day}
use Rattle.calendar.specs.declared.Calendar.{Calendar}
use Rattle.instant.specs.Instant.{day_length, instant_at, date_in, is_clock, instant_with}
use Rattle.instant.specs.declared.Fields.{Fields}

-- the first microsecond of year -9999
abbrev pub first_instant : Calendar → ℤ
first_instant c = instant_at (sub_ℕ (first_day c) (epoch_day c)) 0

-- the last microsecond of year 9999
abbrev pub last_instant : Calendar → ℤ
last_instant c = instant_at (sub_ℕ (end_day c - 1) (epoch_day c)) (day_length - 1)

-- why fields are refused, with what stands beside them
abbrev pub fields_refusal : Bool → Calendar → Fields → Refusal
fields_refusal rest c f = refusal_with (rest && is_clock f) c (date_in f)

-- their instant, or that there is none
abbrev pub FoundAt : Bool → Calendar → Fields → Option ℤ → Type 0
FoundAt rest c f (Some t) = instant_with rest c f ≡ Ok t
FoundAt rest c f None = instant_with rest c f ≡ Err (fields_refusal rest c f)
