-- What only inner functions compute.
use Rattle.std.specs.Prelude.{◌≡◌, true, List, ℕ, Err}
use Rattle.refusal.specs.declared.Refusal.{Refusal}
use Rattle.calendar.specs.declared.Date.{Date}
use Rattle.leap_seconds.specs.Leaps.{leaps, is_good}
use Rattle.tt2000.specs.Tt2000.{date_of_utc, is_utc_time, write_tt2000}
use Rattle.tt2000.specs.declared.UtcFields.{UtcFields}

-- fields of the date x are refused with r, whatever the list and the time of day, where both are good
abbrev pub RefusedFor : Date → Refusal → Type 0
RefusedFor x r = (s : List ℕ) (f : UtcFields) → is_good s ≡ true → is_utc_time (leaps s) f ≡ true → date_of_utc f ≡ x → Err r ≡ write_tt2000 s f
