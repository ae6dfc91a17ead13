-- The instant of a date as it is written: document 01, "The units text" and "Numbers returned". Date and time are local,
-- and what the zone is ahead of UTC is taken off. 4, 12 and 13 test what is written, and 5 the instant without the zone.
use Rattle.std.specs.Prelude.{Bool, ◌&&◌, cond, ℕ, ◌+◌, ◌*◌, ltb, ℤ, ◌-ℤ◌, Result, Ok, Err}
use Rattle.signed.specs.Sign.{with_sign}
use Rattle.refusal.specs.declared.Refusal.TheVariants.{OutOfRange}
use Rattle.calendar.specs.declared.Calendar.{Calendar}
use Rattle.instant.specs.Instant.{in_range, instant_with}
use Rattle.instant.specs.declared.Fields.{Fields}
use Rattle.date_text.specs.declared.Zone.{Zone}
use Rattle.date_text.specs.declared.WrittenDate.{WrittenDate}
use Rattle.refusal.specs.declared.Refusal.{Refusal}

abbrev pub local_fields : WrittenDate → Fields
local_fields w =
    record {
      year = with_sign w.negative w.year;
      month = w.month;
      day = w.day;
      hour = w.time.hour;
      minute = w.time.minute;
      second = w.time.second;
      microsecond = w.time.microsecond;
    }

-- ---- zones

-- a zone is possible: hours 0 to 23, minutes 0 to 59
abbrev pub is_zone : Zone → Bool
is_zone z = ltb z.hours 24 && ltb z.minutes 60

abbrev pub zone_length : Zone → ℕ
zone_length z = (z.hours * 60 + z.minutes) * 60000000

-- the microseconds by which local time is ahead of UTC
abbrev pub ahead : Zone → ℤ
ahead z = with_sign z.behind (zone_length z)

-- ---- the instant

-- an instant past the years -9999 to 9999 is refused
abbrev pub ranged : Calendar → ℤ → Result ℤ Refusal
ranged c t = cond (in_range c t) (Ok t) (Err OutOfRange)

-- a local instant less the zone
abbrev pub less_zone : Calendar → Zone → Result ℤ Refusal → Result ℤ Refusal
less_zone c z (Ok t) = ranged c (t -ℤ ahead z)
less_zone c z (Err r) = Err r

-- `instant_with` refuses local fields with their zone beside them. (It refuses years past the range before that; a date that is read has a
-- year of at most four digits: proofs/Order.antt.)
unfoldable pub written_instant : Calendar → WrittenDate → Result ℤ Refusal
written_instant c w = less_zone c w.time.zone (instant_with (is_zone w.time.zone) c (local_fields w))
