-- The order of UTC times: by date, then by the time of day, field by field, second 60 after second 59.
use Rattle.std.specs.Prelude.{Bool, ◌&&◌, ◌||◌, ltb, eqb}
use Rattle.calendar.specs.Order.{earlier, same_date}
use Rattle.tt2000.specs.Tt2000.{date_of_utc}
use Rattle.tt2000.specs.declared.UtcFields.{UtcFields}

abbrev pub earlier_time : UtcFields → UtcFields → Bool
earlier_time f g =
    ltb f.hour g.hour
    || (eqb f.hour g.hour && (ltb f.minute g.minute || (eqb f.minute g.minute && (ltb f.second g.second || (eqb f.second g.second && ltb f.nanosecond g.nanosecond)))))

unfoldable pub earlier_utc : UtcFields → UtcFields → Bool
earlier_utc f g = earlier (date_of_utc f) (date_of_utc g) || (same_date (date_of_utc f) (date_of_utc g) && earlier_time f g)
