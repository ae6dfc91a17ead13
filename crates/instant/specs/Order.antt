-- The order of fields: by date, then by the time of day, field by field.
use Rattle.std.specs.Prelude.{Bool, ◌&&◌, ◌||◌, ltb, eqb}
use Rattle.calendar.specs.Order.{earlier, same_date}
use Rattle.instant.specs.Instant.{date_in}
use Rattle.instant.specs.declared.Fields.{Fields}

abbrev pub earlier_clock : Fields → Fields → Bool
earlier_clock f g =
    ltb f.hour g.hour
    || (eqb f.hour g.hour && (ltb f.minute g.minute || (eqb f.minute g.minute && (ltb f.second g.second || (eqb f.second g.second && ltb f.microsecond g.microsecond)))))

unfoldable pub earlier_fields : Fields → Fields → Bool
earlier_fields f g = earlier (date_in f) (date_in g) || (same_date (date_in f) (date_in g) && earlier_clock f g)
