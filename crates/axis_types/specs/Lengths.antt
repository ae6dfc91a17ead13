-- Microseconds per period: document 01's table, row by row.
use Rattle.std.specs.Prelude.{ℕ}
use Rattle.axis_types.specs.declared.Period.{Period}
use Rattle.axis_types.specs.declared.Period.TheVariants.{Second, Millisecond, Minute, Hour, Day, Week, Month, Year}

abbrev pub length_of : Period → ℕ
length_of Millisecond = 1000
length_of Second = 1000000
length_of Minute = 60000000
length_of Hour = 3600000000
length_of Day = 86400000000
length_of Week = 604800000000
length_of Month = 2629743831225
length_of Year = 31556925974700
