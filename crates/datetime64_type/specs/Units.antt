-- The thirteen units of datetime64, row by row: document 02, CR 1.
use Rattle.step.specs.declared.Part.{Part}
use Rattle.datetime64_type.specs.declared.UnitCode.{UnitCode}
use Rattle.datetime64_type.specs.declared.UnitCode.TheVariants.{Year, Month, Week, Day, Hour, Minute, Second, Millisecond, Microsecond, Nanosecond, Picosecond, Femtosecond, Attosecond}
use Rattle.datetime64_type.specs.declared.UnitRow.{UnitRow}

-- what one of a unit is: a calendar step, so many microseconds, or a microsecond divided by so many
abbrev pub unit_row_of : UnitCode → UnitRow
unit_row_of Year = UnitRow.Steps Part.Year
unit_row_of Month = UnitRow.Steps Part.Month
unit_row_of Week = UnitRow.Multiple 604800000000
unit_row_of Day = UnitRow.Multiple 86400000000
unit_row_of Hour = UnitRow.Multiple 3600000000
unit_row_of Minute = UnitRow.Multiple 60000000
unit_row_of Second = UnitRow.Multiple 1000000
unit_row_of Millisecond = UnitRow.Multiple 1000
unit_row_of Microsecond = UnitRow.Multiple 1
unit_row_of Nanosecond = UnitRow.Fraction 1000
unit_row_of Picosecond = UnitRow.Fraction 1000000
unit_row_of Femtosecond = UnitRow.Fraction 1000000000
unit_row_of Attosecond = UnitRow.Fraction 1000000000000
