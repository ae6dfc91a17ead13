-- A number of a datetime64 unit read as an instant, and an instant written as such a number: document 02, CR 1.
-- Instants are those of `proleptic_gregorian`. Reading and writing are told once, by the unit's row.
use Rattle.std.specs.Prelude.{Bool, true, false, cond, eqb, ltb, ℤ, pos, negsuc, ◌*ℤ◌, Result, Ok, Err}
use Rattle.refusal.specs.declared.Refusal.TheVariants.{OutOfRange, Inexact, NotATime}
use Rattle.calendar.specs.declared.Calendar.TheVariants.{ProlepticGregorian}
use Rattle.instant.specs.Instant.{in_range}
use Rattle.fixed_axis.specs.Fixed.{reading_at, in_periods}
use Rattle.calendar_axis.specs.Steps.{read_steps, write_steps}
use Rattle.datetime64_type.specs.Units.{unit_row_of}
use Rattle.datetime64_type.specs.declared.UnitCode.{UnitCode}
use Rattle.datetime64_type.specs.declared.UnitRow.{UnitRow}
use Rattle.axis_types.specs.Reading.{Reading}
use Rattle.refusal.specs.declared.Refusal.{Refusal}

-- not-a-time is the least 64-bit number, -(9223372036854775807 + 1)
abbrev pub is_not_a_time : ℤ → Bool
is_not_a_time (pos n) = false
is_not_a_time (negsuc n) = eqb n 9223372036854775807

-- a 64-bit number that can hold a time: any but not-a-time
abbrev pub holds_time : ℤ → Bool
holds_time (pos n) = ltb n 9223372036854775808
holds_time (negsuc n) = ltb n 9223372036854775807

-- ---- reading

-- a whole count of microseconds, where there is one
abbrev pub count_read : Result ℤ Refusal → Reading
count_read (Ok t) = reading_at ProlepticGregorian t true
count_read (Err r) = Err r

-- n steps from 1970-01-01; n times so many microseconds; n divided by so many, where nothing is left over
unfoldable pub read_by_row : UnitRow → ℤ → Reading
read_by_row (UnitRow.Steps part) n = read_steps part ProlepticGregorian (pos 0) n
read_by_row (UnitRow.Multiple k) n = reading_at ProlepticGregorian (n *ℤ pos k) true
read_by_row (UnitRow.Fraction k) n = count_read (in_periods n k)

unfoldable pub read_number : UnitCode → ℤ → Reading
read_number unit n = cond (is_not_a_time n) (Err NotATime) (read_by_row (unit_row_of unit) n)

-- ---- writing

abbrev pub number_written : ℤ → Result ℤ Refusal
number_written n = cond (holds_time n) (Ok n) (Err Inexact)

-- the steps from 1970-01-01 to t; t divided by so many microseconds, where nothing is left over; t times so many, in 64 bits
unfoldable pub write_by_row : UnitRow → ℤ → Result ℤ Refusal
write_by_row (UnitRow.Steps part) t = write_steps part ProlepticGregorian (pos 0) t
write_by_row (UnitRow.Multiple k) t = in_periods t k
write_by_row (UnitRow.Fraction k) t = number_written (t *ℤ pos k)

unfoldable pub write_number : UnitCode → ℤ → Result ℤ Refusal
write_number unit t = cond (in_range ProlepticGregorian t) (write_by_row (unit_row_of unit) t) (Err OutOfRange)
