-- The answers of the C boundary about one offset: the number, and zeros beside a refusal. Codes that name no axis are refused first. A
-- definition with the name of a call is what that call promises.
use Rattle.std.specs.Prelude.{false, ℕ, ℤ, pos, Float, Result, Ok, Err}
use Rattle.refusal.specs.Number.{number_of}
use Rattle.refusal.specs.declared.Refusal.{Refusal}
use Rattle.instant.specs.declared.Fields.{Fields}
use Rattle.axis_types.specs.declared.Axis.{Axis}
use Rattle.axis_types.specs.declared.OffsetReading.{OffsetReading}
use Rattle.axis.specs.Axis.{read_whole_on, whole_back, read_double_on, double_back, write_instant_on, write_fields_on}
use Rattle.codes.specs.Codes.{coded_axis}
use Rattle.codes.specs.declared.UppinaloAxis.{UppinaloAxis}
use Rattle.uppinalo.specs.declared.texts.UppinaloReading.{UppinaloReading}
use Rattle.uppinalo.specs.declared.offsets.UppinaloOffsetAnswer.{UppinaloOffsetAnswer}
use Rattle.axis_types.specs.Reading.{Reading}

-- ---- reading

abbrev pub no_reading : Refusal → UppinaloReading
no_reading r = record { number = number_of r; instant = pos 0; exact = false; days_back = 0 }

-- a reading, with the days that the day of the month is stepped back
abbrev pub of_reading : Reading → ℕ → UppinaloReading
of_reading (Ok (t, e)) k = record { number = 0; instant = t; exact = e; days_back = k }
of_reading (Err r) k = no_reading r

-- the same, of an offset that is read alone
abbrev pub of_offset_reading : Result OffsetReading Refusal → UppinaloReading
of_offset_reading (Ok a) = record { number = 0; instant = a.instant; exact = a.exact; days_back = a.days_back }
of_offset_reading (Err r) = no_reading r

abbrev pub read_on : Result Axis Refusal → (Axis → Reading) → (Axis → ℕ) → UppinaloReading
read_on (Ok a) read back = of_reading (read a) (back a)
read_on (Err r) read back = no_reading r

abbrev pub uppinalo_read_whole : UppinaloAxis → ℤ → UppinaloReading
uppinalo_read_whole axis n = read_on (coded_axis axis) (λ a. read_whole_on a n) (λ a. whole_back a n)

abbrev pub uppinalo_read_double : UppinaloAxis → Float → UppinaloReading
uppinalo_read_double axis x = read_on (coded_axis axis) (λ a. read_double_on a x) (λ a. double_back a x)

-- ---- writing

abbrev pub no_offset : Refusal → UppinaloOffsetAnswer
no_offset r = record { number = number_of r; offset = pos 0 }

abbrev pub of_offset : Result ℤ Refusal → UppinaloOffsetAnswer
of_offset (Ok n) = record { number = 0; offset = n }
of_offset (Err r) = no_offset r

abbrev pub write_on : Result Axis Refusal → (Axis → Result ℤ Refusal) → UppinaloOffsetAnswer
write_on (Ok a) write = of_offset (write a)
write_on (Err r) write = no_offset r

abbrev pub uppinalo_write_instant : UppinaloAxis → ℤ → UppinaloOffsetAnswer
uppinalo_write_instant axis t = write_on (coded_axis axis) (λ a. write_instant_on a t)

abbrev pub uppinalo_write_fields : UppinaloAxis → Fields → UppinaloOffsetAnswer
uppinalo_write_fields axis f = write_on (coded_axis axis) (λ a. write_fields_on a f)
