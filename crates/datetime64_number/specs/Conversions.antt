-- What a run finds once for its unit. No promise to a caller of the library rests on it.
use Rattle.std.specs.Prelude.{◌≡◌, true, false, ℕ, ◌/◌, ℤ, pos, Result, Ok, Err}
use Rattle.std.proofs.Math.Option.{Option, none, some}
use Rattle.std.specs.Int.{w64}
use Rattle.std.proofs.Common.{SFits}
use Rattle.signed.specs.Bias.{biased}
use Rattle.refusal.specs.declared.Refusal.{Refusal}
use Rattle.calendar.specs.declared.Calendar.TheVariants.{ProlepticGregorian}
use Rattle.step.specs.declared.Part.{Part}
use Rattle.calendar_axis.specs.Start.{StartOf}
use Rattle.axis_types.specs.Reading.{is_read}
use Rattle.calendar_axis.specs.Steps.{read_steps}
use Rattle.ratio.specs.Multiples.{IsRatio, AroundZero, Between}
use Rattle.ratio.specs.declared.Bounds.{Bounds}
use Rattle.ratio.specs.declared.Ratio.{Ratio}
use Rattle.datetime64_type.specs.declared.UnitRow.{UnitRow}
use Rattle.datetime64_number.specs.Numbers.{is_not_a_time}
use Rattle.datetime64_number.specs.declared.Conversion.{Conversion}

-- the microseconds from 1970 back to the first instant of the years -9999 to 9999, and on to the last
abbrev pub years_below : ℕ
years_below = 377705116800000000

abbrev pub years_above : ℕ
years_above = 253402300799999999

-- the greatest 64-bit number
abbrev pub greatest_number : ℕ
greatest_number = 9223372036854775807

-- what is multiplied lies in the years where it is an instant, and in 64 bits where it is a number
abbrev pub ReadsByRatio : UnitRow → Ratio → Type 0
ReadsByRatio (UnitRow.Steps part) r = ⊥
ReadsByRatio (UnitRow.Multiple k) r = IsRatio r 1 k (years_below / k) (years_above / k)
ReadsByRatio (UnitRow.Fraction k) r = IsRatio r k 1 (greatest_number / k) (greatest_number / k)

abbrev pub WritesByRatio : UnitRow → Ratio → Type 0
WritesByRatio (UnitRow.Steps part) r = ⊥
WritesByRatio (UnitRow.Multiple k) r = IsRatio r k 1 (years_below / k) (years_above / k)
WritesByRatio (UnitRow.Fraction k) r = IsRatio r 1 k (greatest_number / k) (greatest_number / k)

-- the conversion of numbers of a unit into instants, and of instants into numbers
abbrev pub Reads : UnitRow → Conversion → Type 0
Reads row (Conversion.Calendar part start) = (row ≡ UnitRow.Steps part) × StartOf ProlepticGregorian (pos 0) start
Reads row (Conversion.Fixed ratio) = ReadsByRatio row ratio

abbrev pub Writes : UnitRow → Conversion → Type 0
Writes row (Conversion.Calendar part start) = (row ≡ UnitRow.Steps part) × StartOf ProlepticGregorian (pos 0) start
Writes row (Conversion.Fixed ratio) = WritesByRatio row ratio

-- why a number is refused, or nothing
abbrev pub refusal_in : Result (Unit {0}) Refusal → Option Refusal
refusal_in (Ok done) = none
refusal_in (Err r) = some r

-- every number of steps between the bounds is read
pub record NearBounds (part : Part) (b : Bounds) : Type 0 where
  pub around : AroundZero b
  pub time : (n : ℤ) → Between b (biased n) → is_not_a_time n ≡ false
  pub read : (n : ℤ) → SFits w64 n → Between b (biased n) → is_read (read_steps part ProlepticGregorian (pos 0) n) ≡ true
