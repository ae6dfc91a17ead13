-- The rows of the thirteen units: what the laws of rows ask of them.
use Prim.Native.Nat.{ℕ, ◌/◌, ◌≤◌, ◌<◌}
use native.Mathlib.Nat.{div-le_self, div-mul-le_self}
use native.Mathlib.Omega.{arith}
use lib.Dec.{T}
use mathlib.Core.Bool.{true}
use Rattle.ratio.specs.Multiples.{Steps}
use Rattle.ratio.proofs.Places.{turned_steps}
use Rattle.datetime64_type.specs.Units.{unit_row_of}
use Rattle.datetime64_type.specs.declared.UnitCode.{UnitCode}
use Rattle.datetime64_type.specs.declared.UnitCode.TheVariants.{Year, Month, Week, Day, Hour, Minute, Second, Millisecond, Microsecond, Nanosecond, Picosecond, Femtosecond, Attosecond}
use Rattle.datetime64_type.specs.declared.UnitRow.{UnitRow}

abbrev pub GoodRow : UnitRow → Type 0
GoodRow (UnitRow.Steps part) = T true
GoodRow (UnitRow.Multiple k) = 0 < k
GoodRow (UnitRow.Fraction k) = 1000 ≤ k

pub rows : (unit : UnitCode) → GoodRow (unit_row_of unit)
rows Year = tt
rows Month = tt
rows Week = omega arith
rows Day = omega arith
rows Hour = omega arith
rows Minute = omega arith
rows Second = omega arith
rows Millisecond = omega arith
rows Microsecond = omega arith
rows Nanosecond = omega arith
rows Picosecond = omega arith
rows Femtosecond = omega arith
rows Attosecond = omega arith

pub divisor : {k : ℕ} → 1000 ≤ k → 0 < k
divisor h = omega arith

-- ---- multiples that lie between -A and B
module _ (A B k : ℕ) (low : A ≤ 9223372036854775808) (high : B < 9223372036854775808) (positive : 0 < k) where
  pub times_steps : Steps 1 k (A / k) (B / k)
  times_steps =
      record {
        positive = omega arith;
        positive_to = positive;
        least = omega (arith, div-le_self A k);
        greatest = omega (arith, div-le_self B k);
        least_to = omega (arith, div-mul-le_self A k);
        greatest_to = omega (arith, div-mul-le_self B k);
      }

  pub quotient_steps : Steps k 1 (A / k) (B / k)
  quotient_steps = turned_steps times_steps
