-- What is demanded of the instants that doubles are read as on a fixed axis (c, p, R): demand 3. proofs/Demands.antt proves it of every reading.
use Rattle.std.specs.Prelude.{◌≡◌, Bool, true, false, ℕ, ◌*◌, ◌≤◌, eqb, ℤ}
use Rattle.std.specs.Float.Ieee.{down}
use Rattle.calendar.specs.Calendar.{date_of}
use Rattle.calendar.specs.Order.{earlier}
use Rattle.calendar.specs.declared.Calendar.{Calendar}
use Rattle.axis_types.specs.Lengths.{length_of}
use Rattle.axis_types.specs.declared.Period.{Period}
use Rattle.instant.specs.Instant.{day_of, time_of, in_range}
use Rattle.double.specs.Nearest.{distance, IsNearest}

-- the double ± m * 2 ^ e, read as z: the nearest of all counts, at most half a microsecond from the exact time, exact just where the distance is 0, and in the range
pub record Demand3 (c : Calendar) (p : Period) (R : ℤ) (s : Bool) (m : ℕ) (e z : ℤ) (exact : Bool) : Type 0 where
  pub nearest : IsNearest R (length_of p) s m e z
  pub half : distance R (length_of p) s m e z * 2 ≤ down e
  pub mark : exact ≡ eqb (distance R (length_of p) s m e z) 0
  pub inside : in_range c z ≡ true

-- b does not come before a: its date is not the earlier one, and on one date its time of day is not less
pub record InOrder (c : Calendar) (a b : ℤ) : Type 0 where
  pub dates : earlier (date_of c (day_of b)) (date_of c (day_of a)) ≡ false
  pub times : date_of c (day_of a) ≡ date_of c (day_of b) → time_of a ≤ time_of b
