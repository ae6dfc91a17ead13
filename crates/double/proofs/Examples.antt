-- Displacements and whole offsets by hand, computed from the definitions.
use Rattle.std.specs.Prelude.{Ok, Err}
use mathlib.Core.Path.{◌≡◌, refl}
use mathlib.Core.Bool.{true, false}
use Prim.Native.Nat.{◌*◌, ◌^◌}
use lib.IntN.{pos, negsuc}
use lib.Ieee.{fin}
use Rattle.refusal.specs.declared.Refusal.TheVariants.{OutOfRange, Inexact}
use Rattle.double.specs.Nearest.{nearest_size, nearest_displacement, nearest_count}
use Rattle.double.specs.Whole.{whole_of}

pub record Examples : Type 0 where
  -- 3/128 s is 23437.5 microseconds, and 1/128 s is 7812.5: ties to the even displacement
  pub tie_up : nearest_displacement 1000000 false 3 (negsuc 6) ≡ pos 23438
  pub tie_down : nearest_displacement 1000000 false 1 (negsuc 6) ≡ pos 7812
  -- the displacement -23438 is even, and the count is odd
  pub tie_before : nearest_count (pos 1) 1000000 true 3 (negsuc 6) ≡ negsuc 23436
  -- the greatest double, in milliseconds
  pub greatest : nearest_size 1000 9007199254740991 (pos 971) ≡ 9007199254740991000 * 2 ^ 971
  -- -2.5, -0, -2 ^ 63 and 2 ^ 63 as whole offsets
  pub fraction : whole_of (fin true 5 (negsuc 0)) ≡ Err Inexact
  pub minus_zero : whole_of (fin true 0 (pos 0)) ≡ Ok (pos 0)
  pub least : whole_of (fin true 1 (pos 63)) ≡ Ok (negsuc 9223372036854775807)
  pub past_greatest : whole_of (fin false 1 (pos 63)) ≡ Err OutOfRange

pub examples : Examples
unfolding whole_of
examples = record { tie_up = refl; tie_down = refl; tie_before = refl; greatest = refl; fraction = refl; minus_zero = refl; least = refl; past_greatest = refl }
