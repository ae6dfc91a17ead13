-- A double as a whole 64-bit offset, for calendar mode: ± m * 2 ^ e is the fraction m * up e / down e, and whole where nothing is left over.
use Rattle.std.specs.Prelude.{cond, ◌*◌, ◌/◌, ◌%◌, ◌^◌, eqb, ltb, ℤ, Float, Result, Ok, Err}
use Rattle.std.specs.Int.Signed.{mag}
use Rattle.std.specs.Float.{nan, inf, fin}
use Rattle.std.specs.Float.Ieee.{up, down}
use Rattle.refusal.specs.declared.Refusal.TheVariants.{OutOfRange, Inexact, NotFinite}
use Rattle.signed.specs.Sign.{with_sign}
use Rattle.refusal.specs.declared.Refusal.{Refusal}

-- z where it is a signed number of 64 bits, from -2 ^ 63 to 2 ^ 63 - 1
abbrev pub in64 : ℤ → Result ℤ Refusal
in64 z = cond (ltb (mag z) (2 ^ 63)) (Ok z) (Err OutOfRange)

unfoldable pub whole_of : Float → Result ℤ Refusal
whole_of nan = Err NotFinite
whole_of (inf s) = Err NotFinite
whole_of (fin s m e) = cond (eqb (m * up e % down e) 0) (in64 (with_sign s (m * up e / down e))) (Err Inexact)
