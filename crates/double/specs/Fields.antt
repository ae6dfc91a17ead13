-- Closed forms that only inner functions compute: the fields of a double's bit pattern, and a finite double's size from the exponent's field and the digits t below the leading one.
use Rattle.std.specs.Prelude.{◌≡◌, ℕ, zero, suc, ◌+◌, ◌*◌, ◌/◌, ◌%◌, ◌^◌, ◌≤◌, ◌<◌, leb, Float, Result, Ok, Err}
use Rattle.std.proofs.Common.{mod-lt, pow_pos}
use Rattle.std.specs.Float.{binary64}
use Rattle.std.specs.Float.Ieee.{to_bits}
use Rattle.std.specs.Float.Ieee.Nearest.{closest}
use Rattle.std.specs.Int.Signed.{mag}
use Rattle.rounding.specs.Rounding.{is_exact}
use Rattle.signed.specs.Sign.{with_sign}
use Rattle.double.specs.declared.Displacement.{Displacement}
use Rattle.double.specs.declared.Pattern.{Pattern}
use Rattle.refusal.specs.declared.Refusal.{Refusal}
use Rattle.refusal.specs.declared.Refusal.TheVariants.{OutOfRange, Inexact, NotFinite}
use Rattle.double.specs.Displacement.{IsNotFinite}

abbrev pub pattern_of : Float → Pattern
pattern_of x = record { negative = leb (2 ^ 63) (to_bits binary64 x); field = to_bits binary64 x / 2 ^ 52 % 2048; digits = to_bits binary64 x % 2 ^ 52; short = mod-lt (to_bits binary64 x) {m = 2 ^ 52} (pow_pos 52) }

-- the pattern of a finite double, or that x is none
abbrev pub FinitePattern : Result Pattern Refusal → Float → Type 0
FinitePattern (Ok p) x = (p ≡ pattern_of x) × (p.field < 2047)
FinitePattern (Err r) x = (r ≡ NotFinite) × IsNotFinite x

-- the significand, with its leading one, and its weight: the size is significand * 2 ^ weight / 2 ^ 1074
abbrev pub significand : ℕ → ℕ → ℕ
significand zero t = t
significand (suc x) t = 2 ^ 52 + t

abbrev pub weight : ℕ → ℕ
weight zero = 0
weight (suc x) = x

abbrev pub field_size : ℕ → ℕ → ℕ
field_size field t = significand field t * 2 ^ weight field

-- d is the displacement that the pattern p of a finite double stands for
pub record PatternDisplacement (d : Displacement) (p : Pattern) (P : ℕ) : Type 0 where
  pub count : d.count ≡ with_sign p.negative (closest (field_size p.field p.digits * P) (2 ^ 1074))
  pub exact : d.exact ≡ is_exact (field_size p.field p.digits * P) (2 ^ 1074)
  pub small : mag d.count ≤ 2 ^ 62

-- r is the fraction a / d where it is whole, and else says that it is none, or large
unfoldable pub SizeOf : Result ℕ Refusal → ℕ → ℕ → Type 0
SizeOf (Ok n) a d = n * d ≡ a
SizeOf (Err Inexact) a d = a % d ≡ 0 → ⊥
SizeOf (Err OutOfRange) a d = (2 ^ 64 ≤ a / d) × (a % d ≡ 0)
SizeOf (Err r) a d = ⊥

abbrev pub WholeSize : Result ℕ Refusal → ℕ → ℕ → Type 0
WholeSize r field t = SizeOf r (field_size field t) (2 ^ 1074)
