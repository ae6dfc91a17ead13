-- The rounding of a fraction a / d: `closest a d` of lib.Ieee.Nearest is the nearest whole number, a tie to the even one.
use Rattle.std.specs.Prelude.{◌≡◌, Bool, ℕ, ◌*◌, eqb}
use Rattle.std.specs.Float.Ieee.Nearest.{closest}
use Rattle.rounding.specs.declared.Rounded.{Rounded}

-- whether a / d is a whole number: d times the nearest one is a
abbrev pub is_exact : ℕ → ℕ → Bool
is_exact a d = eqb (closest a d * d) a

-- r is a / d rounded
pub record RoundedTo (r : Rounded) (a d : ℕ) : Type 0 where
  pub nearest : r.count ≡ closest a d
  pub exactly : r.exact ≡ is_exact a d
