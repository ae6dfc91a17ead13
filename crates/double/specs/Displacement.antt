-- The nearest displacement of a double on an axis whose period has P microseconds, as crate `double` answers it. specs/Nearest.antt has its meaning.
use Rattle.std.specs.Prelude.{◌≡◌, ℕ, ◌^◌, ◌≤◌, ◌<◌, Float, Result, Ok, Err}
use Rattle.std.specs.Int.Signed.{mag}
use Rattle.std.specs.Float.{nan, inf, fin}
use Rattle.std.specs.Float.Ieee.{down}
use Rattle.rounding.specs.Rounding.{is_exact}
use Rattle.double.specs.declared.Displacement.{Displacement}
use Rattle.refusal.specs.declared.Refusal.{Refusal}
use Rattle.refusal.specs.declared.Refusal.TheVariants.{OutOfRange, NotFinite}
use Rattle.double.specs.Nearest.{exact_size, nearest_size, nearest_displacement}

-- d is the nearest displacement of the finite double x, exact where nothing was rounded
unfoldable pub DisplacementOf : Displacement → ℕ → Float → Type 0
DisplacementOf d P nan = ⊥
DisplacementOf d P (inf s) = ⊥
DisplacementOf d P (fin s m e) = (d.count ≡ nearest_displacement P s m e) × (d.exact ≡ is_exact (exact_size P m e) (down e))

-- x is finite, and the size of its nearest displacement is less than 2 ^ 60
unfoldable pub IsSmall : ℕ → Float → Type 0
IsSmall P nan = ⊥
IsSmall P (inf s) = ⊥
IsSmall P (fin s m e) = nearest_size P m e < 2 ^ 60

-- or it is 2 ^ 60 or more
unfoldable pub IsLarge : ℕ → Float → Type 0
IsLarge P nan = ⊥
IsLarge P (inf s) = ⊥
IsLarge P (fin s m e) = 2 ^ 60 ≤ nearest_size P m e

-- or x is not finite
unfoldable pub IsNotFinite : Float → Type 0
IsNotFinite nan = Unit {0}
IsNotFinite (inf s) = Unit {0}
IsNotFinite (fin s m e) = ⊥

-- the answer: no finite number, or large, or the displacement
abbrev pub DisplacementAnswerOf : Result Displacement Refusal → ℕ → Float → Type 0
DisplacementAnswerOf (Ok d) P x = DisplacementOf d P x × (mag d.count ≤ 2 ^ 62)
DisplacementAnswerOf (Err OutOfRange) P x = IsLarge P x
DisplacementAnswerOf (Err NotFinite) P x = IsNotFinite x
DisplacementAnswerOf (Err r) P x = ⊥
