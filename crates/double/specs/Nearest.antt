-- The exact time that a double stands for on a fixed axis, and the count of microseconds nearest to it (document 01, "Numbers returned").
-- A finite double is ± m * 2 ^ e: s is its sign, true for minus, m its significand, and 2 ^ e the fraction up e / down e of whole numbers.
-- On an axis with the reference R and P microseconds to its period, the exact time is R ± m * 2 ^ e * P. It is never rounded: all below counts in parts of a microsecond, of which down e make one.
use Rattle.std.specs.Prelude.{◌≡◌, Bool, ℕ, ◌*◌, ◌≤◌, ◌%◌, ℤ, pos, nat_abs, ◌+ℤ◌, ◌-ℤ◌, ◌*ℤ◌}
use Rattle.std.specs.Float.Ieee.{up, down}
use Rattle.std.specs.Float.Ieee.Nearest.{closest}
use Rattle.signed.specs.Sign.{with_sign}

-- m * 2 ^ e * P, in parts
abbrev pub exact_size : ℕ → ℕ → ℤ → ℕ
exact_size P m e = m * up e * P

-- the distance of the count z from the exact time, in parts
unfoldable pub distance : ℤ → ℕ → Bool → ℕ → ℤ → ℤ → ℕ
distance R P s m e z = nat_abs (R *ℤ pos (down e) +ℤ with_sign s (exact_size P m e) -ℤ z *ℤ pos (down e))

-- z is the nearest of all counts: none is closer, and where another is as close, the displacement z - R is even
pub record IsNearest (R : ℤ) (P : ℕ) (s : Bool) (m : ℕ) (e z : ℤ) : Type 0 where
  pub closest_of_all : (z' : ℤ) → distance R P s m e z ≤ distance R P s m e z'
  pub even_of_two : (z' : ℤ) → distance R P s m e z ≡ distance R P s m e z' → (z ≡ z' → ⊥) → nat_abs (z -ℤ R) % 2 ≡ 0

-- ---- the nearest count, as it is computed: the exact displacement rounded to a whole number, a tie to the even one. proofs/Distance.antt proves that it is the nearest, and the only one
abbrev pub nearest_size : ℕ → ℕ → ℤ → ℕ
nearest_size P m e = closest (exact_size P m e) (down e)

abbrev pub nearest_displacement : ℕ → Bool → ℕ → ℤ → ℤ
nearest_displacement P s m e = with_sign s (nearest_size P m e)

abbrev pub nearest_count : ℤ → ℕ → Bool → ℕ → ℤ → ℤ
nearest_count R P s m e = R +ℤ nearest_displacement P s m e
