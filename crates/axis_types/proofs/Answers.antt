-- What a reading tells.
use Rattle.std.specs.Prelude.{Ok, Err}
use mathlib.Core.Path.{◌≡◌, refl, ap}
use mathlib.Core.Bool.{Bool, true, false≢true}
use lib.IntN.{ℤ}
use Rattle.axis_types.specs.Reading.{is_read, Reading}

pub was_read : (r : Reading) → is_read r ≡ true → (z : ℤ) × (exact : Bool) × (r ≡ Ok (z, exact))
was_read (Ok (z, exact)) h = (z, exact, refl)
was_read (Err r) h = absurd (false≢true h)

-- two readings of one offset
pub one_reading : (z t : ℤ) (i j : Bool) → ◌≡◌ {A = Reading} (Ok (z, i)) (Ok (t, j)) → (z ≡ t) × (i ≡ j)
one_reading z t i j h =
    let e : ◌≡◌ {A = ℤ × Bool} (z, i) (t, j) = cc in
    (ap (λ (p : ℤ × Bool). p.0) e, ap (λ (p : ℤ × Bool). p.1) e)
