-- A closed form that only a private function computes: whether n periods of P microseconds may lead from one instant of the range to another.
use Rattle.std.specs.Prelude.{Bool, true, false, ℕ, ◌*◌, ◌^◌, ◌≤◌, ℤ, nat_abs}

abbrev pub Reaches : Bool → ℕ → ℤ → Type 0
Reaches true P n = nat_abs n * P ≤ 2 ^ 61
Reaches false P n = 2 ^ 60 ≤ nat_abs n * P
