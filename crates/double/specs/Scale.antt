-- A period of so many microseconds as factor / 2 ^ shift.
use Rattle.std.specs.Prelude.{◌≡◌, ℕ, ◌*◌, ◌^◌, ◌≤◌, ◌<◌}

pub record IsScale (micros factor shift : ℕ) : Type 0 where
  pub is : factor ≡ micros * 2 ^ shift
  pub least : 2 ^ 62 ≤ factor
  pub most : factor < 2 ^ 63
  pub few : shift < 63
