-- The high word of the product of two words by columns in base 2 ^ 32, the carries taken from column to column: another way to it than the product itself.
use Rattle.std.specs.Prelude.{ℕ, ◌+◌, ◌*◌, ◌/◌, ◌%◌, ◌^◌}

abbrev pub high_columns : ℕ → ℕ → ℕ
high_columns a b =
    let mid = a / 2 ^ 32 * (b % 2 ^ 32) + a % 2 ^ 32 * (b % 2 ^ 32) / 2 ^ 32 in
    let next = mid % 2 ^ 32 + a % 2 ^ 32 * (b / 2 ^ 32) in
    a / 2 ^ 32 * (b / 2 ^ 32) + mid / 2 ^ 32 + next / 2 ^ 32
