-- Bytes that come with the least significant first.
use Rattle.std.specs.Prelude.{List, [], ◌∷◌, ℕ, zero, suc, ◌+◌, ◌*◌, ◌/◌, ◌%◌}

-- the number of such bytes
unfoldable pub little_endian : List ℕ → ℕ
little_endian [] = 0
little_endian (b ∷ s) = b + 256 * little_endian s

-- the first k bytes of a number
unfoldable pub little_bytes : ℕ → ℕ → List ℕ
little_bytes zero w = []
little_bytes (suc k) w = w % 256 ∷ little_bytes k (w / 256)
