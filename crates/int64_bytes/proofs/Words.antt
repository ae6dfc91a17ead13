-- std's number of eight bytes, and its bytes of a number, are those of specs/LittleEndian.antt.
use Rattle.std.proofs.Common.{◌≡◌, ℕ, List, length, reverse, sym, ap, ◌∙◌, arith, w64}
use Rattle.std.specs.Int.{from_le_bytes, to_le_bytes, from_be_bytes, swap_bytes}
use Rattle.int64_bytes.specs.LittleEndian.{little_endian, little_bytes}
use Rattle.int64_bytes.proofs.Bytes.{eight}

pub number_is : (s : List ℕ) → length s ≡ 8 → from_le_bytes w64 s ≡ little_endian s
unfolding little_endian
number_is s h = omega arith ∙ sym (ap little_endian (eight s h))

pub bytes_are : (w : ℕ) → to_le_bytes w64 w ≡ little_bytes 8 w
unfolding little_bytes
bytes_are w = grind arith

-- the bytes the other way round
pub turned_is : (w : ℕ) → swap_bytes w64 w ≡ little_endian (reverse (little_bytes 8 w))
unfolding little_endian little_bytes
turned_is w = ap (from_be_bytes w64) (bytes_are w) ∙ omega arith
