-- Records in either byte order: their length, and their bytes back from their number.
use mathlib.Core.Path.{◌≡◌, refl}
use mathlib.Core.List.{reverse}
use Prim.Native.Nat.{ℕ, zero, suc, ◌<◌}
use native.Mathlib.Omega.{arith}
use lib.IntN.{ℤ}
use lib.ListN.{length, get_or}
use Rattle.datetime64_type.specs.declared.ByteOrder.{ByteOrder}
use Rattle.int64_bytes.specs.LittleEndian.{little_endian, little_bytes}
use Rattle.int64_bytes.proofs.Bytes.{bytes_back, bytes_small}
use Rattle.datetime64_runs.specs.Records.{in_order, record_of}

pub record_length : (order : ByteOrder) (n : ℤ) → length (record_of order n) ≡ 8
unfolding record_of little_bytes
record_length ByteOrder.Little n = refl
record_length ByteOrder.Big n = refl

-- ---- there and back
eight_small : (w i : ℕ) → get_or (reverse (little_bytes 8 w)) i 0 < 256
unfolding little_bytes
eight_small w zero = omega arith
eight_small w (suc zero) = omega arith
eight_small w (suc (suc zero)) = omega arith
eight_small w (suc (suc (suc zero))) = omega arith
eight_small w (suc (suc (suc (suc zero)))) = omega arith
eight_small w (suc (suc (suc (suc (suc zero))))) = omega arith
eight_small w (suc (suc (suc (suc (suc (suc zero)))))) = omega arith
eight_small w (suc (suc (suc (suc (suc (suc (suc zero))))))) = omega arith
eight_small w (suc (suc (suc (suc (suc (suc (suc (suc i)))))))) = omega arith

-- the bytes of a number, in either order
pub ordered_back : (order : ByteOrder) (w : ℕ) → little_bytes 8 (little_endian (in_order order (little_bytes 8 w))) ≡ in_order order (little_bytes 8 w)
unfolding little_bytes
ordered_back ByteOrder.Little w = bytes_back (little_bytes 8 w) (bytes_small 8 w)
ordered_back ByteOrder.Big w = bytes_back (reverse (little_bytes 8 w)) (eight_small w)
