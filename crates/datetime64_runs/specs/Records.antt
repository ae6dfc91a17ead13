-- Records of eight bytes, each a signed 64-bit number in two's complement, in either byte order: source document 004.
use Rattle.std.specs.Prelude.{◌≡◌, List, [], ◌∷◌, reverse, ℕ, zero, suc, ◌*◌, ◌/◌, ◌<◌, ℤ, length, take, drop}
use Rattle.std.specs.Int.{w64}
use Rattle.std.proofs.Common.{to_z, of_z}
use Rattle.int64_bytes.specs.LittleEndian.{little_endian, little_bytes}
use Rattle.run_ends.specs.Each.{Each}
use Rattle.datetime64_type.specs.declared.ByteOrder.{ByteOrder}

-- bytes are numbers below 256
abbrev pub Bytes : List ℕ → Type 0
Bytes s = Each (λ (b : ℕ). b < 256) s

-- a record is eight bytes
pub record IsRecord (r : List ℕ) : Type 0 where
  pub eight : length r ≡ 8
  pub bytes : Bytes r

-- bytes of an order with the least significant first, and back
abbrev pub in_order : ByteOrder → List ℕ → List ℕ
in_order ByteOrder.Little s = s
in_order ByteOrder.Big s = reverse s

-- the signed number of a record, and the record of a signed number: `to_z w64` and `of_z w64` are two's complement in 64 bits
unfoldable pub record_number : ByteOrder → List ℕ → ℤ
record_number order bytes = to_z w64 (little_endian (in_order order bytes))

unfoldable pub record_of : ByteOrder → ℤ → List ℕ
record_of order n = in_order order (little_bytes 8 (of_z w64 n))

-- n records of bytes that lie one after another
unfoldable pub cut : ℕ → List ℕ → List (List ℕ)
cut zero s = []
cut (suc n) s = take 8 s ∷ cut n (drop 8 s)

-- the number of the record at place i
abbrev pub number_at : ByteOrder → List ℕ → ℕ → ℤ
number_at order s i = record_number order (take 8 (drop (8 * i) s))

abbrev pub record_count : List ℕ → ℕ
record_count s = length s / 8

abbrev pub records_in : List ℕ → List (List ℕ)
records_in s = cut (record_count s) s
