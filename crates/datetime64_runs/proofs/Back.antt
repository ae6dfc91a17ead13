-- Records and the numbers that they are, there and back.
--   record-back   the record of a record's number is the record
--   number-back   the number of a number's record is the number
--   number_fits   a record's number is a 64-bit number
--   record_is     a 64-bit number's record is a record
use mathlib.Core.Path.{◌≡◌, refl, sym, ap, ◌∙◌, subst}
use mathlib.Core.List.{List, [], ◌∷◌, reverse_aux, reverse-reverse}
use Prim.Native.Nat.{ℕ, zero, suc, ◌+◌, ◌*◌, ◌/◌, ◌%◌, ◌^◌, ◌<◌}
use native.Mathlib.Nat.{pow-suc}
use native.Mathlib.Omega.{arith}
use lib.IntN.{ℤ}
use lib.ListN.{length, length-reverse}
use mir.Syntax.{w64}
use mir.Val.{Fits, SFits, to_z, of_z}
use mir.ValLaws.{to_z-of_z, of_z-to_z, of_z_fits, to_z-Fits}
use Rattle.datetime64_type.specs.declared.ByteOrder.{ByteOrder}
use Rattle.int64_bytes.specs.LittleEndian.{little_endian, little_bytes}
use Rattle.datetime64_runs.specs.Records.{Bytes, IsRecord, in_order, record_number, record_of}
use Rattle.datetime64_runs.proofs.Bytes.{record_length}

-- ---- the least significant byte first

bytes_back : (s : List ℕ) → Bytes s → little_bytes (length s) (little_endian s) ≡ s
unfolding little_bytes little_endian
bytes_back [] h = refl
bytes_back (b ∷ s) h =
    let l = little_endian s in
    let first : (b + 256 * l) % 256 ≡ b = omega (arith, h.0) in
    let rest : (b + 256 * l) / 256 ≡ l = omega (arith, h.0) in
    λ i. first i ∷ (ap (little_bytes (length s)) rest ∙ bytes_back s h.1) i

bytes_below : (s : List ℕ) → Bytes s → little_endian s < 256 ^ length s
unfolding little_endian
bytes_below [] h = omega arith
bytes_below (b ∷ s) h = omega (arith, h.0, bytes_below s h.1, pow-suc 256 (length s))

little_back : (k w : ℕ) → w < 256 ^ k → little_endian (little_bytes k w) ≡ w
unfolding little_bytes little_endian
little_back zero w h = omega arith
little_back (suc k) w h = let e = little_back k (w / 256) (omega (arith, h, pow-suc 256 k)) in omega (arith, e)

little_bytes_lem : (k w : ℕ) → Bytes (little_bytes k w)
unfolding little_bytes
little_bytes_lem zero w = tt
little_bytes_lem (suc k) w = (omega arith, little_bytes_lem k (w / 256))

-- ---- either order

reversed : (s r : List ℕ) → Bytes s → Bytes r → Bytes (reverse_aux s r)
reversed [] r h g = g
reversed (b ∷ s) r h g = reversed s (b ∷ r) h.1 (h.0, g)

in_order_lem : (order : ByteOrder) (s : List ℕ) → Bytes s → Bytes (in_order order s)
in_order_lem ByteOrder.Little s h = h
in_order_lem ByteOrder.Big s h = reversed s [] h tt

order_length : (order : ByteOrder) (s : List ℕ) → length (in_order order s) ≡ length s
order_length ByteOrder.Little s = refl
order_length ByteOrder.Big s = length-reverse s

order_back : (order : ByteOrder) (s : List ℕ) → in_order order (in_order order s) ≡ s
order_back ByteOrder.Little s = refl
order_back ByteOrder.Big s = reverse-reverse s

module _ (order : ByteOrder) where
  word_fits : (r : List ℕ) → IsRecord r → Fits w64 (little_endian (in_order order r))
  word_fits r h =
      let l : length (in_order order r) ≡ 8 = order_length order r ∙ h.eight in
      record { fits = subst (λ (k : ℕ). little_endian (in_order order r) < 256 ^ k) l (bytes_below (in_order order r) (in_order_lem order r h.bytes)) }

  pub number_fits : (r : List ℕ) → IsRecord r → SFits w64 (record_number order r)
  unfolding record_number
  number_fits r h = to_z-Fits w64 (little_endian (in_order order r)) (word_fits r h)

  pub record_is : (n : ℤ) → IsRecord (record_of order n)
  unfolding record_of
  record_is n = record { eight = record_length order n; bytes = in_order_lem order (little_bytes 8 (of_z w64 n)) (little_bytes_lem 8 (of_z w64 n)) }

  pub record_back : (r : List ℕ) → IsRecord r → record_of order (record_number order r) ≡ r
  unfolding record_of record_number
  record_back r h =
      let s = in_order order r in
      let l : 8 ≡ length s = sym (order_length order r ∙ h.eight) in
      ap (λ (w : ℕ). in_order order (little_bytes 8 w)) (of_z-to_z w64 (little_endian s) (word_fits r h))
      ∙ (ap (λ (k : ℕ). in_order order (little_bytes k (little_endian s))) l ∙ (ap (in_order order) (bytes_back s (in_order_lem order r h.bytes)) ∙ order_back order r))

  pub number_back : (n : ℤ) → SFits w64 n → record_number order (record_of order n) ≡ n
  unfolding record_of record_number
  number_back n f =
      ap (λ (s : List ℕ). to_z w64 (little_endian s)) (order_back order (little_bytes 8 (of_z w64 n)))
      ∙ (ap (to_z w64) (little_back 8 (of_z w64 n) (of_z_fits w64 n f).fits) ∙ to_z-of_z w64 n f)
