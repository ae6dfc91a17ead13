-- The lent list of leap seconds: document 02, CR 6. Records of 16 bytes, each two signed 64-bit numbers with the least significant byte first:
-- a day, counted from 1970-01-01, and the count of seconds by which UTC is behind TAI from that day on.
use Rattle.std.specs.Prelude.{Bool, true, false, ◌&&◌, List, [], ◌∷◌, ℕ, zero, suc, ◌+◌, ◌*◌, ◌/◌, ◌%◌, leb, eqb, ℤ, pos, negsuc, length, take, drop}
use Rattle.std.specs.Int.Signed.{lt_z}
use Rattle.std.specs.Int.{w64}
use Rattle.std.proofs.Common.{to_z}
use Rattle.int64_bytes.specs.LittleEndian.{little_endian}

pub record Leap : Type 0 where
  pub day : ℤ
  pub count : ℤ

-- the number of the eight bytes from place i on, without a sign and with one: `to_z w64` is two's complement in 64 bits
abbrev pub word_at : List ℕ → ℕ → ℕ
word_at s i = little_endian (take 8 (drop i s))

abbrev pub signed_at : List ℕ → ℕ → ℤ
signed_at s i = to_z w64 (word_at s i)

-- record i, from 0, and n records from it on
abbrev pub leap_at : List ℕ → ℕ → Leap
leap_at s i = record { day = signed_at s (16 * i); count = signed_at s (16 * i + 8) }

unfoldable pub leaps_from : ℕ → ℕ → List ℕ → List Leap
leaps_from zero i s = []
leaps_from (suc n) i s = leap_at s i ∷ leaps_from n (suc i) s

abbrev pub leaps : List ℕ → List Leap
leaps s = leaps_from (length s / 16) 0 s

-- ---- which lists are good

-- z is n
abbrev pub is_natural : ℤ → ℕ → Bool
is_natural (pos m) n = eqb m n
is_natural (negsuc m) n = false

-- after a record of day d and count k each day is later, and each count one more
unfoldable pub rises_from : ℤ → ℕ → List Leap → Bool
rises_from d k [] = true
rises_from d k (r ∷ rs) = (lt_z d r.day && is_natural r.count (suc k)) && rises_from r.day (suc k) rs

-- the first record has day 730, which is 1972-01-01, and count 10; up to 63 come after it
unfoldable pub good : List Leap → Bool
good [] = false
good (r ∷ rs) = ((is_natural r.day 730 && is_natural r.count 10) && leb (length rs) 63) && rises_from r.day 10 rs

-- whole records, and a list that is good
unfoldable pub is_good : List ℕ → Bool
is_good s = eqb (length s % 16) 0 && good (leaps s)
