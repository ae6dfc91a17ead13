-- Offsets on a fixed axis: document 01, "Periods" and "Numbers returned". The axis has the calendar c, the period p and the reference R, which lies in the range.
-- An instant lies in the range where the date of its day, by the next-day rule of c, has a year from -9999 to 9999 (`inRange` of crate `instant`).
use Rattle.std.specs.Prelude.{Bool, true, cond, ℕ, suc, ◌/◌, ◌%◌, eqb, ℤ, pos, negsuc, neg_ℤ, ◌+ℤ◌, ◌-ℤ◌, ◌*ℤ◌, Float, Result, Ok, Err}
use Rattle.std.specs.Float.{nan, inf, fin}
use Rattle.refusal.specs.declared.Refusal.TheVariants.{OutOfRange, Inexact, NotFinite}
use Rattle.calendar.specs.declared.Calendar.{Calendar}
use Rattle.axis_types.specs.Lengths.{length_of}
use Rattle.axis_types.specs.declared.Period.{Period}
use Rattle.instant.specs.Instant.{in_range}
use Rattle.double.specs.Nearest.{distance, nearest_count}
use Rattle.axis_types.specs.Reading.{Reading}
use Rattle.refusal.specs.declared.Refusal.{Refusal}

-- ---- reading

-- the time of a whole offset: the reference and that many periods
abbrev pub time_after : Period → ℤ → ℤ → ℤ
time_after p R n = R +ℤ n *ℤ pos (length_of p)

-- the count z where it lies in the range
abbrev pub reading_at : Calendar → ℤ → Bool → Reading
reading_at c z exact = cond (in_range c z) (Ok (z, exact)) (Err OutOfRange)

-- a whole offset, which is exact
unfoldable pub read_whole : Calendar → Period → ℤ → ℤ → Reading
read_whole c p R n = reading_at c (time_after p R n) true

-- the count z, exact where its distance from the exact time of the double ± m * 2 ^ e is 0 (specs/Nearest.antt of crate `double`)
abbrev pub marked_at : Calendar → Period → ℤ → Bool → ℕ → ℤ → ℤ → Reading
marked_at c p R s m e z = reading_at c z (eqb (distance R (length_of p) s m e z) 0)

-- a double: the count nearest to its exact time
unfoldable pub read_double : Calendar → Period → ℤ → Float → Reading
read_double c p R nan = Err NotFinite
read_double c p R (inf s) = Err NotFinite
read_double c p R (fin s m e) = marked_at c p R s m e (nearest_count R (length_of p) s m e)

-- ---- writing

-- the displacement d as a number of periods of P microseconds, where nothing is left over
unfoldable pub in_periods : ℤ → ℕ → Result ℤ Refusal
in_periods (pos n) P = cond (eqb (n % P) 0) (Ok (pos (n / P))) (Err Inexact)
in_periods (negsuc n) P = cond (eqb (suc n % P) 0) (Ok (neg_ℤ (pos (suc n / P)))) (Err Inexact)

-- an instant of the range
abbrev pub write_instant : Period → ℤ → ℤ → Result ℤ Refusal
write_instant p R t = in_periods (t -ℤ R) (length_of p)
