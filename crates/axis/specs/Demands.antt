-- What is demanded of whole offsets on an axis with the calendar c, of reading and of writing apart. proofs/Demands.antt proves it of every
-- axis that is good.
use Rattle.std.specs.Prelude.{◌≡◌, Bool, true, false, ℤ, Result, Ok, Err}
use Rattle.std.specs.Int.Signed.{le_z}
use Rattle.std.specs.Int.{w64}
use Rattle.std.proofs.Common.{SFits}
use Rattle.refusal.specs.declared.Refusal.{Refusal}
use Rattle.refusal.specs.declared.Refusal.TheVariants.{OutOfRange, Inexact}
use Rattle.calendar.specs.declared.Calendar.{Calendar}
use Rattle.instant.specs.Instant.{in_range}
use Rattle.axis_types.specs.Reading.{Reading}

-- of reading
pub record WholeReading (c : Calendar) (read : ℤ → Reading) : Type 0 where
  -- a whole offset is read in the range, exactly, or refused because it leads out of it
  pub inside : (n t : ℤ) (exact : Bool) → read n ≡ Ok (t, exact) → in_range c t ≡ true
  pub exactly : (n t : ℤ) (exact : Bool) → read n ≡ Ok (t, exact) → exact ≡ true
  pub only_past : (n : ℤ) (r : Refusal) → read n ≡ Err r → r ≡ OutOfRange
  -- two offsets never read as one instant
  pub one_offset : (n m t : ℤ) (i j : Bool) → read n ≡ Ok (t, i) → read m ≡ Ok (t, j) → n ≡ m
  -- an offset between two that are read is read
  pub between : (x y z t u : ℤ) (i j : Bool) → le_z x y ≡ true → le_z y z ≡ true → read x ≡ Ok (t, i) → read z ≡ Ok (u, j) → (v : ℤ) × (read y ≡ Ok (v, true))

-- of writing, which undoes reading
pub record InstantWriting (c : Calendar) (read : ℤ → Reading) (write : ℤ → Result ℤ Refusal) : Type 0 where
  -- what is written is a 64-bit number, and reads as the instant, exactly
  pub written_reads : (t n : ℤ) → write t ≡ Ok n → read n ≡ Ok (t, true)
  pub written_fits : (t n : ℤ) → write t ≡ Ok n → SFits w64 n
  -- what reads as an instant is written
  pub read_writes : (n t : ℤ) (exact : Bool) → read n ≡ Ok (t, exact) → write t ≡ Ok n
  -- an instant of the range is refused where no 64-bit offset reads as it, and an instant past the range as such
  pub none_inexact : (t : ℤ) → in_range c t ≡ true → ((n : ℤ) → SFits w64 n → read n ≡ Ok (t, true) → ⊥) → write t ≡ Err Inexact
  pub instant_past : (t : ℤ) → in_range c t ≡ false → write t ≡ Err OutOfRange
