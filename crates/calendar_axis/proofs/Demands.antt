-- The theorems about whole offsets by months and years in calendar mode, over the definitions that the functions are proved to compute.
-- R is a reference in the range. `part` is the month or the year.
--   moved           the date of the instant is that of the reference, moved at once by all the steps, and the time of day is kept
--   written-reads   what is written reads as the instant, exactly
--   written-fits    and is a 64-bit number
--   written-near    and a small one
--   read-writes     what reads as an instant is written
--   only-inexact    an instant is refused only as inexact
--   none-inexact    an instant of the range is refused where no 64-bit offset reads as it
--   read-inside     an instant that is read lies in the range
--   only-past       an offset is refused only because it leads out of the range
--   read_between    a whole offset between two that are read is read
--   from_start      reading from the start of the reference is reading from the reference
--   from-start-written   writing from it is writing from the reference
use Rattle.std.specs.Prelude.{Result, Ok, Err, Option, Some, None}
use mathlib.Core.Path.{◌≡◌, refl, sym, ap, ◌∙◌}
use mathlib.Core.Bool.{Bool, true, false, not, false≢true}
use Prim.Native.Nat.{ℕ, ◌≤◌, ◌<◌}
use native.Mathlib.Omega.{arith}
use lib.Dec.{eqb}
use lib.IntN.{ℤ, pos, negsuc}
use lib.Signed.{le_z, lt_z, mag}
use mir.Syntax.{w64}
use mir.Val.{SFits}
use borrow.Author.Tests.{eq-eqb, eqb-true}
use Rattle.refusal.specs.declared.Refusal.{Refusal}
use Rattle.refusal.specs.declared.Refusal.TheVariants.{OutOfRange, Inexact}
use Rattle.signed.proofs.Tests.{both, and_parts}
use Rattle.signed.proofs.Order.{le_refl, le_trans, lt_not_le}
use Rattle.calendar.specs.Calendar.{exists, date_of, in_years}
use Rattle.calendar.specs.Answers.{day_answer, day_number}
use Rattle.calendar.specs.declared.Calendar.{Calendar}
use Rattle.calendar.specs.declared.Date.{Date}
use Rattle.calendar.proofs.Answering.{year_out, date_there}
use Rattle.calendar.proofs.Theorems.{dates_exist, answered, date_of_number}
use Rattle.axis_types.proofs.Answers.{one_reading}
use Rattle.instant.specs.Instant.{day_of, time_of, instant_at, in_range}
use Rattle.instant.proofs.Theorems.{day_of_sum, time_of_sum, time_small, day_and_time}
use Rattle.step.specs.Steps.{date_after}
use Rattle.step.specs.Answers.{steps_between}
use Rattle.step.specs.Closed.{HasNumber}
use Rattle.step.specs.declared.Part.{Part}
use Rattle.step.proofs.Counts.{not_later}
use Rattle.step.proofs.Order.{dates_rise}
use Rattle.step.proofs.Steps.{same_number}
use Rattle.step.proofs.Theorems.{steps_exist, between_is, between_near, is_between}
use Rattle.axis_types.specs.Reading.{is_read}
use Rattle.calendar_axis.specs.Steps.{date_at, on_day, read_from, read_steps, offset_from, write_from, write_steps}
use Rattle.calendar_axis.specs.Start.{StartOf}
use Rattle.calendar_axis.specs.declared.Start.{Start}

-- the date of an instant of the range
pub numbered : (c : Calendar) (t : ℤ) → in_range c t ≡ true → HasNumber c (date_at c t)
numbered c t h = record { inside = h; there = dates_exist c (day_of t) }

-- a date with a time of day is read where it lies in the years, and refused as past them elsewhere
module _ (c : Calendar) (d : Date) (there : exists c d ≡ true) (s : ℕ) where
  pub day_read : in_years d.year ≡ true → (v : ℤ) × (on_day (day_answer c d) s ≡ Ok (v, true))
  day_read h = (instant_at (day_number c d) s, ap (λ (a : Result ℤ Refusal). on_day a s) (sym (date_there c d (day_number c d) h there (date_of_number c d h there))))

  day_past : in_years d.year ≡ false → on_day (day_answer c d) s ≡ Err OutOfRange
  day_past h = ap (λ (a : Result ℤ Refusal). on_day a s) (sym (year_out true c d h))

  pub day_inside : is_read (on_day (day_answer c d) s) ≡ true → in_years d.year ≡ true
  day_inside h = go (in_years d.year) refl
    where
      go : (b : Bool) → in_years d.year ≡ b → b ≡ true
      go true e = refl
      go false e = absurd (false≢true (sym (ap is_read (day_past e)) ∙ h))

  day_refused : (r : Refusal) → on_day (day_answer c d) s ≡ Err r → r ≡ OutOfRange
  day_refused r h = go (in_years d.year) refl
    where
      go : (b : Bool) → in_years d.year ≡ b → r ≡ OutOfRange
      go true e = let v = (day_read e).1 in absurd (let z : ◌≡◌ {A = ℕ} 0 1 = (cc) in omega arith)
      go false e = let v = day_past e in cc

module _ (part : Part) (c : Calendar) (R : ℤ) where
  -- the date of the reference, moved
  abbrev date : ℤ → Date
  date n = date_after part c n (date_at c R)

  there : (n : ℤ) → exists c (date n) ≡ true
  there = steps_exist part c (date_at c R) (dates_exist c (day_of R))

  -- ---- reading

  pub record Moved (n t : ℤ) : Type 0 where
    pub inside : in_range c t ≡ true
    pub date_is : date_at c t ≡ date n
    pub time_is : time_of t ≡ time_of R

  pub moved : (n t : ℤ) (exact : Bool) → read_steps part c R n ≡ Ok (t, exact) → Moved n t
  unfolding read_steps
  moved n t exact = go (day_answer c (date n)) refl
    where
      go : (a : Result ℤ Refusal) → a ≡ day_answer c (date n) → on_day a (time_of R) ≡ Ok (t, exact) → Moved n t
      go (Ok z) f h =
          let k = (one_reading (instant_at z (time_of R)) t true exact h).0 in
          let w = answered true c (date n) z f in
          let d : date_at c t ≡ date n = ap (date_of c) (ap day_of (sym k) ∙ day_of_sum z (time_of R) (time_small R)) ∙ w.is in
          record { inside = ap (λ (x : Date). in_years x.year) d ∙ w.inside; date_is = d; time_is = ap time_of (sym k) ∙ time_of_sum z (time_of R) (time_small R) }
      go (Err r) f h = absurd (let z : ◌≡◌ {A = ℕ} 0 1 = (cc) in omega arith)

  reads : (n t : ℤ) → in_range c t ≡ true → date n ≡ date_at c t → time_of R ≡ time_of t → read_steps part c R n ≡ Ok (t, true)
  unfolding read_steps
  reads n t h e f =
      (λ i. on_day ((ap (day_answer c) e ∙ sym (date_there c (date_at c t) (day_of t) h (dates_exist c (day_of t)) refl)) i) (f i)) ∙ ap (λ (z : ℤ). Ok (z, true)) (day_and_time t)

  pub read_inside : (n t : ℤ) (exact : Bool) → read_steps part c R n ≡ Ok (t, exact) → in_range c t ≡ true
  read_inside n t exact h = (moved n t exact h).inside

  pub only_past : (n : ℤ) (r : Refusal) → read_steps part c R n ≡ Err r → r ≡ OutOfRange
  unfolding read_steps
  only_past n = day_refused c (date n) (there n) (time_of R)

  -- ---- writing

  record Written (t n : ℤ) : Type 0 where
    steps : steps_between part c (date_at c R) (date_at c t) ≡ Some n
    time : time_of R ≡ time_of t

  written : (t n : ℤ) → write_steps part c R t ≡ Ok n → Written t n
  unfolding write_steps
  written t n = go (steps_between part c (date_at c R) (date_at c t)) (eqb (time_of R) (time_of t)) refl refl
    where
      go : (s : Option ℤ) (q : Bool) → steps_between part c (date_at c R) (date_at c t) ≡ s → eqb (time_of R) (time_of t) ≡ q → offset_from s q ≡ Ok n → Written t n
      go (Some m) true f g h = let k : m ≡ n = (cc) in record { steps = f ∙ ap Some k; time = eqb-true (time_of R) (time_of t) g }
      go (Some m) false f g h = absurd (let z : ◌≡◌ {A = ℕ} 0 1 = (cc) in omega arith)
      go None q f g h = absurd (let z : ◌≡◌ {A = ℕ} 0 1 = (cc) in omega arith)

  pub written_reads : (t n : ℤ) → in_range c t ≡ true → write_steps part c R t ≡ Ok n → read_steps part c R n ≡ Ok (t, true)
  written_reads t n i h = let w = written t n h in reads n t i (between_is part c (date_at c R) (date_at c t) n w.steps) w.time

  pub written_near : (t n : ℤ) → write_steps part c R t ≡ Ok n → mag n ≤ 719999
  written_near t n h = between_near part c (date_at c R) (date_at c t) n (written t n h).steps

  pub written_fits : (t n : ℤ) → write_steps part c R t ≡ Ok n → SFits w64 n
  written_fits t n h = record { sfits = omega (arith, written_near t n h) }

  pub read_writes : (n t : ℤ) (exact : Bool) → in_range c R ≡ true → read_steps part c R n ≡ Ok (t, exact) → write_steps part c R t ≡ Ok n
  unfolding write_steps
  read_writes n t exact g h =
      let m = moved n t exact h in
      λ i. offset_from (is_between part c (date_at c R) (date_at c t) (numbered c R g) (numbered c t m.inside) n (sym m.date_is) i) (eq-eqb (time_of R) (time_of t) (sym m.time_is) i)

  pub only_inexact : (t : ℤ) (r : Refusal) → write_steps part c R t ≡ Err r → r ≡ Inexact
  unfolding write_steps
  only_inexact t r = go (steps_between part c (date_at c R) (date_at c t)) (eqb (time_of R) (time_of t))
    where
      go : (s : Option ℤ) (q : Bool) → offset_from s q ≡ Err r → r ≡ Inexact
      go (Some m) true h = absurd (let z : ◌≡◌ {A = ℕ} 0 1 = (cc) in omega arith)
      go (Some m) false h = (cc)
      go None q h = (cc)

  pub none_inexact : (t : ℤ) → in_range c t ≡ true → ((n : ℤ) → SFits w64 n → read_steps part c R n ≡ Ok (t, true) → ⊥) → write_steps part c R t ≡ Err Inexact
  none_inexact t i f = go (write_steps part c R t) refl
    where
      go : (a : Result ℤ Refusal) → write_steps part c R t ≡ a → a ≡ Err Inexact
      go (Ok n) e = absurd (f n (written_fits t n e) (written_reads t n i e))
      go (Err r) e = ap Err (only_inexact t r e)

  -- ---- a whole offset between two that are read is read

  year_rises : (n m : ℤ) → le_z n m ≡ true → le_z (date n).year (date m).year ≡ true
  year_rises n m h = go (lt_z n m) refl
    where
      go : (b : Bool) → lt_z n m ≡ b → le_z (date n).year (date m).year ≡ true
      go true e = not_later (date n) (date m) (dates_rise c part (date_at c R) n m e)
      go false e = ap (λ (k : ℤ). le_z (date n).year (date k).year) (sym (same_number n m e (lt_not_le m n ∙ ap not h))) ∙ le_refl (date n).year

  year_inside : (n t : ℤ) (exact : Bool) → read_steps part c R n ≡ Ok (t, exact) → in_years (date n).year ≡ true
  year_inside n t exact h = let m = moved n t exact h in ap (λ (d : Date). in_years d.year) (sym m.date_is) ∙ m.inside

  pub read_between : (x y z t u : ℤ) (i j : Bool) → le_z x y ≡ true → le_z y z ≡ true → read_steps part c R x ≡ Ok (t, i) → read_steps part c R z ≡ Ok (u, j) → (v : ℤ) × (read_steps part c R y ≡ Ok (v, true))
  unfolding read_steps
  read_between x y z t u i j h g p q =
      let l = (and_parts (le_z (negsuc 9998) (date x).year) (le_z (date x).year (pos 9999)) (year_inside x t i p)).0 in
      let r = (and_parts (le_z (negsuc 9998) (date z).year) (le_z (date z).year (pos 9999)) (year_inside z u j q)).1 in
      day_read c (date y) (there y) (time_of R)
      (both (le_z (negsuc 9998) (date y).year) (le_z (date y).year (pos 9999)) (le_trans (negsuc 9998) (date x).year (date y).year l (year_rises x y h)) (le_trans (date y).year (date z).year (pos 9999) (year_rises y z g) r))

-- ---- from the start of the reference

pub start_time : (c : Calendar) (R : ℤ) (s : Start) → StartOf c R s → s.time < 86400000000
start_time c R s h = omega (arith, h.time, time_small R)

pub from_start : (part : Part) (c : Calendar) (R : ℤ) (s : Start) (n : ℤ) → StartOf c R s → read_from part c s.date s.time n ≡ read_steps part c R n
unfolding read_steps
from_start part c R s n h = λ i. read_from part c (h.date i) (h.time i) n

pub from_start_written : (part : Part) (c : Calendar) (R : ℤ) (s : Start) (t : ℤ) → StartOf c R s → write_from part c s.date s.time t ≡ write_steps part c R t
unfolding write_steps
from_start_written part c R s t h = λ i. write_from part c (h.date i) (h.time i) t
