-- The theorems about offsets on any axis, over the definitions that the public calls are proved to compute.
--   reading         what is demanded of reading whole offsets holds of every good axis
--   writing         and what is demanded of writing
--   refused-axis    an axis that is refused refuses every call
--   read-inside     every instant that is read lies in the range
--   whole-exact     reading a whole offset rounds nothing
--   whole-between   a whole offset between two that are read is read
--   double-between  and in fixed mode a double
--   fields-written  fields are written as their instant is
--   fields-refused  and refused as it is
--   inexact-none    Inexact only where no offset reads as the instant
--   days-read       on an axis of days a whole offset is read as crate `fixed_axis` reads it, in either mode
--   moved           in calendar mode the date of the instant is that of the reference, moved at once by all the steps, and the time of day is kept
--   fixed-double    a double on an axis of fixed mode is read as crate `fixed_axis` reads it, whose proofs/Demands.antt has demand 3
--   whole-double    in calendar mode a double that is whole is read as that whole offset
--   refused-double  in calendar mode another double is refused as it is no whole number of 64 bits
use Rattle.std.specs.Prelude.{Result, Ok, Err}
use mathlib.Core.Path.{◌≡◌, refl, sym, ap, ◌∙◌, subst}
use mathlib.Core.Bool.{Bool, true, false, cond}
use Prim.Native.Nat.{ℕ}
use native.Mathlib.Omega.{arith}
use lib.Dec.{T}
use lib.IntN.{ℤ}
use lib.Signed.{le_z}
use lib.Ieee.{Float, le}
use mir.Syntax.{w64}
use mir.Val.{SFits}
use Rattle.refusal.specs.declared.Refusal.{Refusal}
use Rattle.refusal.specs.declared.Refusal.TheVariants.{OutOfRange, Inexact}
use Rattle.calendar.specs.declared.Calendar.{Calendar}
use Rattle.instant.specs.Instant.{time_of, in_range, instant_answer}
use Rattle.instant.specs.declared.Fields.{Fields}
use Rattle.axis_types.proofs.Answers.{one_reading}
use Rattle.axis_types.specs.declared.Period.{Period}
use Rattle.axis_types.specs.declared.Mode.{Mode}
use Rattle.axis_types.specs.declared.Axis.{Axis}
use Rattle.axis_types.specs.declared.Offset.{Offset}
use Rattle.double.specs.Whole.{whole_of}
use Rattle.step.specs.Steps.{date_after}
use Rattle.step.specs.declared.Part.{Part}
use Rattle.fixed_axis.specs.Fixed.{time_after, read_whole, read_double}
use Rattle.fixed_axis.proofs.Offsets.{read_of}
use Rattle.fixed_axis.proofs.Between as Between
use Rattle.fixed_axis.proofs.Demands as Fixed
use Rattle.calendar_axis.specs.Steps.{date_at}
use Rattle.calendar_axis.proofs.Demands as Steps
use Rattle.axis.specs.Axis.{axis_check, on_good, step_in, step_on, read_by, write_by, whole_on, as_whole, double_in, double_on, offset_on, read_whole_on, read_double_on, read_offset, on_instant, write_instant_on, write_fields_on}
use Rattle.axis.specs.Demands.{WholeReading, InstantWriting}
use Rattle.axis.specs.declared.Step.{Step}
use Rattle.axis.proofs.Laws.{in_good, read_good}
use Rattle.axis_types.specs.Reading.{Reading}

-- ---- from a reference in the range, by what an offset moves
module _ (c : Calendar) (p : Period) (R : ℤ) (good : in_range c R ≡ true) where
  -- what is told of the instants of the range
  record Back (read : ℤ → Reading) (write : ℤ → Result ℤ Refusal) : Type 0 where
    inside : (n t : ℤ) (exact : Bool) → read n ≡ Ok (t, exact) → in_range c t ≡ true
    only_past : (n : ℤ) (r : Refusal) → read n ≡ Err r → r ≡ OutOfRange
    between : (x y z t u : ℤ) (i j : Bool) → le_z x y ≡ true → le_z y z ≡ true → read x ≡ Ok (t, i) → read z ≡ Ok (u, j) → (v : ℤ) × (read y ≡ Ok (v, true))
    written_reads : (t n : ℤ) → in_range c t ≡ true → write t ≡ Ok n → read n ≡ Ok (t, true)
    written_fits : (t n : ℤ) → in_range c t ≡ true → write t ≡ Ok n → SFits w64 n
    read_writes : (n t : ℤ) (exact : Bool) → read n ≡ Ok (t, exact) → write t ≡ Ok n
    none_inexact : (t : ℤ) → in_range c t ≡ true → ((n : ℤ) → SFits w64 n → read n ≡ Ok (t, true) → ⊥) → write t ≡ Err Inexact

  back : (s : Step) → Back (read_by s c p R) (write_by s c p R)
  back Step.Time =
      record {
        inside = λ n t exact h. (read_of c p R n t exact h).inside;
        only_past = Fixed.only_past c p R;
        between = λ x y z t u i j h g f e. (time_after p R y, Between.whole_between c p R x y z t u i j h g f e);
        written_reads = Fixed.written_reads c p R;
        written_fits = λ t n g. Fixed.written_fits c p R t n good g;
        read_writes = Fixed.read_writes c p R;
        none_inexact = λ t. Fixed.none_inexact c p R t good;
      }
  back (Step.Date part) =
      record {
        inside = Steps.read_inside part c R;
        only_past = Steps.only_past part c R;
        between = Steps.read_between part c R;
        written_reads = Steps.written_reads part c R;
        written_fits = λ t n g. Steps.written_fits part c R t n;
        read_writes = λ n t exact. Steps.read_writes part c R n t exact good;
        none_inexact = Steps.none_inexact part c R;
      }

module _ (c : Calendar) (p : Period) (R : ℤ) (good : in_range c R ≡ true) (s : Step) where
  abbrev b : Back c p R good (read_by s c p R) (write_by s c p R)
  b = back c p R good s

  pub by_reading : WholeReading c (read_by s c p R)
  by_reading =
      record {
        inside = b.inside;
        exactly = λ n t exact h. (one_reading t t exact true (sym h ∙ b.written_reads t n (b.inside n t exact h) (b.read_writes n t exact h))).1;
        only_past = b.only_past;
        one_offset = λ n m t i j f g. let e = b.read_writes n t i f in let d = b.read_writes m t j g in cc;
        between = b.between;
      }

  -- with the test of the instant before it
  abbrev pub write : ℤ → Result ℤ Refusal
  write t = cond (in_range c t) (write_by s c p R t) (Err OutOfRange)

  written : (t n : ℤ) → write t ≡ Ok n → (in_range c t ≡ true) × (write_by s c p R t ≡ Ok n)
  written t n = go (in_range c t)
    where
      go : (q : Bool) → cond q (write_by s c p R t) (Err OutOfRange) ≡ Ok n → (q ≡ true) × (write_by s c p R t ≡ Ok n)
      go true h = (refl, h)
      go false h = absurd (let k : ◌≡◌ {A = ℕ} 0 1 = cc in omega arith)

  inside_writes : (t : ℤ) → in_range c t ≡ true → write t ≡ write_by s c p R t
  inside_writes t h = rw h

  pub by_writing : InstantWriting c (read_by s c p R) write
  by_writing =
      record {
        written_reads = λ t n h. let w = written t n h in b.written_reads t n w.0 w.1;
        written_fits = λ t n h. let w = written t n h in b.written_fits t n w.0 w.1;
        read_writes = λ n t exact h. inside_writes t (b.inside n t exact h) ∙ b.read_writes n t exact h;
        none_inexact = λ t h f. inside_writes t h ∙ b.none_inexact t h f;
        instant_past = λ t h. ap (λ (q : Bool). cond q (write_by s c p R t) (Err OutOfRange)) h;
      }

-- ---- on an axis
module _ (a : Axis) where
  pub reading : (Ok tt) ≡ axis_check a → WholeReading a.calendar (λ (n : ℤ). read_whole_on a n)
  unfolding read_whole_on
  reading g =
      subst (λ (f : ℤ → Reading). WholeReading a.calendar f) (λ i n. on_good (g i) Err (whole_on a n)) (by_reading a.calendar a.period a.reference (in_good a g) (step_on a))

  pub writing : (Ok tt) ≡ axis_check a → InstantWriting a.calendar (λ (n : ℤ). read_whole_on a n) (λ (t : ℤ). write_instant_on a t)
  unfolding read_whole_on write_instant_on
  writing g =
      subst (λ (f : (ℤ → Reading) × (ℤ → Result ℤ Refusal)). InstantWriting a.calendar f.0 f.1)
      (λ i. ((λ (n : ℤ). on_good (g i) Err (whole_on a n)), (λ (t : ℤ). on_good (g i) Err (cond (in_range a.calendar t) (offset_on a t) (Err OutOfRange)))))
      (by_writing a.calendar a.period a.reference (in_good a g) (step_on a))

  pub refused_axis : (r : Refusal) → Err r ≡ axis_check a
      → ((n : ℤ) → read_whole_on a n ≡ Err r) × ((x : Float) → read_double_on a x ≡ Err r) × ((t : ℤ) → write_instant_on a t ≡ Err r) × ((f : Fields) → write_fields_on a f ≡ Err r)
  unfolding read_whole_on read_double_on write_instant_on write_fields_on
  refused_axis r e = ((λ n. rw (sym e)), (λ x. rw (sym e)), (λ t. rw (sym e)), (λ f. rw (sym e)))

  -- an offset is read on a good axis only
  whole_good : (n t : ℤ) (exact : Bool) → read_whole_on a n ≡ Ok (t, exact) → (Ok tt) ≡ axis_check a
  unfolding read_whole_on
  whole_good n t exact h = read_good (axis_check a) (whole_on a n) t exact h

  pub whole_exact : (n t : ℤ) (exact : Bool) → read_whole_on a n ≡ Ok (t, exact) → exact ≡ true
  whole_exact n t exact h = (reading (whole_good n t exact h)).exactly n t exact h

  pub inexact_none : (t : ℤ) → write_instant_on a t ≡ Err Inexact → (n : ℤ) (exact : Bool) → read_whole_on a n ≡ Ok (t, exact) → ⊥
  inexact_none t h n exact g = let e = (writing (whole_good n t exact g)).read_writes n t exact g in let k : ◌≡◌ {A = ℕ} 0 1 = cc in omega arith

  pub fields_written : (f : Fields) (t : ℤ) → instant_answer a.calendar f ≡ Ok t → in_range a.calendar t ≡ true → write_fields_on a f ≡ write_instant_on a t
  unfolding write_fields_on write_instant_on
  fields_written f t e h = λ i. on_good (axis_check a) Err ((ap (λ (q : Result ℤ Refusal). on_instant q (offset_on a)) e ∙ ap (λ (b : Bool). cond b (offset_on a t) (Err OutOfRange)) (sym h)) i)

  pub fields_refused : (Ok tt) ≡ axis_check a → (f : Fields) (r : Refusal) → instant_answer a.calendar f ≡ Err r → write_fields_on a f ≡ Err r
  unfolding write_fields_on
  fields_refused g f r e = λ i. on_good (sym g i) Err (on_instant (e i) (offset_on a))

  pub whole_between : (x y z t u : ℤ) (i j : Bool) → le_z x y ≡ true → le_z y z ≡ true → read_whole_on a x ≡ Ok (t, i) → read_whole_on a z ≡ Ok (u, j) → (v : ℤ) × (read_whole_on a y ≡ Ok (v, true))
  whole_between x y z t u i j h g f e = (reading (whole_good x t i f)).between x y z t u i j h g f e

  pub days_read : (Ok tt) ≡ axis_check a → a.period ≡ Period.Day → (n : ℤ) → read_whole_on a n ≡ read_whole a.calendar Period.Day a.reference n
  unfolding read_whole_on
  days_read g e n = (λ i. on_good (sym g i) Err (read_by (step_in a.mode (e i)) a.calendar (e i) a.reference n)) ∙ go a.mode
    where
      go : (m : Mode) → read_by (step_in m Period.Day) a.calendar Period.Day a.reference n ≡ read_whole a.calendar Period.Day a.reference n
      go Mode.Fixed = refl
      go Mode.Calendar = refl

-- ---- months and years in calendar mode
module _ (a : Axis) (part : Part) (m : step_on a ≡ Step.Date part) (n t : ℤ) (exact : Bool) (h : read_whole_on a n ≡ Ok (t, exact)) where
  pub moved : (date_at a.calendar t ≡ date_after part a.calendar n (date_at a.calendar a.reference)) × (time_of t ≡ time_of a.reference)
  unfolding read_whole_on
  moved =
      let g = read_good (axis_check a) (whole_on a n) t exact h in
      let w = Steps.moved part a.calendar a.reference n t exact ((λ i. on_good (g i) Err (read_by (sym m i) a.calendar a.period a.reference n)) ∙ h) in
      (w.date_is, w.time_is)

-- ---- doubles
module _ (a : Axis) (x : Float) where
  pub fixed_double : (Ok tt) ≡ axis_check a → a.mode ≡ Mode.Fixed → read_double_on a x ≡ read_double a.calendar a.period a.reference x
  unfolding read_double_on
  fixed_double g h = λ i. on_good (sym g i) Err (double_in (h i) a x)

  pub whole_double : (n : ℤ) → a.mode ≡ Mode.Calendar → whole_of x ≡ Ok n → read_double_on a x ≡ read_whole_on a n
  unfolding read_double_on read_whole_on
  whole_double n h e =
      ap (λ (m : Mode). on_good (axis_check a) Err (double_in m a x)) h
      ∙ ap (λ (w : Result ℤ Refusal). on_good (axis_check a) Err (as_whole w (λ (k : ℤ). whole_on a k))) e

  pub refused_double : (r : Refusal) → (Ok tt) ≡ axis_check a → a.mode ≡ Mode.Calendar → whole_of x ≡ Err r → read_double_on a x ≡ Err r
  unfolding read_double_on
  refused_double r g h e =
      (λ i. on_good (sym g i) Err (double_in (h i) a x))
      ∙ ap (λ (w : Result ℤ Refusal). as_whole w (λ (k : ℤ). whole_on a k)) e

-- a double between two that are read in fixed mode is read
pub double_between : (a : Axis) → a.mode ≡ Mode.Fixed → (x y z : Float) (t u : ℤ) (i j : Bool) → T (le x y) → T (le y z) → read_double_on a x ≡ Ok (t, i) → read_double_on a z ≡ Ok (u, j) → (v : ℤ) × (k : Bool) × (read_double_on a y ≡ Ok (v, k))
unfolding read_double_on
double_between a m x y z t u i j f g p q =
    let good = read_good (axis_check a) (double_on a x) t i p in
    let w = Between.double_between a.calendar a.period a.reference x y z t u i j f g (sym (fixed_double a x good m) ∙ p) (sym (fixed_double a z good m) ∙ q) in
    (w.0, w.1, fixed_double a y good m ∙ w.2)

-- ---- every instant that is read lies in the range
module _ (a : Axis) (t : ℤ) (exact : Bool) where
  double_inside : (x : Float) → read_double_on a x ≡ Ok (t, exact) → in_range a.calendar t ≡ true
  unfolding read_double_on
  double_inside x h = go a.mode (whole_of x) refl refl
    where
      good : (Ok tt) ≡ axis_check a
      good = read_good (axis_check a) (double_on a x) t exact h

      go : (m : Mode) (w : Result ℤ Refusal) → a.mode ≡ m → whole_of x ≡ w → in_range a.calendar t ≡ true
      go Mode.Fixed w e f = Fixed.double_inside a.calendar a.period a.reference x t exact (sym (fixed_double a x good e) ∙ h)
      go Mode.Calendar (Ok n) e f = (reading a good).inside n t exact (sym (whole_double a x n e f) ∙ h)
      go Mode.Calendar (Err r) e f = let q = sym (refused_double a x r good e f) ∙ h in absurd (let k : ◌≡◌ {A = ℕ} 0 1 = cc in omega arith)

  pub read_inside : (o : Offset) → read_offset a o ≡ Ok (t, exact) → in_range a.calendar t ≡ true
  unfolding read_offset
  read_inside (Offset.Whole n) h = (reading a (whole_good a n t exact h)).inside n t exact h
  read_inside (Offset.Double x) h = double_inside x h
