-- The reading of an offset by what offsets move on an axis: what the elements of a run give is what the axis reads.
use Rattle.std.specs.Prelude.{Result, Ok, Err}
use mathlib.Core.Path.{◌≡◌, refl, sym, ap, ◌∙◌}
use mathlib.Core.Bool.{Bool, true, cond, false≢true}
use lib.IntN.{ℤ}
use lib.Ieee.{Float}
use Rattle.axis_types.specs.declared.Axis.{Axis}
use Rattle.axis_types.specs.declared.Mode.{Mode}
use Rattle.axis_types.specs.Reading.{instant_of, is_read, Reading}
use Rattle.double.specs.Whole.{whole_of}
use Rattle.fixed_axis.specs.Fixed.{time_after, read_whole}
use Rattle.fixed_axis.proofs.Offsets.{read_time}
use Rattle.step.specs.declared.Part.{Part}
use Rattle.calendar_axis.specs.Steps.{read_from}
use Rattle.calendar_axis.specs.declared.Start.{Start}
use Rattle.calendar_axis.proofs.Demands.{from_start}
use Rattle.axis.specs.Axis.{on_good, step_on, read_by, as_whole, read_whole_on, read_double_on, axis_check}
use Rattle.axis.specs.declared.Step.{Step}
use Rattle.axis.proofs.Demands.{whole_exact, whole_double, refused_double}
use Rattle.run_ends.specs.Ends.{whole_number}
use Rattle.runs.specs.Passes.{Begins}
use Rattle.runs.specs.Run.{mark_of}
use Rattle.refusal.specs.declared.Refusal.{Refusal}

-- ---- whole offsets
module _ (axis : Axis) (g : axis_check axis ≡ Ok tt) (n : ℤ) where
  by_step : (s : Step) → step_on axis ≡ s → read_by s axis.calendar axis.period axis.reference n ≡ read_whole_on axis n
  unfolding read_whole_on
  by_step s e = λ i. on_good (sym g i) Err (read_by (sym e i) axis.calendar axis.period axis.reference n)

  -- that move the time
  pub by_time : step_on axis ≡ Step.Time → read_whole axis.calendar axis.period axis.reference n ≡ read_whole_on axis n
  by_time = by_step Step.Time

  pub time_is : step_on axis ≡ Step.Time → is_read (read_whole_on axis n) ≡ true → time_after axis.period axis.reference n ≡ instant_of (read_whole_on axis n)
  time_is e h = ap instant_of (sym (read_time axis.calendar axis.period axis.reference n (ap is_read (by_time e) ∙ h)) ∙ by_time e)

-- that move a part of the date
pub by_part : (axis : Axis) (n : ℤ) (part : Part) (start : Start) → Begins axis part start → read_from part axis.calendar start.date start.time n ≡ read_whole_on axis n
by_part axis n part start b = from_start part axis.calendar axis.reference start n b.start ∙ by_step axis b.good n (Step.Date part) b.step

module _ (axis : Axis) (n : ℤ) where
  -- a whole offset is never rounded
  pub whole_unmarked : mark_of (read_whole_on axis n) ≡ 0
  whole_unmarked = go (read_whole_on axis n) refl
    where
      go : (r : Reading) → read_whole_on axis n ≡ r → mark_of r ≡ 0
      go (Ok (t, exact)) h = ap (λ (b : Bool). cond b 0 1) (whole_exact axis n t exact h)
      go (Err r) h = refl

-- ---- doubles in calendar mode
module _ (axis : Axis) (g : axis_check axis ≡ Ok tt) (m : axis.mode ≡ Mode.Calendar) (x : Float) where
  by_whole : (w : Result ℤ Refusal) → whole_of x ≡ w → read_double_on axis x ≡ as_whole w (read_whole_on axis)
  by_whole (Ok n) e = whole_double axis x n m e
  by_whole (Err r) e = refused_double axis x r (sym g) m e

  -- they are read as the whole offsets that they are
  pub as_whole_lem : is_read (read_double_on axis x) ≡ true → read_whole_on axis (whole_number (whole_of x)) ≡ read_double_on axis x
  as_whole_lem h = go (whole_of x) (ap is_read (sym (by_whole (whole_of x) refl)) ∙ h) ∙ sym (by_whole (whole_of x) refl)
    where
      go : (w : Result ℤ Refusal) → is_read (as_whole w (read_whole_on axis)) ≡ true → read_whole_on axis (whole_number w) ≡ as_whole w (read_whole_on axis)
      go (Ok n) e = refl
      go (Err r) e = absurd (false≢true e)

  -- and never rounded
  pub double_unmarked : mark_of (read_double_on axis x) ≡ 0
  double_unmarked = ap mark_of (by_whole (whole_of x) refl) ∙ go (whole_of x)
    where
      go : (w : Result ℤ Refusal) → mark_of (as_whole w (read_whole_on axis)) ≡ 0
      go (Ok n) = whole_unmarked axis n
      go (Err r) = refl
