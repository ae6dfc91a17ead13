-- What the passes that write take out of their loops. No promise to a caller of the library rests on it.
use Rattle.std.specs.Prelude.{◌≡◌, Ok, true, ℤ, List, ◌++◌, length, drop}
use Rattle.std.specs.List.{AllZip}
use Rattle.axis_types.specs.Reading.{Reading, is_read}
use Rattle.axis_types.specs.Lengths.{length_of}
use Rattle.axis_types.specs.declared.Axis.{Axis}
use Rattle.double.specs.declared.Scale.{Scale}
use Rattle.step.specs.declared.Part.{Part}
use Rattle.calendar_axis.specs.Start.{StartOf}
use Rattle.calendar_axis.specs.declared.Start.{Start}
use Rattle.axis.specs.Axis.{axis_check, step_on}
use Rattle.axis.specs.declared.Step.{Step}

-- s is the scale of the axis's period
abbrev pub ScaleOf : Axis → Scale → Type 0
ScaleOf axis s = s.micros ≡ length_of axis.period

-- offsets that are read are read as the whole numbers that they are
abbrev pub ReadAsWholes : {A : Type 0} → (A → Reading) → (A → ℤ) → (ℤ → Reading) → Type 0
ReadAsWholes {A} read number read_whole = (x : A) → is_read (read x) ≡ true → read_whole (number x) ≡ read x

-- `now` is ds with what calls gave of the xs: each at its own place, and the places beyond as they were
abbrev pub Written : {A : Type 0} → (A → ℤ → Type 0) → List A → List ℤ → List ℤ → Type 0
Written gave xs ds now = (ts : List ℤ) × AllZip gave xs ts × (now ≡ ts ++ drop (length xs) ds)

-- offsets on a good axis move a part of the date, from its reference
pub record Begins (axis : Axis) (part : Part) (from : Start) : Type 0 where
  pub good : axis_check axis ≡ Ok tt
  pub step : step_on axis ≡ Step.Date part
  pub start : StartOf axis.calendar axis.reference from
