-- The answers of the C boundary about a run. Codes that name no axis are refused first, and leave the destination as it was. A definition
-- with the name of a call is what that call promises: of its answer, and of the destination afterwards.
use Rattle.std.specs.Prelude.{List, ℤ, Float, Result, Ok, Err}
use Rattle.refusal.specs.Number.{number_of}
use Rattle.refusal.specs.declared.Refusal.{Refusal}
use Rattle.axis.specs.Axis.{axis_check, read_whole_on, read_double_on}
use Rattle.axis_types.specs.declared.Axis.{Axis}
use Rattle.runs.specs.Run.{run_answer, run_written}
use Rattle.runs.specs.declared.RunAnswer.{RunAnswer}
use Rattle.codes.specs.Codes.{coded_axis}
use Rattle.codes.specs.declared.UppinaloAxis.{UppinaloAxis}
use Rattle.axis_types.specs.Reading.{Reading}

abbrev pub no_run : Refusal → RunAnswer
no_run r = record { number = number_of r; place = 0; length = 0; rounded = 0 }

-- the run xs of offsets of any kind, each read by `read` alone, lent the destination ds
abbrev pub run_on : {A : Type 0} → Result Axis Refusal → (Axis → A → Reading) → List A → List ℤ → RunAnswer
run_on (Ok a) read xs ds = run_answer (read a) (axis_check a) xs ds
run_on (Err r) read xs ds = no_run r

abbrev pub destination_on : {A : Type 0} → Result Axis Refusal → (Axis → A → Reading) → List A → List ℤ → List ℤ
destination_on (Ok a) read xs ds = run_written (read a) (axis_check a) xs ds
destination_on (Err r) read xs ds = ds

abbrev pub uppinalo_read_wholes : UppinaloAxis → List ℤ → List ℤ → RunAnswer
uppinalo_read_wholes axis xs ds = run_on (coded_axis axis) read_whole_on xs ds

abbrev pub uppinalo_read_wholes_destination : UppinaloAxis → List ℤ → List ℤ → List ℤ
uppinalo_read_wholes_destination axis xs ds = destination_on (coded_axis axis) read_whole_on xs ds

abbrev pub uppinalo_read_doubles : UppinaloAxis → List Float → List ℤ → RunAnswer
uppinalo_read_doubles axis xs ds = run_on (coded_axis axis) read_double_on xs ds

abbrev pub uppinalo_read_doubles_destination : UppinaloAxis → List Float → List ℤ → List ℤ
uppinalo_read_doubles_destination axis xs ds = destination_on (coded_axis axis) read_double_on xs ds
