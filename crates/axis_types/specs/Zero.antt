-- The zero axis: document 01, "Numbers returned".
use Rattle.std.specs.Prelude.{pos}
use Rattle.calendar.specs.declared.Calendar.{Calendar}
use Rattle.axis_types.specs.declared.Period.{Period}
use Rattle.axis_types.specs.declared.Mode.{Mode}
use Rattle.axis_types.specs.declared.Axis.{Axis}

abbrev pub zero_axis : Axis
zero_axis = record { calendar = Calendar.Standard 0; period = Period.Second; mode = Mode.Fixed; reference = pos 0 }
