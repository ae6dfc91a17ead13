-- The answers of the C boundary about texts: the number, and zeros beside a refusal. A definition with the name of a call is what that call
-- promises: of its answer, and of the room afterwards.
use Rattle.std.specs.Prelude.{true, false, List, ℕ, ℤ, pos, Result, Ok, Err}
use Rattle.refusal.specs.Number.{number_of}
use Rattle.refusal.specs.declared.Refusal.{Refusal}
use Rattle.calendar.specs.Cutover.{first_cutover}
use Rattle.calendar.specs.declared.Date.{Date}
use Rattle.iso_text.specs.Iso.{read_iso, write_iso, room_iso}
use Rattle.axis_types.specs.Zero.{zero_axis}
use Rattle.axis_text.specs.Units.{read_units}
use Rattle.codes.specs.Codes.{calendar_given, axis_code}
use Rattle.uppinalo.specs.declared.texts.UppinaloReading.{UppinaloReading}
use Rattle.uppinalo.specs.declared.texts.UppinaloLengthAnswer.{UppinaloLengthAnswer}
use Rattle.uppinalo.specs.declared.texts.UppinaloAxisAnswer.{UppinaloAxisAnswer}
use Rattle.axis_types.specs.declared.Axis.{Axis}
use Rattle.calendar.specs.declared.Calendar.{Calendar}

-- an instant that is read from a text is exact, and no day is stepped back
abbrev pub of_instant : Result ℤ Refusal → UppinaloReading
of_instant (Ok t) = record { number = 0; instant = t; exact = true; days_back = 0 }
of_instant (Err r) = record { number = number_of r; instant = pos 0; exact = false; days_back = 0 }

abbrev pub uppinalo_read_iso : List ℕ → Date → List ℕ → UppinaloReading
uppinalo_read_iso calendar cutover text = of_instant (read_iso calendar cutover text)

-- a refusal has the zero axis beside it, whose cutover is that of 1582
abbrev pub no_axis : Refusal → UppinaloAxisAnswer
no_axis r = record { number = number_of r; axis = axis_code zero_axis first_cutover }

-- an axis that is read has the cutover as it was given
abbrev pub of_axis : Result Axis Refusal → Date → UppinaloAxisAnswer
of_axis (Ok a) cutover = record { number = 0; axis = axis_code a cutover }
of_axis (Err r) cutover = no_axis r

abbrev pub uppinalo_read_units : List ℕ → Date → List ℕ → UppinaloAxisAnswer
uppinalo_read_units calendar cutover text = of_axis (read_units calendar cutover text) cutover

abbrev pub no_length : Refusal → UppinaloLengthAnswer
no_length r = record { number = number_of r; length = 0 }

abbrev pub of_length : Result ℕ Refusal → UppinaloLengthAnswer
of_length (Ok n) = record { number = 0; length = n }
of_length (Err r) = no_length r

-- the answer of writing the text of an instant, and what it leaves in the room
abbrev pub length_by_code : Result Calendar Refusal → ℤ → List ℕ → UppinaloLengthAnswer
length_by_code (Ok c) t room = of_length (write_iso c t room)
length_by_code (Err r) t room = no_length r

abbrev pub room_by_code : Result Calendar Refusal → ℤ → List ℕ → List ℕ
room_by_code (Ok c) t room = room_iso c t room
room_by_code (Err r) t room = room

abbrev pub uppinalo_write_iso : ℕ → Date → ℤ → List ℕ → UppinaloLengthAnswer
uppinalo_write_iso calendar cutover t room = length_by_code (calendar_given calendar cutover) t room

abbrev pub uppinalo_write_iso_room : ℕ → Date → ℤ → List ℕ → List ℕ
uppinalo_write_iso_room calendar cutover t room = room_by_code (calendar_given calendar cutover) t room
