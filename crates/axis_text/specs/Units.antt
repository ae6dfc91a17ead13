-- An axis read from a calendar name, a cutover and a units text: document 01, "The units text" and "Numbers returned", and document 02, CR 5 and
-- CR 8. A text is refused with 1, 2, 16, 3, then as its date is.
use Rattle.std.specs.Prelude.{List, ℕ, Result, Ok, Err, ℤ}
use Rattle.calendar.specs.declared.Calendar.{Calendar}
use Rattle.calendar.specs.declared.Date.{Date}
use Rattle.units_text.specs.declared.Units.{Units}
use Rattle.units_text.specs.UnitsRule.{units}
use Rattle.written_instant.specs.Instants.{written_instant}
use Rattle.named_text.specs.Texts.{read_text}
use Rattle.axis_types.specs.declared.Axis.{Axis}
use Rattle.refusal.specs.declared.Refusal.{Refusal}

-- the axis of units in a calendar, where their reference is an instant
abbrev pub axis_at : Calendar → Units → Result ℤ Refusal → Result Axis Refusal
axis_at c u (Ok t) = Ok (record { calendar = c; period = u.period; mode = u.mode; reference = t })
axis_at c u (Err r) = Err r

abbrev pub axis_of : Calendar → Units → Result Axis Refusal
axis_of c u = axis_at c u (written_instant c u.reference)

unfoldable pub read_units : List ℕ → Date → List ℕ → Result Axis Refusal
read_units name x text = read_text Err units axis_of name x text
