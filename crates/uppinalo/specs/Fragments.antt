-- What the calls about a units text in fragments answer, and the state that each leaves, which are the definitions of crate `units_fragments`.
use Rattle.std.specs.Prelude.{cond, List, ℕ, ltb, take}
use Rattle.refusal.specs.Number.{number_of}
use Rattle.refusal.specs.declared.Refusal.TheVariants.{TextTooLong, NotOpen}
use Rattle.calendar.specs.declared.Date.{Date}
use Rattle.units_fragments.specs.Fragments.{fresh_state, is_open, after_fragment, after_end}
use Rattle.units_fragments.specs.declared.UnitsState.{UnitsState}
use Rattle.uppinalo.specs.Texts.{no_axis, uppinalo_read_units}
use Rattle.uppinalo.specs.declared.texts.UppinaloAxisAnswer.{UppinaloAxisAnswer}

abbrev pub uppinalo_start_units : UnitsState
uppinalo_start_units = fresh_state

abbrev pub uppinalo_add_units : UnitsState → List ℕ → ℕ
uppinalo_add_units s fragment = cond (is_open s) 0 (number_of NotOpen)

abbrev pub uppinalo_add_units_state : UnitsState → List ℕ → UnitsState
uppinalo_add_units_state s fragment = after_fragment s fragment

-- what the bytes so far say; a text of more than 128 bytes is too long, whatever its bytes are
abbrev pub read_so_far : UnitsState → List ℕ → Date → UppinaloAxisAnswer
read_so_far s calendar cutover = cond (ltb 128 s.count) (no_axis TextTooLong) (uppinalo_read_units calendar cutover (take s.count s.bytes))

abbrev pub uppinalo_end_units : UnitsState → List ℕ → Date → UppinaloAxisAnswer
uppinalo_end_units s calendar cutover = cond (is_open s) (read_so_far s calendar cutover) (no_axis NotOpen)

abbrev pub uppinalo_end_units_state : UnitsState → List ℕ → Date → UnitsState
uppinalo_end_units_state s calendar cutover = after_end s
