-- Two runs over a datetime64 array, all or nothing: its records read as instants, and instants written as its records. Document 02, CR 1.
-- Places and lengths are counted in records.
use Rattle.std.specs.Prelude.{cond, List, [], ◌∷◌, ◌++◌, ℕ, ◌*◌, ◌%◌, eqb, ltb, ℤ, length, drop, Option as Answer, Some, None}
use Rattle.std.proofs.Math.Option.{Option}
use Rattle.refusal.specs.declared.Refusal.{Refusal}
use Rattle.refusal.specs.declared.Refusal.TheVariants.{IllFormed, NoRoom, PartRecord}
use Rattle.axis_types.specs.Reading.{offset_of, offset_refusal, Reading}
use Rattle.runs.specs.Run.{first_refused, checked, overlaid, check_answer, chosen, Check, refused_at}
use Rattle.runs.specs.declared.RunAnswer.{RunAnswer}
use Rattle.grammar.specs.Reader.{read}
use Rattle.datetime64_type.specs.Identifier.{identifier, type_answer}
use Rattle.datetime64_type.specs.declared.Datetime64Type.{Datetime64Type}
use Rattle.datetime64_number.specs.Numbers.{read_number, write_number}
use Rattle.datetime64_runs.specs.Records.{record_number, record_of, record_count, records_in}

-- the type that an identifier names
abbrev pub type_named : List ℕ → Answer Datetime64Type
type_named text = type_answer (read identifier text)

-- ---- reading

-- one record
abbrev pub read_record : Datetime64Type → List ℕ → Reading
read_record t bytes = read_number t.unit (record_number t.order bytes)

-- refused for bytes that are no whole number of records, then for the room, then as the first record that is refused
unfoldable pub records_check : Datetime64Type → List ℕ → ℕ → Check
records_check t bytes room =
    cond (eqb (length bytes % 8) 0) (cond (ltb room (record_count bytes)) (refused_at NoRoom 0) (checked (read_record t) (records_in bytes))) (refused_at PartRecord 0)

-- before all that, for the identifier
abbrev pub read_check : Answer Datetime64Type → List ℕ → ℕ → Check
read_check (Some t) bytes room = records_check t bytes room
read_check None bytes room = refused_at IllFormed 0

-- the destination ds with the instants of the records
abbrev pub instants_over : Answer Datetime64Type → List ℕ → List ℤ → List ℤ
instants_over (Some t) bytes ds = overlaid (read_record t) (records_in bytes) ds
instants_over None bytes ds = ds

module _ (type : Answer Datetime64Type) (bytes : List ℕ) (ds : List ℤ) where
  -- the answer, of which nothing is rounded
  abbrev pub read_answer : RunAnswer
  read_answer = check_answer (read_check type bytes (length ds)) (record_count bytes) 0

  -- the destination afterwards
  abbrev pub read_destination : List ℤ
  read_destination = chosen (read_check type bytes (length ds)) (instants_over type bytes ds) ds

-- ---- writing

-- why one instant is not written
abbrev pub instant_refusal : Datetime64Type → ℤ → Option Refusal
instant_refusal type t = offset_refusal (write_number type.unit t)

-- refused for the room, in bytes, then as the first instant that is refused
unfoldable pub instants_check : Datetime64Type → List ℤ → ℕ → Check
instants_check type ts room = cond (ltb room (8 * length ts)) (refused_at NoRoom 0) (first_refused (instant_refusal type) ts)

abbrev pub write_check : Answer Datetime64Type → List ℤ → ℕ → Check
write_check (Some t) ts room = instants_check t ts room
write_check None ts room = refused_at IllFormed 0

-- the records of instants, one after another
unfoldable pub records_written : Datetime64Type → List ℤ → List ℕ
records_written type [] = []
records_written type (t ∷ ts) = record_of type.order (offset_of (write_number type.unit t)) ++ records_written type ts

-- the room with them, and the bytes beyond as they were
abbrev pub records_over : Answer Datetime64Type → List ℤ → List ℕ → List ℕ
records_over (Some type) ts room = records_written type ts ++ drop (8 * length ts) room
records_over None ts room = room

module _ (type : Answer Datetime64Type) (ts : List ℤ) (room : List ℕ) where
  abbrev pub write_answer : RunAnswer
  write_answer = check_answer (write_check type ts (length room)) (length ts) 0

  -- the room afterwards
  abbrev pub write_room : List ℕ
  write_room = chosen (write_check type ts (length room)) (records_over type ts room) room
