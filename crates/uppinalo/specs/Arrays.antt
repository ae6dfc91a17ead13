-- The demands of the two calls about datetime64 arrays, whatever they are handed; the last record, `Arrays`, has them all. Document 02, CR 1.
-- An identifier is a text; where the grammar `identifier` derives it, it names a type t, which is a byte order and a unit.
-- How one record is read alone, and why one instant is not written, is told by `read_record t` and `instant_refusal t` of crate `datetime64_runs`.
-- `Bytes s` says that the numbers s are bytes, below 256, as those are that a caller lends; a record is eight of them.
use Rattle.std.specs.Prelude.{◌≡◌, true, false, List, [], ◌∷◌, ◌++◌, map, ◌↔◌, ℕ, ◌*◌, ◌%◌, ◌≤◌, ◌<◌, ℤ, pos, length, take, drop}
use Rattle.std.proofs.Math.Option.{Option, none, some}
use Rattle.refusal.specs.Number.{number_of}
use Rattle.refusal.specs.declared.Refusal.{Refusal}
use Rattle.refusal.specs.declared.Refusal.TheVariants.{IllFormed, OutOfRange, NoRoom, PartRecord}
use Rattle.calendar.specs.declared.Calendar.TheVariants.{ProlepticGregorian}
use Rattle.instant.specs.Instant.{in_range}
use Rattle.axis_types.specs.Reading.{refusal_of, instant_of}
use Rattle.run_ends.specs.Each.{Each}
use Rattle.runs.specs.declared.RunAnswer.{RunAnswer}
use Rattle.grammar.specs.Grammar.{Derives}
use Rattle.datetime64_type.specs.Identifier.{identifier}
use Rattle.datetime64_type.specs.declared.Datetime64Type.{Datetime64Type}
use Rattle.datetime64_runs.specs.Records.{Bytes, IsRecord, record_count, records_in}
use Rattle.datetime64_runs.specs.Runs.{read_record, instant_refusal, records_written}
use Rattle.uppinalo.specs.Runs.{no_run}
use Rattle.uppinalo.specs.Datetime64.{uppinalo_read_datetime64, uppinalo_read_datetime64_destination, uppinalo_write_datetime64, uppinalo_write_datetime64_records}

-- the answer to a run of n records, none of which is refused
abbrev pub all_of : ℕ → RunAnswer
all_of n = record { number = 0; place = 0; length = n; rounded = 0 }

-- ---- refusals, in their order

-- the text names no type: the grammar does not derive it
abbrev pub NamesNone : List ℕ → Type 0
NamesNone text = (t : Datetime64Type) → Derives identifier text t → ⊥

-- such a text, and no other, is refused with 3, before all else
pub record IdentifiersByGrammar (text : List ℕ) : Type 0 where
  pub reading : NamesNone text → (s : List ℕ) (ds : List ℤ) → uppinalo_read_datetime64 text s ds ≡ no_run IllFormed
  pub writing : NamesNone text → (xs : List ℤ) (room : List ℕ) → uppinalo_write_datetime64 text xs room ≡ no_run IllFormed
  pub reading_only : (s : List ℕ) (ds : List ℤ) → Bytes s → (uppinalo_read_datetime64 text s ds).number ≡ 3 → NamesNone text
  pub writing_only : (xs : List ℤ) (room : List ℕ) → (uppinalo_write_datetime64 text xs room).number ≡ 3 → NamesNone text

-- `refusal` tells why an element is refused alone, or nothing: the first of xs that is refused gives the answer its number and its place
abbrev pub RefusedFirst : {A : Type 0} → (A → Option Refusal) → List A → RunAnswer → Type 0
RefusedFirst {A} refusal xs answer =
    (ys : List A) (y : A) (zs : List A) (r : Refusal) → xs ≡ ys ++ y ∷ zs → Each (λ (x : A). refusal x ≡ none) ys → refusal y ≡ some r → answer ≡ record { number = number_of r; place = length ys; length = 0; rounded = 0 }

-- the bytes s are read as records of the type t; the destination ds is ds' afterwards
pub record ReadByRecords (t : Datetime64Type) (s : List ℕ) (ds : List ℤ) (answer : RunAnswer) (ds' : List ℤ) : Type 0 where
  -- bytes that are no whole number of records come first, then too little room
  pub part : (length s % 8 ≡ 0 → ⊥) → answer ≡ no_run PartRecord
  pub short : length s % 8 ≡ 0 → length ds < record_count s → answer ≡ no_run NoRoom
  -- then the first record that is refused alone
  pub refused : length s % 8 ≡ 0 → record_count s ≤ length ds → RefusedFirst (λ (r : List ℕ). refusal_of (read_record t r)) (records_in s) answer
  -- and where none is, each instant stands at its record's place, and the places beyond are kept
  pub read_all : length s % 8 ≡ 0 → record_count s ≤ length ds → Each (λ (r : List ℕ). refusal_of (read_record t r) ≡ none) (records_in s) → (answer ≡ all_of (record_count s)) × (ds' ≡ map (λ (r : List ℕ). instant_of (read_record t r)) (records_in s) ++ drop (record_count s) ds)

-- the instants xs are written as records of the type t; the room is room' afterwards
pub record WrittenByInstants (t : Datetime64Type) (xs : List ℤ) (room : List ℕ) (answer : RunAnswer) (room' : List ℕ) : Type 0 where
  -- too little room, which is counted in bytes, comes first
  pub short : length room < 8 * length xs → answer ≡ no_run NoRoom
  -- then the first instant that is refused alone
  pub refused : 8 * length xs ≤ length room → RefusedFirst (instant_refusal t) xs answer
  -- and where none is, the records stand one after another, and the bytes beyond are kept
  pub written_all : 8 * length xs ≤ length room → Each (λ (x : ℤ). instant_refusal t x ≡ none) xs → (answer ≡ all_of (length xs)) × (room' ≡ records_written t xs ++ drop (8 * length xs) room)

-- ---- demand 2: what is written reads as it

-- the instants xs are written as the bytes s, and the bytes beyond are kept
abbrev pub WrittenAs : List ℕ → List ℤ → List ℕ → List ℕ → Type 0
WrittenAs text xs s room = (uppinalo_write_datetime64 text xs room ≡ all_of (record_count s)) × (uppinalo_write_datetime64_records text xs room ≡ s ++ drop (length s) room)

-- the bytes s are read as the instants xs, and the places beyond are kept
abbrev pub ReadAs : List ℕ → List ℕ → List ℤ → List ℤ → Type 0
ReadAs text s xs ds = (uppinalo_read_datetime64 text s ds ≡ all_of (length xs)) × (uppinalo_read_datetime64_destination text s ds ≡ xs ++ drop (length xs) ds)

-- the record r alone is read as the instant x; not-a-time, which is refused, is read as none
abbrev pub RecordReadAs : List ℕ → List ℕ → ℤ → Type 0
RecordReadAs text r x = ReadAs text r (x ∷ []) (pos 0 ∷ [])

-- the instant x alone is written, into a room of eight bytes, which are room' afterwards: it is refused as inexact exactly where no record
-- reads as x, and else what is written reads as x
pub record WritesRecord (text : List ℕ) (x : ℤ) (answer : RunAnswer) (room' : List ℕ) : Type 0 where
  pub inexact : (answer.number ≡ 6) ↔ ((r : List ℕ) → IsRecord r → RecordReadAs text r x → ⊥)
  pub written : (answer.number ≡ 6 → ⊥) → (answer ≡ all_of 1) × IsRecord room' × RecordReadAs text room' x

pub record RecordsBack (text room : List ℕ) : Type 0 where
  pub instant : (x : ℤ) → in_range ProlepticGregorian x ≡ true → WritesRecord text x (uppinalo_write_datetime64 text (x ∷ []) room) (uppinalo_write_datetime64_records text (x ∷ []) room)
  pub instant_past : (x : ℤ) → in_range ProlepticGregorian x ≡ false → uppinalo_write_datetime64 text (x ∷ []) room ≡ no_run OutOfRange

-- ---- demand 2: whole arrays, there and back

-- the instants that stand in the destination after the bytes s were read
abbrev pub instants_read : List ℕ → List ℕ → List ℤ → List ℤ
instants_read text s ds = take (record_count s) (uppinalo_read_datetime64_destination text s ds)

-- the bytes that stand in the room after the instants xs were written
abbrev pub bytes_written : List ℕ → List ℤ → List ℕ → List ℕ
bytes_written text xs room = take (8 * length xs) (uppinalo_write_datetime64_records text xs room)

pub record ArraysBack (text : List ℕ) : Type 0 where
  -- bytes that were read are written again from their instants: the same bytes
  pub read_then_written : (s : List ℕ) (ds : List ℤ) → Bytes s → (uppinalo_read_datetime64 text s ds).number ≡ 0 → (room : List ℕ) → length s ≤ length room → WrittenAs text (instants_read text s ds) s room
  -- instants that were written are read again from their bytes
  pub written_then_read : (xs : List ℤ) (room : List ℕ) → (uppinalo_write_datetime64 text xs room).number ≡ 0 → (ds : List ℤ) → length xs ≤ length ds → ReadAs text (bytes_written text xs room) xs ds
  -- different bytes that are read give different instants
  pub one_array : (s s' : List ℕ) (ds ds' : List ℤ) → Bytes s → Bytes s' → (uppinalo_read_datetime64 text s ds).number ≡ 0 → (uppinalo_read_datetime64 text s' ds').number ≡ 0 → instants_read text s ds ≡ instants_read text s' ds' → s ≡ s'

-- ---- all of them

pub record Arrays : Type 0 where
  pub identifiers : (text : List ℕ) → IdentifiersByGrammar text
  pub reading : (text : List ℕ) (t : Datetime64Type) → Derives identifier text t → (s : List ℕ) (ds : List ℤ) → ReadByRecords t s ds (uppinalo_read_datetime64 text s ds) (uppinalo_read_datetime64_destination text s ds)
  pub writing : (text : List ℕ) (t : Datetime64Type) → Derives identifier text t → (xs : List ℤ) (room : List ℕ) → WrittenByInstants t xs room (uppinalo_write_datetime64 text xs room) (uppinalo_write_datetime64_records text xs room)
  pub records : (text : List ℕ) (t : Datetime64Type) → Derives identifier text t → (room : List ℕ) → length room ≡ 8 → RecordsBack text room
  pub back : (text : List ℕ) → ArraysBack text
