-- The theorems about records of a datetime64 type t, over the definitions of specs/Records.antt and specs/Runs.antt. Records and their numbers: Back.antt.
--   written-reads       what an instant is written as reads as the instant, exactly
--   same_bytes          an instant that is read from a record is written as the same bytes
--   one-record          two records that are read as one instant are one record
--   inexact-writing     an instant of the range is refused as inexact just where no record reads as it
--   records-are         bytes are cut into records
--   read-over           the instants that were read stand at the start of the destination
--   read-then-written   bytes that were read are written again from their instants
--   written-then-read   instants that were written are read again from their bytes
use Rattle.std.specs.Prelude.{Result, Ok, Err}
use mathlib.Core.Path.{◌≡◌, refl, sym, ap, ◌∙◌, subst}
use mathlib.Core.Bool.{Bool, true, false≢true}
use mathlib.Core.List.{List, [], ◌∷◌, ◌++◌, map}
use mathlib.Core.Logic.{◌↔◌}
use mathlib.Core.Option.{some}
use Prim.Native.Nat.{ℕ, zero, suc, ◌*◌, ◌≤◌}
use native.Mathlib.Omega.{arith}
use lib.IntN.{ℤ}
use lib.ListN.{length, take, drop, length-map, length-drop, take-append-drop}
use lib.Seq.{take_at, drop_at, length-take-le}
use Rattle.refusal.specs.declared.Refusal.TheVariants.{Inexact}
use Rattle.calendar.specs.declared.Calendar.TheVariants.{ProlepticGregorian}
use Rattle.instant.specs.Instant.{in_range}
use Rattle.axis_types.specs.Reading.{is_none, is_read, instant_of, offset_of, offset_refusal, Reading}
use Rattle.run_ends.specs.Each.{Each}
use Rattle.runs.specs.Run.{overlaid}
use Rattle.runs.proofs.Passes.{each_read, each_checked}
use Rattle.datetime64_type.specs.declared.Datetime64Type.{Datetime64Type}
use Rattle.datetime64_number.specs.Numbers.{read_number, write_number}
use Rattle.datetime64_number.proofs.Theorems as Number
use Rattle.datetime64_runs.specs.Records.{Bytes, IsRecord, record_number, record_of, cut, record_count, records_in}
use Rattle.datetime64_runs.specs.Runs.{read_record, records_check, instant_refusal, instants_check, records_written}
use Rattle.datetime64_runs.proofs.Bytes.{record_length}
use Rattle.datetime64_runs.proofs.Cuts.{record_count_lem}
use Rattle.datetime64_runs.proofs.Putting.{written, written_length}
use Rattle.datetime64_runs.proofs.Checks.{each_record, passed, each_instant, held}
use Rattle.datetime64_runs.proofs.Back.{number_fits, record_is, record_back, number_back}
use Rattle.refusal.specs.declared.Refusal.{Refusal}

was_refused : (a : Result ℤ Refusal) → offset_refusal a ≡ some Inexact → a ≡ Err Inexact
was_refused (Ok n) e = absurd (let k : ◌≡◌ {A = ℕ} 0 1 = cc in omega arith)
was_refused (Err r) e = ap Err (let k : r ≡ Inexact = cc in k)

-- ---- one record
module _ (t : Datetime64Type) where
  pub written_reads : (x n : ℤ) → write_number t.unit x ≡ Ok n → read_record t (record_of t.order n) ≡ Ok (x, true)
  written_reads x n e = ap (read_number t.unit) (number_back t.order n (Number.written_fits t.unit x n e)) ∙ Number.written_reads t.unit x n e

  pub same_bytes : (r : List ℕ) (x : ℤ) (exact : Bool) → IsRecord r → read_record t r ≡ Ok (x, exact) → (write_number t.unit x ≡ Ok (record_number t.order r)) × (record_of t.order (offset_of (write_number t.unit x)) ≡ r)
  same_bytes r x exact h e =
      let w = Number.read_writes t.unit (record_number t.order r) x exact (number_fits t.order r h) e in
      (w, ap (λ (a : Result ℤ Refusal). record_of t.order (offset_of a)) w ∙ record_back t.order r h)

  pub one_record : (r s : List ℕ) (x : ℤ) (i j : Bool) → IsRecord r → IsRecord s → read_record t r ≡ Ok (x, i) → read_record t s ≡ Ok (x, j) → r ≡ s
  one_record r s x i j h g e f = sym (same_bytes r x i h e).1 ∙ (same_bytes s x j g f).1

  pub inexact_writing : (x : ℤ) → in_range ProlepticGregorian x ≡ true → (instant_refusal t x ≡ some Inexact) ↔ ((r : List ℕ) → IsRecord r → read_record t r ≡ Ok (x, true) → ⊥)
  inexact_writing x i =
      let by = Number.inexact_writing t.unit x i in (
        (λ e r h f. by.0 (was_refused (write_number t.unit x) e) (record_number t.order r) (number_fits t.order r h) f),
        λ none. ap offset_refusal (by.1 (λ n g f. none (record_of t.order n) (record_is t.order n) (ap (read_number t.unit) (number_back t.order n g) ∙ f))),
      )

-- ---- whole runs

taken : (k : ℕ) (s : List ℕ) → Bytes s → Bytes (take k s)
taken zero s h = tt
taken (suc k) [] h = tt
taken (suc k) (b ∷ s) h = (h.0, taken k s h.1)

dropped : (k : ℕ) (s : List ℕ) → Bytes s → Bytes (drop k s)
dropped zero s h = h
dropped (suc k) [] h = tt
dropped (suc k) (b ∷ s) h = dropped k s h.1

pub records_are : (n : ℕ) (s : List ℕ) → 8 * n ≤ length s → Bytes s → Each IsRecord (cut n s)
unfolding cut
records_are zero s l h = tt
records_are (suc n) s l h = (record { eight = length-take-le 8 s (omega arith); bytes = taken 8 s h }, records_are n (drop 8 s) (omega (arith, length-drop 8 s)) (dropped 8 s h))

module _ (t : Datetime64Type) where
  abbrev instant : List ℕ → ℤ
  instant r = instant_of (read_record t r)

  abbrev Read : List ℕ → Type 0
  Read r = is_read (read_record t r) ≡ true

  abbrev Written : ℤ → Type 0
  Written x = is_none (instant_refusal t x) ≡ true

  -- the instants of bytes
  abbrev pub instants_in : List ℕ → List ℤ
  instants_in s = map instant (records_in s)

  instant_count : (s : List ℕ) → length (instants_in s) ≡ record_count s
  instant_count s = length-map (records_in s) instant ∙ record_count_lem s

  pub read_over : (s : List ℕ) (ds : List ℤ) → take (record_count s) (overlaid (read_record t) (records_in s) ds) ≡ instants_in s
  unfolding overlaid
  read_over s ds = take_at (instants_in s) (drop (length (records_in s)) ds) (record_count s) (instant_count s)

  -- ---- read, then written

  record_again : (r : List ℕ) → IsRecord r → (a : Reading) → read_record t r ≡ a → is_read a ≡ true → Written (instant_of a) × (written t (instant_of a) ≡ r)
  record_again r h (Ok (x, exact)) e f = let w = same_bytes t r x exact h e in (ap (λ (a : Result ℤ Refusal). is_none (offset_refusal a)) w.0, w.1)
  record_again r h (Err q) e f = absurd (false≢true f)

  records_again : (n : ℕ) (s : List ℕ) → length s ≡ 8 * n → Bytes s → Each Read (cut n s) → Each Written (map instant (cut n s)) × (records_written t (map instant (cut n s)) ≡ s)
  unfolding cut records_written
  records_again zero [] l h e = (tt, refl)
  records_again zero (b ∷ s) l h e = absurd (omega arith)
  records_again (suc n) s l h e =
      let one = record_again (take 8 s) (record { eight = length-take-le 8 s (omega arith); bytes = taken 8 s h }) (read_record t (take 8 s)) refl e.0 in
      let more = records_again n (drop 8 s) (length-drop 8 s ∙ omega arith) (dropped 8 s h) e.1 in
      ((one.0, more.0), (λ i. one.1 i ++ more.1 i) ∙ take-append-drop 8 s)

  pub read_then_written : (s : List ℕ) (room room' : ℕ) → Bytes s → records_check t s room ≡ Ok tt → length s ≤ room' → (instants_check t (instants_in s) room' ≡ Ok tt) × (records_written t (instants_in s) ≡ s)
  read_then_written s room room' h e f =
      let p = passed t s room e in
      let again = records_again (record_count s) s (omega (arith, p.whole)) h (each_checked _ (records_in s) p.all_read) in
      (sym (each_read (instant_refusal t) (instants_in s) again.0 ∙ each_instant t (instants_in s) room' (omega (arith, instant_count s))), again.1)

  -- ---- written, then read

  cut_again : (ts : List ℤ) → cut (length ts) (records_written t ts) ≡ map (written t) ts
  unfolding cut records_written
  cut_again [] = refl
  cut_again (x ∷ ts) =
      let l = record_length t.order (offset_of (write_number t.unit x)) in
      λ i. take_at (written t x) (records_written t ts) 8 l i ∷ (ap (cut (length ts)) (drop_at (written t x) (records_written t ts) 8 l) ∙ cut_again ts) i

  records_written_lem : (ts : List ℤ) → records_in (records_written t ts) ≡ map (written t) ts
  records_written_lem ts =
      let l = written_length t ts in
      let n : record_count (records_written t ts) ≡ length ts = omega arith in
      ap (λ (k : ℕ). cut k (records_written t ts)) n ∙ cut_again ts

  instant_again : (x : ℤ) (a : Result ℤ Refusal) → write_number t.unit x ≡ a → is_none (offset_refusal a) ≡ true → read_record t (record_of t.order (offset_of a)) ≡ Ok (x, true)
  instant_again x (Ok n) e f = written_reads t x n e
  instant_again x (Err r) e f = absurd (false≢true f)

  instants_again : (ts : List ℤ) → Each Written ts → Each Read (map (written t) ts) × (map instant (map (written t) ts) ≡ ts)
  instants_again [] h = (tt, refl)
  instants_again (x ∷ ts) h =
      let one = instant_again x (write_number t.unit x) refl h.0 in
      let more = instants_again ts h.1 in
      ((ap is_read one, more.0), λ i. instant_of (one i) ∷ more.1 i)

  pub written_then_read : (ts : List ℤ) (room room' : ℕ) → instants_check t ts room ≡ Ok tt → length ts ≤ room' → (records_check t (records_written t ts) room' ≡ Ok tt) × (instants_in (records_written t ts) ≡ ts)
  written_then_read ts room room' e f =
      let again = instants_again ts (each_checked _ ts (held t ts room e).all_written) in
      let s = records_written t ts in
      let l : length s ≡ 8 * length ts = written_length t ts in
      let all : Each Read (records_in s) = subst (Each Read) (sym (records_written_lem ts)) again.0 in
      (sym (each_read _ (records_in s) all ∙ each_record t s room' (omega arith) (omega arith)), ap (map instant) (records_written_lem ts) ∙ again.1)
