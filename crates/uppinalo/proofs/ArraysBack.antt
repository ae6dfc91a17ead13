-- Demand 2, datetime64 arrays: what is written reads as it, and what was read is written as the same bytes.
use Rattle.std.specs.Prelude.{Result, Ok, Err, Some, None, Option}
use mathlib.Core.Path.{◌≡◌, refl, sym, ap, ◌∙◌, subst}
use mathlib.Core.Bool.{Bool, true}
use mathlib.Core.List.{List, [], ◌∷◌, ◌++◌, map, append-nil}
use mathlib.Core.Option.{none, some}
use Prim.Native.Nat.{ℕ, ◌*◌, ◌%◌, ◌≤◌}
use native.Mathlib.Omega.{arith}
use lib.IntN.{ℤ, pos}
use lib.ListN.{length, take, drop, get_or, length-map, drop_of_length-le}
use lib.Seq.{take_all, take_at}
use Rattle.refusal.specs.Number.{number_of}
use Rattle.refusal.specs.declared.Refusal.{Refusal}
use Rattle.refusal.specs.declared.Refusal.TheVariants.{IllFormed, OutOfRange, Inexact}
use Rattle.refusal.proofs.Numbers.{not_success}
use Rattle.calendar.specs.declared.Calendar.TheVariants.{ProlepticGregorian}
use Rattle.instant.specs.Instant.{in_range}
use Rattle.axis_types.specs.Reading.{refusal_of, instant_of, offset_of, offset_refusal, Reading}
use Rattle.run_ends.specs.Each.{Each}
use Rattle.runs.specs.Run.{overlaid, check_answer, chosen, Check}
use Rattle.runs.specs.declared.RunAnswer.{RunAnswer}
use Rattle.grammar.specs.Grammar.{Derives}
use Rattle.datetime64_type.specs.Identifier.{identifier}
use Rattle.datetime64_type.specs.declared.Datetime64Type.{Datetime64Type}
use Rattle.datetime64_number.specs.Numbers.{write_number}
use Rattle.datetime64_number.proofs.Theorems as Numbers
use Rattle.datetime64_runs.specs.Records.{Bytes, IsRecord, record_number, record_of, cut, record_count, records_in}
use Rattle.datetime64_runs.specs.Runs.{type_named, read_record, records_check, read_answer, read_destination, instants_check, records_written, write_answer, write_room}
use Rattle.datetime64_runs.proofs.Cuts.{record_count_lem}
use Rattle.datetime64_runs.proofs.Putting.{written_length}
use Rattle.datetime64_runs.proofs.Back.{number_fits, record_is}
use Rattle.datetime64_runs.proofs.Theorems as Runs
use Rattle.uppinalo.specs.Runs.{no_run}
use Rattle.uppinalo.specs.Arrays.{all_of, RecordReadAs, WritesRecord, RecordsBack, ArraysBack}
use Rattle.uppinalo.proofs.Records.{reading, writing}

-- ---- one record

-- eight bytes are one record
count_one : (r : List ℕ) → IsRecord r → record_count r ≡ 1
count_one r h = omega (arith, h.eight)

one_record : (r : List ℕ) → IsRecord r → records_in r ≡ r ∷ []
unfolding cut
one_record r h = ap (λ (n : ℕ). cut n r) (count_one r h) ∙ ap (λ (q : List ℕ). q ∷ []) (take_all 8 r (omega (arith, h.eight)))

module _ (text : List ℕ) (t : Datetime64Type) (d : Derives identifier text t) where
  module _ (r : List ℕ) (h : IsRecord r) where
    whole : length r % 8 ≡ 0
    whole = omega (arith, h.eight)

    fits : record_count r ≤ 1
    fits = omega (arith, count_one r h)

    reads_as : (x : ℤ) → read_record t r ≡ Ok (x, true) → RecordReadAs text r x
    reads_as x e =
        let each : Each (λ (q : List ℕ). refusal_of (read_record t q) ≡ none) (records_in r) = subst (Each (λ (q : List ℕ). refusal_of (read_record t q) ≡ none)) (sym (one_record r h)) (ap refusal_of e, tt) in
        let all = (reading text t d r (pos 0 ∷ [])).read_all whole fits each in
        (all.0 ∙ ap all_of (count_one r h), all.1 ∙ ((λ i. map (λ (q : List ℕ). instant_of (read_record t q)) (one_record r h i) ++ drop (count_one r h i) (pos 0 ∷ [])) ∙ ap (λ (a : Reading). instant_of a ∷ []) e))

    reads_back : (x : ℤ) → RecordReadAs text r x → read_record t r ≡ Ok (x, true)
    reads_back x k = go (read_record t r) refl
      where
        go : (a : Reading) → read_record t r ≡ a → a ≡ Ok (x, true)
        go (Ok (y, exact)) e =
            let i = Numbers.read_exact t.unit (record_number t.order r) y exact (number_fits t.order r h) e in
            let at_y : Bool → Reading = λ b. Ok (y, b) in
            let q = (reads_as y (e ∙ ap at_y i)).1 in
            let j : y ≡ x = ap (λ (l : List ℤ). get_or l 0 (pos 0)) (sym q ∙ k.1) in
            λ n. Ok (j n, (i n))
        go (Err q) e = absurd (not_success q (ap (λ (a : RunAnswer). a.number) (sym ((reading text t d r (pos 0 ∷ [])).refused whole fits [] r [] q (one_record r h) tt (ap refusal_of e)) ∙ k.0)))

  module _ (room : List ℕ) (eight : length room ≡ 8) (x : ℤ) where
    alone : 8 * 1 ≤ length room
    alone = omega (arith, eight)

    refused_alone : (q : Refusal) → write_number t.unit x ≡ Err q → write_answer (type_named text) (x ∷ []) room ≡ no_run q
    refused_alone q e = (writing text t d (x ∷ []) room).refused alone [] x [] q refl tt (ap offset_refusal e)

    written_alone : (n : ℤ) → write_number t.unit x ≡ Ok n → (write_answer (type_named text) (x ∷ []) room ≡ all_of 1) × (write_room (type_named text) (x ∷ []) room ≡ record_of t.order n)
    unfolding records_written
    written_alone n e =
        let all = (writing text t d (x ∷ []) room).written_all alone (ap offset_refusal e, tt) in
        (all.0, all.1 ∙ ((λ i. (record_of t.order (offset_of (e i)) ++ []) ++ drop_of_length-le room {i = 8} (omega (arith, eight)) i) ∙ (append-nil (record_of t.order n ++ []) ∙ append-nil (record_of t.order n))))

    written_record : in_range ProlepticGregorian x ≡ true → WritesRecord text x (write_answer (type_named text) (x ∷ []) room) (write_room (type_named text) (x ∷ []) room)
    written_record i = go (write_number t.unit x) refl
      where
        go : (a : Result ℤ Refusal) → write_number t.unit x ≡ a → WritesRecord text x (write_answer (type_named text) (x ∷ []) room) (write_room (type_named text) (x ∷ []) room)
        go (Ok n) e =
            let w = written_alone n e in
            let s = record_is t.order n in
            let f : RecordReadAs text (record_of t.order n) x = reads_as (record_of t.order n) s x (Runs.written_reads t x n e) in
            let is = ap (λ (a : RunAnswer). a.number) w.0 in
            record {
              inexact = ((λ k. absurd (omega (arith, k, is))), λ none. absurd (none (record_of t.order n) s f));
              written = λ k. (w.0, subst IsRecord (sym w.1) s, subst (λ (r : List ℕ). RecordReadAs text r x) (sym w.1) f);
            }
        go (Err q) e =
            let j : q ≡ Inexact = Numbers.only_inexact t.unit x q i e in
            let is : (write_answer (type_named text) (x ∷ []) room).number ≡ 6 = ap (λ (a : RunAnswer). a.number) (refused_alone q e) ∙ ap number_of j in
            let g = ap offset_refusal e ∙ ap some j in
            record { inexact = ((λ k r h f. (Runs.inexact_writing t x i).0 g r h (reads_back r h x f)), λ k. is); written = λ k. absurd (k is) }

  pub records : (room : List ℕ) → length room ≡ 8 → RecordsBack text room
  records room eight = record { instant = written_record room eight; instant_past = λ x h. refused_alone room eight x OutOfRange ((Numbers.past_writing t.unit x).1 h) }

-- ---- whole arrays

-- a run whose number is 0 passed its check
all_passed : (k : Check) (n : ℕ) → (check_answer k n 0).number ≡ 0 → k ≡ Ok tt
all_passed (Ok tt) n h = refl
all_passed (Err e) n h = absurd (not_success e.refusal h)

module _ (t : Datetime64Type) where
  -- bytes that were read: their check, and the instants that stand in the destination
  was_read : (s : List ℕ) (ds : List ℤ) → (read_answer (Some t) s ds).number ≡ 0 → (records_check t s (length ds) ≡ Ok tt) × (take (record_count s) (read_destination (Some t) s ds) ≡ Runs.instants_in t s)
  was_read s ds h =
      let e = all_passed (records_check t s (length ds)) (record_count s) h in
      (e, ap (λ (q : Check). take (record_count s) (chosen q (overlaid (read_record t) (records_in s) ds) ds)) e ∙ Runs.read_over t s ds)

  written_as : (xs : List ℤ) (s room : List ℕ) → instants_check t xs (length room) ≡ Ok tt → records_written t xs ≡ s → (write_answer (Some t) xs room ≡ all_of (record_count s)) × (write_room (Some t) xs room ≡ s ++ drop (length s) room)
  written_as xs s room e f =
      let l : 8 * length xs ≡ length s = sym (written_length t xs) ∙ ap length f in
      let n : length xs ≡ record_count s = omega (arith, l) in
      (ap (λ (q : Check). check_answer q (length xs) 0) e ∙ ap all_of n, ap (λ (q : Check). chosen q (records_written t xs ++ drop (8 * length xs) room) room) e ∙ (λ i. f i ++ drop (l i) room))

  read_as : (s : List ℕ) (xs ds : List ℤ) → records_check t s (length ds) ≡ Ok tt → Runs.instants_in t s ≡ xs → (read_answer (Some t) s ds ≡ all_of (length xs)) × (read_destination (Some t) s ds ≡ xs ++ drop (length xs) ds)
  unfolding overlaid
  read_as s xs ds e f =
      let l : length (records_in s) ≡ length xs = sym (length-map (records_in s) (λ (r : List ℕ). instant_of (read_record t r))) ∙ ap length f in
      (ap (λ (q : Check). check_answer q (record_count s) 0) e ∙ ap all_of (sym (record_count_lem s) ∙ l), ap (λ (q : Check). chosen q (overlaid (read_record t) (records_in s) ds) ds) e ∙ (λ i. f i ++ drop (l i) ds))

  -- the bytes again
  again : (s : List ℕ) (ds : List ℤ) → Bytes s → (read_answer (Some t) s ds).number ≡ 0 → records_written t (take (record_count s) (read_destination (Some t) s ds)) ≡ s
  again s ds b h = let r = was_read s ds h in ap (records_written t) r.1 ∙ (Runs.read_then_written t s (length ds) (length s) b r.0 (omega arith)).1

written_again : (k : Option Datetime64Type) (s : List ℕ) (ds : List ℤ) → Bytes s → (read_answer k s ds).number ≡ 0 → (room : List ℕ) → length s ≤ length room
    → (write_answer k (take (record_count s) (read_destination k s ds)) room ≡ all_of (record_count s)) × (write_room k (take (record_count s) (read_destination k s ds)) room ≡ s ++ drop (length s) room)
written_again None s ds b h room l = absurd (not_success IllFormed h)
written_again (Some t) s ds b h room l =
    let r = was_read t s ds h in
    let w = Runs.read_then_written t s (length ds) (length room) b r.0 l in
    written_as t (take (record_count s) (read_destination (Some t) s ds)) s room (ap (λ (xs : List ℤ). instants_check t xs (length room)) r.1 ∙ w.0) (again t s ds b h)

read_again : (k : Option Datetime64Type) (xs : List ℤ) (room : List ℕ) → (write_answer k xs room).number ≡ 0 → (ds : List ℤ) → length xs ≤ length ds
    → (read_answer k (take (8 * length xs) (write_room k xs room)) ds ≡ all_of (length xs)) × (read_destination k (take (8 * length xs) (write_room k xs room)) ds ≡ xs ++ drop (length xs) ds)
read_again None xs room h ds l = absurd (not_success IllFormed h)
read_again (Some t) xs room h ds l =
    let e = all_passed (instants_check t xs (length room)) (length xs) h in
    let s : take (8 * length xs) (write_room (Some t) xs room) ≡ records_written t xs =
    ap (λ (q : Check). take (8 * length xs) (chosen q (records_written t xs ++ drop (8 * length xs) room) room)) e ∙ take_at (records_written t xs) (drop (8 * length xs) room) (8 * length xs) (written_length t xs) in
    let r = Runs.written_then_read t xs (length room) (length ds) e l in
    read_as t (take (8 * length xs) (write_room (Some t) xs room)) xs ds (ap (λ (q : List ℕ). records_check t q (length ds)) s ∙ r.0) (ap (Runs.instants_in t) s ∙ r.1)

one_array : (k : Option Datetime64Type) (s s' : List ℕ) (ds ds' : List ℤ) → Bytes s → Bytes s' → (read_answer k s ds).number ≡ 0 → (read_answer k s' ds').number ≡ 0 → take (record_count s) (read_destination k s ds) ≡ take (record_count s') (read_destination k s' ds') → s ≡ s'
one_array None s s' ds ds' b b' h h' e = absurd (not_success IllFormed h)
one_array (Some t) s s' ds ds' b b' h h' e = sym (again t s ds b h) ∙ (ap (records_written t) e ∙ again t s' ds' b' h')

pub back : (text : List ℕ) → ArraysBack text
back text = record { read_then_written = written_again (type_named text); written_then_read = read_again (type_named text); one_array = one_array (type_named text) }
