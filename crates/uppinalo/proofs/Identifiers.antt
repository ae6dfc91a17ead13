-- An identifier is refused with 3, before all else, exactly where the grammar does not derive it.
use Rattle.std.specs.Prelude.{Result, Ok, Err}
use mathlib.Core.Path.{◌≡◌, refl, sym, ap, ◌∙◌}
use mathlib.Core.Bool.{Bool, true, false, cond}
use mathlib.Core.List.{List, [], ◌∷◌}
use mathlib.Core.Option.{Option, none, some}
use Prim.Native.Nat.{ℕ, ◌*◌, ◌%◌}
use native.Mathlib.Omega.{arith}
use lib.Dec.{eqb, ltb}
use lib.IntN.{ℤ}
use lib.ListN.{length}
use mir.Syntax.{w64}
use mir.Val.{SFits}
use Rattle.refusal.specs.Number.{number_of}
use Rattle.refusal.specs.declared.Refusal.{Refusal}
use Rattle.refusal.specs.declared.Refusal.TheVariants.{OutOfRange, NoRoom, PartRecord, NotATime}
use Rattle.calendar.specs.declared.Calendar.TheVariants.{ProlepticGregorian}
use Rattle.instant.specs.Instant.{in_range}
use Rattle.axis_types.specs.Reading.{refusal_of, offset_refusal, Reading}
use Rattle.run_ends.specs.Each.{Each}
use Rattle.runs.specs.Run.{after, first_refused, checked, check_answer, Check, refused_at}
use Rattle.datetime64_type.specs.Units.{unit_row_of}
use Rattle.datetime64_type.specs.declared.Datetime64Type.{Datetime64Type}
use Rattle.datetime64_type.specs.declared.UnitRow.{UnitRow}
use Rattle.std.specs.Prelude.{Option as Answer}
use Rattle.datetime64_type.proofs.Texts.{type_is, type_ill_formed}
use Rattle.datetime64_number.specs.Numbers.{is_not_a_time, write_number}
use Rattle.datetime64_number.proofs.ByRow.{Unread}
use Rattle.datetime64_number.proofs.Theorems as Numbers
use Rattle.datetime64_runs.specs.Records.{Bytes, IsRecord, record_number, record_count, records_in}
use Rattle.datetime64_runs.specs.Runs.{read_record, records_check, read_answer, instant_refusal, instants_check, write_answer}
use Rattle.datetime64_runs.proofs.Back.{number_fits}
use Rattle.datetime64_runs.proofs.Theorems.{records_are}
use Rattle.uppinalo.specs.Arrays.{IdentifiersByGrammar}

-- ---- no record and no instant is refused with 3

abbrev NotThree : Option Refusal → Type 0
NotThree o = (r : Refusal) → o ≡ some r → number_of r ≡ 3 → ⊥

first_not_3 : {A : Type 0} (refusal : A → Option Refusal) (xs : List A) (n : ℕ) → Each (λ (x : A). NotThree (refusal x)) xs → (check_answer (first_refused refusal xs) n 0).number ≡ 3 → ⊥
unfolding first_refused
first_not_3 refusal [] n h e = omega (arith, e)
first_not_3 refusal (x ∷ xs) n h e = go (refusal x) refl (first_refused refusal xs) (first_not_3 refusal xs n h.1) e
  where
    go : (o : Option Refusal) → refusal x ≡ o → (k : Check) → ((check_answer k n 0).number ≡ 3 → ⊥) → (check_answer (after o k) n 0).number ≡ 3 → ⊥
    go (some r) f k g e = h.0 r f e
    go none f (Ok tt) g e = g e
    go none f (Err at) g e = g e

was_refused : (a : Reading) (r : Refusal) → refusal_of a ≡ some r → a ≡ Err r
was_refused (Ok (x, exact)) r e = absurd (let k : ◌≡◌ {A = ℕ} 0 1 = cc in omega arith)
was_refused (Err q) r e = let k : q ≡ r = cc in ap Err k

was_unwritten : (a : Result ℤ Refusal) (r : Refusal) → offset_refusal a ≡ some r → a ≡ Err r
was_unwritten (Ok n) r e = absurd (let k : ◌≡◌ {A = ℕ} 0 1 = cc in omega arith)
was_unwritten (Err q) r e = let k : q ≡ r = cc in ap Err k

-- the reasons of a number that holds a time
unread_not_3 : (row : UnitRow) (n : ℤ) (r : Refusal) → Unread row n r → number_of r ≡ 3 → ⊥
unread_not_3 (UnitRow.Steps part) n r u e = omega (arith, e, ap number_of u.0)
unread_not_3 (UnitRow.Multiple k) n r u e = omega (arith, e, ap number_of u.0)
unread_not_3 (UnitRow.Fraction k) n r u e = omega (arith, e, ap number_of u.0)

module _ (t : Datetime64Type) where
  record_not_3 : (r : List ℕ) → IsRecord r → NotThree (refusal_of (read_record t r))
  record_not_3 r h q e k = go (is_not_a_time (record_number t.order r)) refl
    where
      fits : SFits w64 (record_number t.order r)
      fits = number_fits t.order r h

      refused : read_record t r ≡ Err q
      refused = was_refused (read_record t r) q e

      go : (b : Bool) → is_not_a_time (record_number t.order r) ≡ b → ⊥
      go true f = let g = (Numbers.not_a_time_read t.unit (record_number t.order r) fits).1 f in let m : q ≡ NotATime = cc in omega (arith, k, ap number_of m)
      go false f = unread_not_3 (unit_row_of t.unit) (record_number t.order r) q ((Numbers.unread t.unit (record_number t.order r) q fits f).0 refused) k

  records_not_3 : (s : List ℕ) → Bytes s → (room : ℕ) → (check_answer (records_check t s room) (record_count s) 0).number ≡ 3 → ⊥
  unfolding records_check
  records_not_3 s h room = go (eqb (length s % 8) 0) (ltb room (record_count s))
    where
      each : (rs : List (List ℕ)) → Each IsRecord rs → Each (λ (r : List ℕ). NotThree (refusal_of (read_record t r))) rs
      each [] h = tt
      each (r ∷ rs) h = (record_not_3 r h.0, each rs h.1)

      go : (a b : Bool) → (check_answer (cond a (cond b (refused_at NoRoom 0) (checked (read_record t) (records_in s))) (refused_at PartRecord 0)) (record_count s) 0).number ≡ 3 → ⊥
      go false b e = omega (arith, e)
      go true true e = omega (arith, e)
      go true false e = first_not_3 _ (records_in s) (record_count s) (each (records_in s) (records_are (record_count s) s (omega arith) h)) e

  instant_not_3 : (x : ℤ) → NotThree (instant_refusal t x)
  instant_not_3 x r e k = go (in_range ProlepticGregorian x) refl
    where
      refused : write_number t.unit x ≡ Err r
      refused = was_unwritten (write_number t.unit x) r e

      go : (b : Bool) → in_range ProlepticGregorian x ≡ b → ⊥
      go true i = omega (arith, k, ap number_of (Numbers.only_inexact t.unit x r i refused))
      go false i = let g = (Numbers.past_writing t.unit x).1 i in let m : r ≡ OutOfRange = cc in omega (arith, k, ap number_of m)

  instants_not_3 : (xs : List ℤ) (room : ℕ) → (check_answer (instants_check t xs room) (length xs) 0).number ≡ 3 → ⊥
  unfolding instants_check
  instants_not_3 xs room = go (ltb room (8 * length xs))
    where
      each : (ys : List ℤ) → Each (λ (x : ℤ). NotThree (instant_refusal t x)) ys
      each [] = tt
      each (y ∷ ys) = (instant_not_3 y, each ys)

      go : (b : Bool) → (check_answer (cond b (refused_at NoRoom 0) (first_refused (instant_refusal t) xs)) (length xs) 0).number ≡ 3 → ⊥
      go true e = omega (arith, e)
      go false e = first_not_3 (instant_refusal t) xs (length xs) (each xs) e

-- ---- by the identifier

module _ (text : List ℕ) where
  pub identifiers : IdentifiersByGrammar text
  identifiers =
      let ill-formed = (type_ill_formed text).1 in
      record {
        reading = λ h s ds. ap (λ (k : Answer Datetime64Type). read_answer k s ds) (ill-formed h);
        writing = λ h xs room. ap (λ (k : Answer Datetime64Type). write_answer k xs room) (ill-formed h);
        reading_only = λ s ds b e t d. records_not_3 t s b (length ds) (ap (λ (k : Answer Datetime64Type). (read_answer k s ds).number) (sym ((type_is text t).1 d)) ∙ e);
        writing_only = λ xs room e t d. instants_not_3 t xs (length room) (ap (λ (k : Answer Datetime64Type). (write_answer k xs room).number) (sym ((type_is text t).1 d)) ∙ e);
      }
