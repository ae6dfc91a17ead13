-- The pass that writes records, one more at a time.
use Rattle.std.specs.Prelude.{Ok}
use mathlib.Core.Path.{◌≡◌, refl, sym, ap, ◌∙◌}
use mathlib.Core.List.{List, [], ◌∷◌, ◌++◌, append_assoc, append-nil}
use Prim.Native.Nat.{ℕ, zero, suc, ◌+◌, ◌*◌, ◌≤◌, ◌<◌}
use native.Mathlib.Nat.{not-suc-le-zero, le_of_suc-le-suc}
use native.Mathlib.Numerals.{add-one}
use native.Mathlib.Omega.{arith}
use lib.IntN.{ℤ, pos}
use lib.ListN.{length, take, drop, get_or, length-append}
use lib.Seq.{take_all, take_at, drop-append-add, length-take-le, drop-drop}
use Rattle.axis_types.specs.Reading.{offset_of}
use Rattle.runs.specs.Run.{first_refused}
use Rattle.datetime64_type.specs.declared.Datetime64Type.{Datetime64Type}
use Rattle.datetime64_number.specs.Numbers.{write_number}
use Rattle.datetime64_runs.specs.Records.{record_of}
use Rattle.datetime64_runs.specs.Runs.{instant_refusal, records_written}
use Rattle.datetime64_runs.proofs.Bytes.{record_length}

module _ (type : Datetime64Type) where
  -- the record of an instant
  abbrev pub written : ℤ → List ℕ
  written t = record_of type.order (offset_of (write_number type.unit t))

  pub written_length : (ts : List ℤ) → length (records_written type ts) ≡ 8 * length ts
  unfolding records_written
  written_length [] = refl
  written_length (t ∷ ts) = length-append (written t) (records_written type ts) ∙ omega (arith, record_length type.order (offset_of (write_number type.unit t)), written_length ts)

  written_on : (ts : List ℤ) (i : ℕ) → i < length ts → records_written type (take (suc i) ts) ≡ records_written type (take i ts) ++ written (get_or ts i (pos 0))
  unfolding records_written
  written_on [] i h = absurd (not-suc-le-zero h)
  written_on (t ∷ ts) zero h = append-nil (written t)
  written_on (t ∷ ts) (suc i) h = ap (λ (s : List ℕ). written t ++ s) (written_on ts i (le_of_suc-le-suc h)) ∙ sym (append_assoc (written t) (records_written type (take i ts)) (written (get_or ts i (pos 0))))

-- the first i records stand in now, which was room
pub record Putting (type : Datetime64Type) (ts : List ℤ) (room now : List ℕ) (i : ℕ) : Type 0 where
  pub all_written : first_refused (instant_refusal type) ts ≡ Ok tt
  pub within : i ≤ length ts
  pub fits : 8 * length ts ≤ length room
  pub same_room : length now ≡ length room
  pub holds : now ≡ records_written type (take i ts) ++ drop (8 * i) room

module _ {type : Datetime64Type} {ts : List ℤ} {room : List ℕ} where
  pub putting_starts : 8 * length ts ≤ length room → first_refused (instant_refusal type) ts ≡ Ok tt → Putting type ts room room 0
  unfolding records_written
  putting_starts h e = record { all_written = e; within = omega arith; fits = h; same_room = refl; holds = refl }

  module _ {now : List ℕ} {i : ℕ} (p : Putting type ts room now i) (h : i < length ts) where
    pub record_fits : 8 * i + 8 ≤ length now
    record_fits = omega (arith, p.same_room, p.fits)

    abbrev before : List ℕ
    before = records_written type (take i ts)

    before_length : length before ≡ 8 * i
    before_length = written_length type (take i ts) ∙ ap (λ (n : ℕ). 8 * n) (length-take-le i ts (omega arith))

    pub putting_on : (next : List ℕ) (n : ℤ) → n ≡ offset_of (write_number type.unit (get_or ts i (pos 0))) → next ≡ take (8 * i) now ++ (record_of type.order n ++ drop (8 * i + 8) now) → length next ≡ length now → Putting type ts room next (i + 1)
    putting_on next n e f l =
        let front : take (8 * i) now ≡ before = ap (take (8 * i)) p.holds ∙ take_at before (drop (8 * i) room) (8 * i) before_length in
        let along : 8 * i + 8 ≡ 8 * (i + 1) = omega arith in
        let back : drop (8 * i + 8) now ≡ drop (8 * (i + 1)) room =
        ap (drop (8 * i + 8)) p.holds
        ∙ (ap (λ (k : ℕ). drop (k + 8) (before ++ drop (8 * i) room)) (sym before_length)
        ∙ (drop-append-add before (drop (8 * i) room) 8 ∙ (drop-drop 8 (8 * i) room ∙ ap (λ (k : ℕ). drop k room) along))) in
        let w = record_of type.order n in
        let more : before ++ w ≡ records_written type (take (i + 1) ts) =
        ap (λ (z : ℤ). before ++ record_of type.order z) e ∙ (sym (written_on type ts i h) ∙ ap (λ (k : ℕ). records_written type (take k ts)) (sym (add-one i))) in
        record {
          all_written = p.all_written;
          within = omega arith;
          fits = p.fits;
          same_room = l ∙ p.same_room;
          holds = f ∙ ((λ j. front j ++ (w ++ back j)) ∙ (sym (append_assoc before w (drop (8 * (i + 1)) room)) ∙ ap (λ (s : List ℕ). s ++ drop (8 * (i + 1)) room) more));
        }

  pub putting_ends : {now : List ℕ} {i : ℕ} → Putting type ts room now i → length ts ≤ i → now ≡ records_written type ts ++ drop (8 * length ts) room
  putting_ends {now} {i} p h =
      let e : i ≡ length ts = omega (arith, p.within) in
      p.holds ∙ (λ j. records_written type (take_all i ts h j) ++ drop (8 * e j) room)
