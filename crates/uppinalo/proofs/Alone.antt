-- Runs, offset by offset: a run answers what the call for one offset answers. And an axis whose reference lies past the years.
use Rattle.std.specs.Prelude.{Result, Ok, Err}
use mathlib.Core.Path.{◌≡◌, refl, sym, ap, ◌∙◌, subst}
use mathlib.Core.Bool.{Bool, true, false, cond, false≢true}
use mathlib.Core.List.{List, [], ◌∷◌, ◌++◌, map}
use Prim.Native.Nat.{ℕ, ◌+◌, ◌≤◌}
use lib.Dec.{ltb}
use lib.IntN.{ℤ}
use lib.ListN.{length, drop}
use borrow.Author.Tests.{lt-ltb, le-ltb}
use Rattle.refusal.specs.declared.Refusal.{Refusal}
use Rattle.refusal.specs.declared.Refusal.TheVariants.{OutOfRange, NoRoom}
use Rattle.instant.specs.Instant.{in_range}
use Rattle.axis_types.specs.Reading.{refusal_of, is_read, instant_of, Reading}
use Rattle.axis_types.specs.declared.Axis.{Axis}
use Rattle.axis.specs.Axis.{axis_check, on_good, read_whole_on, whole_back, read_double_on, double_back, write_instant_on, write_fields_on}
use Rattle.axis.proofs.Laws.{good_in, past_out}
use Rattle.axis.proofs.Demands as Axes
use Rattle.run_ends.specs.Each.{Each}
use Rattle.runs.specs.Run.{checked, rounded_count, overlaid, mark_of, checked_first, run_check, check_answer, run_answer, chosen, run_written, Check, refused_at}
use Rattle.runs.proofs.Passes.{each_read, first_refused_lem}
use Rattle.codes.specs.Codes.{coded_axis}
use Rattle.uppinalo.specs.Given.{GivenAxis, axis_given, axis_codes}
use Rattle.uppinalo.specs.Offsets.{of_reading, read_on, of_offset}
use Rattle.uppinalo.specs.Runs.{no_run, run_on, destination_on}
use Rattle.uppinalo.specs.Demands.{inexact_count, IsRefused, RunByOffsets, RunsByOffsets, PastReference, GoodReference}
use Rattle.uppinalo.specs.declared.texts.UppinaloReading.{UppinaloReading}
use Rattle.uppinalo.proofs.Boundary.{axis_is, whole_is, double_is, write_is, reading_read}

-- ---- runs

module _ {A : Type 0} (read : A → Reading) (back : A → ℕ) where
  abbrev alone : A → UppinaloReading
  alone y = of_reading (read y) (back y)

  each_number : (xs : List A) → Each (λ (y : A). (alone y).number ≡ 0) xs → Each (λ (y : A). is_read (read y) ≡ true) xs
  each_number [] h = tt
  each_number (y ∷ xs) h = (reading_read (read y) (back y) h.0, each_number xs h.1)

  mark_is : (r : Reading) (k : ℕ) → is_read r ≡ true → mark_of r ≡ cond (of_reading r k).exact 0 1
  mark_is (Ok (t, exact)) k h = refl
  mark_is (Err r) k h = absurd (false≢true h)

  count_is : (xs : List A) → Each (λ (y : A). is_read (read y) ≡ true) xs → rounded_count read xs ≡ inexact_count alone xs
  unfolding rounded_count
  count_is [] h = refl
  count_is (y ∷ xs) h = λ i. mark_is (read y) (back y) h.0 i + count_is xs h.1 i

  instant_is : (r : Reading) (k : ℕ) → instant_of r ≡ (of_reading r k).instant
  instant_is (Ok (t, exact)) k = refl
  instant_is (Err r) k = refl

  -- on a good axis
  module _ (check : Result (Unit {0}) Refusal) (good : (Ok tt) ≡ check) (xs : List A) (ds : List ℤ) where
    abbrev all : Check
    all = run_check read check xs (length ds)

    by_room : {b : Bool} → ltb (length ds) (length xs) ≡ b → all ≡ cond b (refused_at NoRoom 0) (checked read xs)
    unfolding checked_first
    by_room e = λ i. on_good (sym good i) (λ (r : Refusal). refused_at r 0) (cond (e i) (refused_at NoRoom 0) (checked read xs))

    answer_is : (k : Check) → all ≡ k → run_answer read check xs ds ≡ check_answer k (length xs) (rounded_count read xs)
    answer_is k e = ap (λ (q : Check). check_answer q (length xs) (rounded_count read xs)) e

    run_refused : length xs ≤ length ds → (ys : List A) (y : A) (zs : List A) → xs ≡ ys ++ y ∷ zs → Each (λ (z : A). (alone z).number ≡ 0) ys → (r : Reading) → read y ≡ r → IsRefused (of_reading r (back y)).number
        → run_answer read check xs ds ≡ record { number = (of_reading r (back y)).number; place = length ys; length = 0; rounded = 0 }
    run_refused l ys y zs e h (Ok (t, exact)) f k = absurd (k refl)
    run_refused l ys y zs e h (Err r) f k =
        answer_is (refused_at r (length ys)) (by_room (le-ltb (length ds) (length xs) l) ∙ (ap (checked read) e ∙ sym (first_refused_lem _ ys y zs r (each_number ys h) (ap refusal_of f))))

    run : RunByOffsets alone xs ds (run_answer read check xs ds) (run_written read check xs ds)
    unfolding overlaid
    run =
        record {
          short = λ l. answer_is (refused_at NoRoom 0) (by_room (lt-ltb (length ds) (length xs) l));
          refused = λ l ys y zs e h k. run_refused l ys y zs e h (read y) refl k;
          read_all = λ l h.
              let each = each_number xs h in
              let k : all ≡ Ok tt = by_room (le-ltb (length ds) (length xs) l) ∙ sym (each_read _ xs each) in (
                answer_is (Ok tt) k ∙ (λ i. record { number = 0; place = 0; length = length xs; rounded = count_is xs each i }),
                ap (λ (q : Check). chosen q (overlaid read xs ds) ds) k ∙ (λ i. map (λ (y : A). instant_is (read y) (back y) i) xs ++ drop (length xs) ds),
              );
        }

module _ (x : GivenAxis) (g : GoodReference x) where
  run_of : {A : Type 0} (read : Axis → A → Reading) (back : Axis → A → ℕ) (xs : List A) (ds : List ℤ) → RunByOffsets (λ (y : A). read_on (coded_axis (axis_codes x)) (λ (a : Axis). read a y) (λ (a : Axis). back a y)) xs ds (run_on (coded_axis (axis_codes x)) read xs ds) (destination_on (coded_axis (axis_codes x)) read xs ds)
  run_of {A} read back xs ds =
      subst (λ (k : Result Axis Refusal). RunByOffsets (λ (y : A). read_on k (λ (a : Axis). read a y) (λ (a : Axis). back a y)) xs ds (run_on k read xs ds) (destination_on k read xs ds)) (sym (axis_is x))
      (run (read (axis_given x)) (back (axis_given x)) (axis_check (axis_given x)) (good_in (axis_given x) g) xs ds)

  pub runs : RunsByOffsets x
  runs = record { wholes = run_of read_whole_on whole_back; doubles = run_of read_double_on double_back }

-- ---- a reference past the years

module _ (x : GivenAxis) (h : in_range x.calendar x.reference ≡ false) where
  run_past : {A : Type 0} (read : Axis → A → Reading) (xs : List A) (ds : List ℤ) → run_on (coded_axis (axis_codes x)) read xs ds ≡ no_run OutOfRange
  unfolding checked_first
  run_past read xs ds =
      ap (λ (k : Result Axis Refusal). run_on k read xs ds) (axis_is x)
      ∙ (λ i. check_answer (on_good (sym (past_out (axis_given x) h) i) (λ (r : Refusal). refused_at r 0) (cond (ltb (length ds) (length xs)) (refused_at NoRoom 0) (checked (read (axis_given x)) xs))) (length xs) (rounded_count (read (axis_given x)) xs))

  pub past_reference : PastReference x
  past_reference =
      let r = Axes.refused_axis (axis_given x) OutOfRange (past_out (axis_given x) h) in
      record {
        read_whole = λ n. whole_is x n (r.0 n);
        read_double_lem = λ y. double_is x y (r.1 y);
        write_instant_lem = λ t. write_is x (λ (a : Axis). write_instant_on a t) ∙ ap of_offset (r.2 t);
        write_fields = λ f. write_is x (λ (a : Axis). write_fields_on a f) ∙ ap of_offset (r.3 f);
        read_wholes = run_past read_whole_on;
        read_doubles = run_past read_double_on;
      }
