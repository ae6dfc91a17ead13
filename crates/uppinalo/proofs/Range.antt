-- The instants that are given, and the references of axes that are read, lie in the years -9999 to 9999.
use Rattle.std.specs.Prelude.{Option, Some, None, Result, Ok, Err}
use mathlib.Core.Path.{◌≡◌, refl, sym, ap, ◌∙◌, subst}
use mathlib.Core.Bool.{Bool, true}
use mathlib.Core.List.{List, [], ◌∷◌, map}
use Prim.Native.Nat.{ℕ}
use lib.IntN.{ℤ}
use lib.ListN.{length, take, drop, length-map}
use lib.Seq.{take_at}
use Rattle.refusal.proofs.Numbers.{not_success}
use Rattle.refusal.specs.declared.Refusal.TheVariants.{IllFormed, CutoverNotAllowed}
use Rattle.calendar.specs.declared.Calendar.{Calendar}
use Rattle.calendar.specs.declared.Calendar.TheVariants.{ProlepticGregorian}
use Rattle.instant.specs.Instant.{in_range}
use Rattle.axis_types.specs.Reading.{is_read, instant_of, Reading}
use Rattle.axis_types.specs.declared.Axis.{Axis}
use Rattle.axis_types.specs.declared.Offset.{Offset}
use Rattle.axis_types.proofs.Answers.{was_read}
use Rattle.axis.specs.Axis.{offset_back, axis_check, read_whole_on, read_double_on, read_offset}
use Rattle.axis.proofs.Demands as Axes
use Rattle.run_ends.specs.Each.{Each}
use Rattle.runs.specs.Run.{checked, rounded_count, overlaid, run_check, check_answer, run_answer, chosen, run_written, Check}
use Rattle.runs.proofs.Passes.{each_checked, passed}
use Rattle.calendar.specs.declared.Date.{Date}
use Rattle.cutover.specs.Calendars.{Carries}
use Rattle.named_text.specs.Texts.{named_calendar}
use Rattle.named_text.proofs.Laws.{text_outcome, named_carries}
use Rattle.date_text.specs.DateRule.{date_rule}
use Rattle.date_text.specs.declared.WrittenDate.{WrittenDate}
use Rattle.units_text.specs.UnitsRule.{units}
use Rattle.units_text.specs.declared.Units.{Units}
use Rattle.written_instant.specs.Instants.{written_instant}
use Rattle.written_instant.proofs.Order.{written_inside}
use Rattle.iso_text.specs.Iso.{read_iso}
use Rattle.axis_text.specs.Units.{axis_at, axis_of, read_units}
use Rattle.datetime64_type.specs.declared.Datetime64Type.{Datetime64Type}
use Rattle.datetime64_number.proofs.Theorems as Numbers
use Rattle.datetime64_runs.specs.Records.{record_number, record_count, records_in}
use Rattle.datetime64_runs.specs.Runs.{type_named, read_record, records_check, read_answer, read_destination}
use Rattle.datetime64_runs.proofs.Checks as Checks
use Rattle.datetime64_runs.proofs.Cuts.{record_count_lem}
use Rattle.codes.specs.Codes.{coded_axis}
use Rattle.uppinalo.specs.Given.{GivenAxis, axis_given, axis_codes}
use Rattle.uppinalo.specs.Offsets.{read_on}
use Rattle.uppinalo.specs.Runs.{run_on, destination_on}
use Rattle.uppinalo.specs.Texts.{of_instant, of_axis}
use Rattle.uppinalo.specs.Demands.{GoodReference, ReadsAt, GivenInYears}
use Rattle.uppinalo.specs.declared.texts.UppinaloReading.{UppinaloReading}
use Rattle.uppinalo.specs.declared.texts.UppinaloAxisAnswer.{UppinaloAxisAnswer}
use Rattle.uppinalo.proofs.SoFar.{end_outcome}
use Rattle.uppinalo.proofs.Boundary.{axis_is, read_is, reading_at_lem}
use Rattle.refusal.specs.declared.Refusal.{Refusal}

offset_inside : (x : GivenAxis) (t : ℤ) (exact : Bool) (o : Offset) → ReadsAt (read_on (coded_axis (axis_codes x)) (λ (a : Axis). read_offset a o) (λ (a : Axis). offset_back a o)) t exact → in_range x.calendar t ≡ true
offset_inside x t exact o h =
    Axes.read_inside (axis_given x) t exact o (reading_at_lem (read_offset (axis_given x) o) (offset_back (axis_given x) o) t exact (subst (λ (a : UppinaloReading). ReadsAt a t exact) (read_is x (λ (a : Axis). read_offset a o) (λ (a : Axis). offset_back a o)) h))

module _ {A : Type 0} (c : Calendar) (read : A → Reading) (inside : (y : A) (t : ℤ) (exact : Bool) → read y ≡ Ok (t, exact) → in_range c t ≡ true) where
  each_inside : (xs : List A) → Each (λ (y : A). is_read (read y) ≡ true) xs → Each (λ (t : ℤ). in_range c t ≡ true) (map (λ (y : A). instant_of (read y)) xs)
  each_inside [] h = tt
  each_inside (y ∷ xs) h = let r = was_read (read y) h.0 in (ap (λ (q : Reading). in_range c (instant_of q)) r.2 ∙ inside y r.0 r.1 r.2, each_inside xs h.1)

  overlaid_inside : (xs : List A) (ds : List ℤ) → checked read xs ≡ Ok tt → Each (λ (t : ℤ). in_range c t ≡ true) (take (length xs) (overlaid read xs ds))
  unfolding overlaid
  overlaid_inside xs ds e =
      let instants = map (λ (y : A). instant_of (read y)) xs in
      subst (Each (λ (t : ℤ). in_range c t ≡ true)) (sym (take_at instants (drop (length xs) ds) (length xs) (length-map xs (λ (y : A). instant_of (read y))))) (each_inside xs (each_checked _ xs e))

  destination_inside : (k : Result (Unit {0}) Refusal) (xs : List A) (ds : List ℤ) → (run_answer read k xs ds).number ≡ 0 → Each (λ (t : ℤ). in_range c t ≡ true) (take (length xs) (run_written read k xs ds))
  destination_inside k xs ds = go (run_check read k xs (length ds)) refl
    where
      go : (q : Check) → run_check read k xs (length ds) ≡ q → (check_answer q (length xs) (rounded_count read xs)).number ≡ 0 → Each (λ (t : ℤ). in_range c t ≡ true) (take (length xs) (chosen q (overlaid read xs ds) ds))
      go (Ok tt) e h = overlaid_inside xs ds (passed k (length xs) (length ds) (checked read xs) e).all_read
      go (Err at) e h = absurd (not_success at.refusal h)

run_inside : {A : Type 0} (x : GivenAxis) (read : Axis → A → Reading) → ((y : A) (t : ℤ) (exact : Bool) → read (axis_given x) y ≡ Ok (t, exact) → in_range x.calendar t ≡ true) → (xs : List A) (ds : List ℤ) → (run_on (coded_axis (axis_codes x)) read xs ds).number ≡ 0
    → Each (λ (t : ℤ). in_range x.calendar t ≡ true) (take (length xs) (destination_on (coded_axis (axis_codes x)) read xs ds))
run_inside x read inside xs ds =
    subst (λ (k : Result Axis Refusal). (run_on k read xs ds).number ≡ 0 → Each (λ (t : ℤ). in_range x.calendar t ≡ true) (take (length xs) (destination_on k read xs ds))) (sym (axis_is x))
    (destination_inside x.calendar (read (axis_given x)) inside (axis_check (axis_given x)) xs ds)

records_inside : (k : Option Datetime64Type) (s : List ℕ) (ds : List ℤ) → (read_answer k s ds).number ≡ 0 → Each (λ (t : ℤ). in_range ProlepticGregorian t ≡ true) (take (record_count s) (read_destination k s ds))
records_inside None s ds h = absurd (not_success IllFormed h)
records_inside (Some t) s ds h = go (records_check t s (length ds)) refl h
  where
    inside : (r : List ℕ) (x : ℤ) (exact : Bool) → read_record t r ≡ Ok (x, exact) → in_range ProlepticGregorian x ≡ true
    inside r x exact e = Numbers.read_inside t.unit (record_number t.order r) x exact e

    go : (q : Check) → records_check t s (length ds) ≡ q → (check_answer q (record_count s) 0).number ≡ 0 → Each (λ (x : ℤ). in_range ProlepticGregorian x ≡ true) (take (record_count s) (chosen q (overlaid (read_record t) (records_in s) ds) ds))
    go (Ok tt) e h =
        subst (λ (n : ℕ). Each (λ (x : ℤ). in_range ProlepticGregorian x ≡ true) (take n (overlaid (read_record t) (records_in s) ds))) (record_count_lem s)
        (overlaid_inside ProlepticGregorian (read_record t) inside (records_in s) ds (Checks.passed t s (length ds) e).all_read)
    go (Err at) e h = absurd (not_success at.refusal h)

iso_inside : (name : List ℕ) (cutover : Date) (text : List ℕ) (c : Calendar) (t : ℤ) (exact : Bool) → named_calendar name cutover ≡ Ok c → ReadsAt (of_instant (read_iso name cutover text)) t exact → in_range c t ≡ true
unfolding read_iso
iso_inside name cutover text c t exact n =
    text_outcome Err date_rule written_instant name cutover text (λ (a : Result ℤ Refusal). ReadsAt (of_instant a) t exact → in_range c t ≡ true)
    (λ r _ h. absurd (not_success r h.success))
    (λ h. absurd (not_success CutoverNotAllowed h.success))
    (λ b w e. go b w e (written_instant b w) refl)
  where
    go : (b : Calendar) (w : WrittenDate) → named_calendar name cutover ≡ Ok b → (a : Result ℤ Refusal) → written_instant b w ≡ a → ReadsAt (of_instant a) t exact → in_range c t ≡ true
    go b w e (Ok u) f h =
        let p = sym e ∙ n in
        let q : b ≡ c = cc in
        (λ i. in_range (sym q i) (sym h.instant i)) ∙ written_inside b w u f
    go b w e (Err r) f h = absurd (not_success r h.success)

-- an axis that is given is the codes of one whose reference is good, with the cutover that was given
abbrev GoodAxis : Date → UppinaloAxisAnswer → Type 0
GoodAxis cutover a = a.number ≡ 0 → (x : GivenAxis) × (a.axis ≡ axis_codes x) × (x.cutover ≡ cutover) × GoodReference x

units_inside : (name : List ℕ) (cutover : Date) (text : List ℕ) → GoodAxis cutover (of_axis (read_units name cutover text) cutover)
unfolding read_units
units_inside name cutover text =
    text_outcome Err units axis_of name cutover text (λ (a : Result Axis Refusal). GoodAxis cutover (of_axis a cutover)) (λ r _ h. absurd (not_success r h)) (λ h. absurd (not_success CutoverNotAllowed h)) (λ c u e. go c u (named_carries name cutover c e) (written_instant c u.reference) refl)
  where
    go : (c : Calendar) (u : Units) → Carries c cutover → (a : Result ℤ Refusal) → written_instant c u.reference ≡ a → GoodAxis cutover (of_axis (axis_at c u a) cutover)
    go c u k (Ok t) f h = (record { calendar = c; period = u.period; mode = u.mode; reference = t; cutover = cutover; carries = k }, refl, refl, written_inside c u.reference t f)
    go c u k (Err r) f h = absurd (not_success r h)

pub in_years_lem : GivenInYears
unfolding read_offset
in_years_lem =
    record {
      read_whole = λ x n t exact. offset_inside x t exact (Offset.Whole n);
      read_double_lem = λ x y t exact. offset_inside x t exact (Offset.Double y);
      read_wholes = λ x. run_inside x read_whole_on (λ n t exact. Axes.read_inside (axis_given x) t exact (Offset.Whole n));
      read_doubles = λ x. run_inside x read_double_on (λ y t exact. Axes.read_inside (axis_given x) t exact (Offset.Double y));
      read_datetime64 = λ text. records_inside (type_named text);
      read_iso_lem = iso_inside;
      read_units_lem = units_inside;
      end_units = λ s name cutover. end_outcome s name cutover (GoodAxis cutover) (λ r h. absurd (not_success r h)) (units_inside name cutover);
    }
