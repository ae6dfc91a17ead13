-- How far a day was moved back, of the calls: by the theorems of crate `axis`, proofs/Back.antt.
use Rattle.std.specs.Prelude.{Result, Ok, Err}
use mathlib.Core.Path.{◌≡◌, refl, sym, ap, ◌∙◌, subst}
use mathlib.Core.Bool.{true}
use Prim.Native.Nat.{ℕ}
use lib.IntN.{ℤ}
use Rattle.refusal.proofs.Numbers.{not_success}
use Rattle.calendar.specs.Calendar.{date_of}
use Rattle.calendar.specs.declared.Calendar.{Calendar}
use Rattle.calendar.specs.Cutover.{first_cutover, cutover_days, allowed, most_back}
use Rattle.calendar.specs.declared.Date.{Date}
use Rattle.cutover.specs.Calendars.{Carries}
use Rattle.cutover.proofs.Theorems.{first_carried, allowed_carried, cutover_kept}
use Rattle.instant.specs.Instant.{day_of, time_of, fields_at, fields_answer, date_in}
use Rattle.instant.specs.declared.Fields.{Fields}
use Rattle.instant.proofs.Theorems as Instants
use Rattle.axis_types.specs.declared.Axis.{Axis}
use Rattle.axis_types.specs.declared.Mode.{Mode}
use Rattle.axis_types.specs.declared.Offset.{Offset}
use Rattle.axis.specs.Axis.{read_whole_on, whole_back, read_double_on, double_back, read_offset, step_on}
use Rattle.axis.specs.MovedBack.{MonthsOrYears, CutoverMonth, MovedBack}
use Rattle.axis.specs.declared.Step.{Step}
use Rattle.axis.proofs.Back as Back
use Rattle.axis.proofs.Demands as Axes
use Rattle.iso_text.specs.Iso.{read_iso}
use Rattle.uppinalo.specs.Given.{GivenAxis, axis_given, calendar_on, axis_codes}
use Rattle.uppinalo.specs.Days.{of_fields}
use Rattle.uppinalo.specs.Offsets.{of_reading, uppinalo_read_whole, uppinalo_read_double}
use Rattle.uppinalo.specs.Texts.{of_instant}
use Rattle.uppinalo.specs.DaysBack.{FieldsOn, WholeRead, NoneBack, DaysBack}
use Rattle.uppinalo.specs.declared.texts.UppinaloReading.{UppinaloReading}
use Rattle.uppinalo.proofs.Boundary.{fields_is, fields_shown, whole_is, double_is}
use Rattle.axis_types.specs.Reading.{Reading}
use Rattle.refusal.specs.declared.Refusal.{Refusal}

-- ---- by months and years

-- the date of an instant is that of its fields
date_shown : (x : GivenAxis) (t : ℤ) (f : Fields) → FieldsOn x t f → date_of x.calendar (day_of t) ≡ date_in f
date_shown x t f h = ap date_in (Instants.shown x.calendar t f (fields_shown (fields_answer x.calendar t) f (sym (fields_is (calendar_on x) t) ∙ h))).is

module _ (x : GivenAxis) (e : x.mode ≡ Mode.Calendar) (p : MonthsOrYears x.period) (n : ℤ) (f g : Fields) (asked : FieldsOn x x.reference f) where
  abbrev Shows : UppinaloReading → Type 0
  Shows a = a.number ≡ 0 → FieldsOn x a.instant g → MovedBack x.calendar (date_in f) (date_in g) a.days_back

  by_reading : (r : Reading) → read_whole_on (axis_given x) n ≡ r → Shows (of_reading r (whole_back (axis_given x) n))
  by_reading (Ok (t, exact)) h k given =
      subst (λ (d : Date). MovedBack x.calendar d (date_in g) (whole_back (axis_given x) n)) (date_shown x x.reference f asked)
      (subst (λ (d : Date). MovedBack x.calendar (date_of x.calendar (day_of x.reference)) d (whole_back (axis_given x) n)) (date_shown x t g given) (Back.moved_back (axis_given x) e p n t exact h))
  by_reading (Err r) h k given = absurd (not_success r k)

  moved : WholeRead x n g → MovedBack x.calendar (date_in f) (date_in g) (uppinalo_read_whole (axis_codes x) n).days_back
  moved w = subst Shows (sym (whole_is x n refl)) (by_reading (read_whole_on (axis_given x) n) refl) w.success w.given

-- ---- readings that reach the bounds

module _ (x : GivenAxis) (n t : ℤ) (h : read_whole_on (axis_given x) n ≡ Ok (t, true)) where
  abbrev fields : Fields
  fields = fields_at (date_of x.calendar (day_of t)) (time_of t)

  is_read : WholeRead x n fields
  unfolding read_offset
  is_read =
      let a = whole_is x n h in
      let i : (uppinalo_read_whole (axis_codes x) n).instant ≡ t = ap (λ (b : UppinaloReading). b.instant) a in
      record {
        success = ap (λ (b : UppinaloReading). b.number) a;
        given = subst (λ (u : ℤ). FieldsOn x u fields) (sym i) (fields_is (calendar_on x) t ∙ ap of_fields (Instants.fields_in_lem x.calendar t (Axes.read_inside (axis_given x) t true (Offset.Whole n) h)));
      }

  days_are : (k : ℕ) → whole_back (axis_given x) n ≡ k → (uppinalo_read_whole (axis_codes x) n).days_back ≡ k
  days_are k e = ap (λ (b : UppinaloReading). b.days_back) (whole_is x n h) ∙ e

-- an axis of `standard`, given with its cutover
given_with : (a : Axis) (cutover : Date) → Carries a.calendar cutover → GivenAxis
given_with a cutover k = record { calendar = a.calendar; period = a.period; mode = a.mode; reference = a.reference; cutover = cutover; carries = k }

three : (x : GivenAxis) × (n : ℤ) × (g : Fields) × WholeRead x n g × ((uppinalo_read_whole (axis_codes x) n).days_back ≡ 3)
unfolding given_with
three =
    let (a, n, t, c, h, e) = Back.three_reached in
    let x = given_with a first_cutover (subst (λ (b : Calendar). Carries b first_cutover) (sym c) first_carried) in
    (x, n, fields x n t h, is_read x n t h, days_are x n t h 3 e)

most : (cutover : Date) → allowed cutover ≡ true
    → (x : GivenAxis) × (n : ℤ) × (g : Fields) × (x.cutover ≡ cutover) × CutoverMonth x.calendar (cutover_days cutover) (date_in g) × WholeRead x n g × ((uppinalo_read_whole (axis_codes x) n).days_back ≡ most_back (cutover_days cutover))
unfolding given_with
most cutover i =
    let k = cutover_days cutover in
    let (a, n, t, c, h, m, e) = Back.most_reached k in
    let carried = allowed_carried cutover i in
    let x = given_with a cutover (subst (λ (b : Calendar). Carries b cutover) (sym c) carried) in
    (x, n, fields x n t h, refl, m, is_read x n t h, days_are x n t h (most_back k) (e ∙ ap most_back (cutover_kept k cutover carried).used))

-- ---- where no date is moved

no_days : (a : UppinaloReading) (r : Reading) (k : ℕ) → a ≡ of_reading r k → k ≡ 0 → a.days_back ≡ 0
no_days a r k h e = ap (λ (b : UppinaloReading). b.days_back) h ∙ go r
  where
    go : (r : Reading) → (of_reading r k).days_back ≡ 0
    go (Ok (t, exact)) = e
    go (Err q) = refl

none_back : (x : GivenAxis) → step_on (axis_given x) ≡ Step.Time → NoneBack x
none_back x e =
    record {
      whole = λ n. no_days (uppinalo_read_whole (axis_codes x) n) (read_whole_on (axis_given x) n) (whole_back (axis_given x) n) (whole_is x n refl) (Back.whole_none (axis_given x) e n);
      double = λ y. no_days (uppinalo_read_double (axis_codes x) y) (read_double_on (axis_given x) y) (double_back (axis_given x) y) (double_is x y refl) (Back.double_none (axis_given x) e y);
    }

of_text : (a : Result ℤ Refusal) → (of_instant a).days_back ≡ 0
of_text (Ok t) = refl
of_text (Err r) = refl

pub days_back_lem : DaysBack
days_back_lem =
    record {
      moved = moved;
      whole_double = λ x e y n f. double_is x y (Axes.whole_double (axis_given x) y n e f) ∙ (ap (of_reading (read_whole_on (axis_given x) n)) (Back.double_back_lem (axis_given x) y n e f) ∙ sym (whole_is x n refl));
      three_reached = three;
      most_reached = most;
      fixed = λ x e. none_back x (Back.fixed_time (axis_given x) e);
      shorter = λ x h. none_back x (Back.shorter_time (axis_given x) h);
      iso = λ name cutover text. of_text (read_iso name cutover text);
    }
