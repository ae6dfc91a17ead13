-- Demand 2, writing: Inexact exactly where no 64-bit offset reads as the instant, and else what is written reads as it.
use Rattle.std.specs.Prelude.{Result, Ok, Err}
use mathlib.Core.Path.{◌≡◌, refl, sym, ap, ◌∙◌, subst}
use mathlib.Core.Bool.{true}
use Prim.Native.Nat.{ℕ}
use native.Mathlib.Omega.{arith}
use lib.IntN.{ℤ}
use mir.Syntax.{w64}
use mir.Val.{SFits}
use Rattle.refusal.specs.Number.{number_of}
use Rattle.refusal.specs.declared.Refusal.{Refusal}
use Rattle.refusal.specs.declared.Refusal.TheVariants.{OutOfRange, Inexact}
use Rattle.calendar.specs.Answers.{day_number}
use Rattle.calendar.proofs.Answering.{year_out}
use Rattle.instant.specs.Instant.{instant_at, in_range, fields_answer, date_in, is_clock, clock_time, instant_answer}
use Rattle.instant.specs.declared.Fields.{Fields}
use Rattle.instant.proofs.Theorems.{shown, refused_as_date, fields_had, fields_of_instant}
use Rattle.axis_types.specs.declared.Axis.{Axis}
use Rattle.axis.specs.Axis.{read_whole_on, whole_back, write_instant_on, write_fields_on}
use Rattle.axis.proofs.Laws.{good_in}
use Rattle.axis.proofs.Demands as Axes
use Rattle.uppinalo.specs.Given.{GivenAxis, axis_given, calendar_on, axis_codes}
use Rattle.uppinalo.specs.Days.{of_fields}
use Rattle.uppinalo.specs.Offsets.{no_offset, of_offset, uppinalo_read_whole, uppinalo_write_instant, uppinalo_write_fields}
use Rattle.uppinalo.specs.Demands.{ReadsAt, WritesExactly, HasFields, WritingBack, GoodReference}
use Rattle.uppinalo.specs.declared.texts.UppinaloReading.{UppinaloReading}
use Rattle.uppinalo.proofs.Boundary.{whole_is, write_is, fields_is, reading_at_lem, at_reading}

module _ (x : GivenAxis) (g : GoodReference x) where
  abbrev b : Axis
  b = axis_given x

  reads_as : (n t : ℤ) → read_whole_on b n ≡ Ok (t, true) → ReadsAt (uppinalo_read_whole (axis_codes x) n) t true
  reads_as n t h = at_reading (uppinalo_read_whole (axis_codes x) n) (whole_back b n) t true (whole_is x n h)

  reads_back : (n t : ℤ) → ReadsAt (uppinalo_read_whole (axis_codes x) n) t true → read_whole_on b n ≡ Ok (t, true)
  reads_back n t h = reading_at_lem (read_whole_on b n) (whole_back b n) t true (subst (λ (a : UppinaloReading). ReadsAt a t true) (whole_is x n refl) h)

  module _ (t : ℤ) (h : in_range x.calendar t ≡ true) where
    exactly : (a : Result ℤ Refusal) → write_instant_on b t ≡ a → WritesExactly x t (of_offset a)
    exactly (Ok n) e =
        let w = Axes.writing b (good_in b g) in
        let f = w.written_fits t n e in
        let r = reads_as n t (w.written_reads t n e) in
        record { inexact = ((λ k. absurd (omega arith)), λ none. absurd (none n f r)); written = λ k. (refl, f, r) }
    exactly (Err r) e =
        let w = Axes.writing b (good_in b g) in
        let none : (n : ℤ) → SFits w64 n → ReadsAt (uppinalo_read_whole (axis_codes x) n) t true → ⊥ = λ n f k. let m = sym e ∙ w.read_writes n t true (reads_back n t k) in (let z : ◌≡◌ {A = ℕ} 0 1 = cc in omega arith) in
        let m = sym e ∙ w.none_inexact t h (λ n f k. none n f (reads_as n t k)) in
        let is : r ≡ Inexact = cc in
        record { inexact = ((λ k. none), λ k. ap number_of is); written = λ k. absurd (k (ap number_of is)) }

    instant_written : WritesExactly x t (uppinalo_write_instant (axis_codes x) t)
    instant_written = subst (WritesExactly x t) (sym (write_is x (λ (a : Axis). write_instant_on a t))) (exactly (write_instant_on b t) refl)

  module _ (f : Fields) (h : HasFields x.calendar f) where
    abbrev at : ℤ
    at = instant_at (day_number x.calendar (date_in f)) (clock_time f)

    has : instant_answer x.calendar f ≡ Ok at
    has = sym (fields_had x.calendar f h.year h.there h.clock)

    fields_at : fields_answer x.calendar at ≡ Ok f
    fields_at = fields_of_instant x.calendar f at has

    pub fields_written : WritesExactly x at (uppinalo_write_fields (axis_codes x) f)
    fields_written =
        let i = (shown x.calendar at f fields_at).inside in
        subst (WritesExactly x at) (sym (write_is x (λ (a : Axis). write_fields_on a f) ∙ ap of_offset (Axes.fields_written b f at has i))) (exactly at i (write_instant_on b at) refl)

  -- fields that are refused are refused so when they are written
  pub refused_fields : (f : Fields) (r : Refusal) → instant_answer x.calendar f ≡ Err r → uppinalo_write_fields (axis_codes x) f ≡ no_offset r
  refused_fields f r e = write_is x (λ (a : Axis). write_fields_on a f) ∙ ap of_offset (Axes.fields_refused b (good_in b g) f r e)

  pub writing : WritingBack x
  writing =
      record {
        instant = instant_written;
        instant_past = λ t h. write_is x (λ (a : Axis). write_instant_on a t) ∙ ap of_offset ((Axes.writing b (good_in b g)).instant_past t h);
        fields = λ f h. (at f h, fields_is (calendar_on x) (at f h) ∙ ap of_fields (fields_at f h), fields_written f h);
        year_past = λ f h. refused_fields f OutOfRange (sym (refused_as_date true x.calendar f OutOfRange (year_out (is_clock f) x.calendar (date_in f) h)));
      }
