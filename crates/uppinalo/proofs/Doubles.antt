-- Demand 3: doubles on a fixed axis.
use Rattle.std.specs.Prelude.{Ok, Err}
use mathlib.Core.Path.{◌≡◌, refl, sym, ap, ◌∙◌, subst}
use mathlib.Core.Bool.{Bool, true, false, cond}
use Prim.Native.Nat.{ℕ}
use lib.Dec.{eqb}
use lib.IntN.{ℤ}
use lib.Ieee.{Float, nan, inf, fin}
use Rattle.refusal.specs.declared.Refusal.TheVariants.{OutOfRange}
use Rattle.calendar.specs.declared.Calendar.{Calendar}
use Rattle.instant.specs.Instant.{in_range}
use Rattle.axis_types.specs.Lengths.{length_of}
use Rattle.axis_types.specs.declared.Mode.{Mode}
use Rattle.axis_types.specs.declared.Period.{Period}
use Rattle.double.specs.Nearest.{distance, nearest_count}
use Rattle.fixed_axis.specs.Fixed.{read_double}
use Rattle.fixed_axis.proofs.Demands as Fixed
use Rattle.axis.specs.Axis.{double_back}
use Rattle.axis.proofs.Laws.{good_in}
use Rattle.axis.proofs.Demands as Axes
use Rattle.uppinalo.specs.Given.{GivenAxis, axis_given, axis_codes}
use Rattle.uppinalo.specs.Offsets.{of_reading, uppinalo_read_double}
use Rattle.uppinalo.specs.Demands.{ReadsAt, DoublesRead, GoodReference}
use Rattle.uppinalo.specs.declared.texts.UppinaloReading.{UppinaloReading}
use Rattle.uppinalo.proofs.Boundary.{double_is, reading_at_lem, reading_refused}
use Rattle.axis_types.specs.Reading.{Reading}

module _ (x : GivenAxis) (m : x.mode ≡ Mode.Fixed) (g : GoodReference x) where
  abbrev calendar : Calendar
  calendar = x.calendar

  abbrev period : Period
  period = x.period

  abbrev reference : ℤ
  reference = x.reference

  -- what the call answers, of a reading on the axis
  abbrev alone : Float → Reading → UppinaloReading
  alone y r = of_reading r (double_back (axis_given x) y)

  read_double_lem : (y : Float) → uppinalo_read_double (axis_codes x) y ≡ alone y (read_double calendar period reference y)
  read_double_lem y = double_is x y (Axes.fixed_double (axis_given x) y (good_in (axis_given x) g) m)

  double_at : (y : Float) (z : ℤ) (exact : Bool) → ReadsAt (uppinalo_read_double (axis_codes x) y) z exact → read_double calendar period reference y ≡ Ok (z, exact)
  double_at y z exact h = reading_at_lem (read_double calendar period reference y) (double_back (axis_given x) y) z exact (subst (λ (a : UppinaloReading). ReadsAt a z exact) (read_double_lem y) h)

  number_is : (y : Float) → (uppinalo_read_double (axis_codes x) y).number ≡ (alone y (read_double calendar period reference y)).number
  number_is y = ap (λ (a : UppinaloReading). a.number) (read_double_lem y)

  only_past : (s : Bool) (k : ℕ) (e : ℤ) → ((alone (fin s k e) (read_double calendar period reference (fin s k e))).number ≡ 5 → ⊥) → (alone (fin s k e) (read_double calendar period reference (fin s k e))).number ≡ 0
  unfolding read_double
  only_past s k e =
      let z = nearest_count reference (length_of period) s k e in
      go (in_range calendar z) z (eqb (distance reference (length_of period) s k e z) 0)
    where
      go : (b : Bool) (z : ℤ) (exact : Bool) → ((alone (fin s k e) (cond {A = Reading} b (Ok (z, exact)) (Err OutOfRange))).number ≡ 5 → ⊥) → (alone (fin s k e) (cond {A = Reading} b (Ok (z, exact)) (Err OutOfRange))).number ≡ 0
      go true z exact h = refl
      go false z exact h = absurd (h refl)

  pub doubles : DoublesRead x
  doubles =
      record {
        nearest = λ s k e. (nearest_count reference (length_of period) s k e, Fixed.nearest_there calendar period reference s k e);
        one_nearest = Fixed.nearest_only calendar period reference;
        right = λ s k e z exact h. Fixed.read_right calendar period reference s k e z exact (double_at (fin s k e) z exact h);
        past = λ s k e z n. (
          (λ h. Fixed.refused_past calendar period reference s k e z n (reading_refused (read_double calendar period reference (fin s k e)) (double_back (axis_given x) (fin s k e)) OutOfRange (sym (number_is (fin s k e)) ∙ h))),
          λ h. number_is (fin s k e) ∙ ap (λ (r : Reading). (alone (fin s k e) r).number) (Fixed.past_refused calendar period reference s k e z n h),
        );
        only_past = λ s k e h. number_is (fin s k e) ∙ only_past s k e (λ q. h (number_is (fin s k e) ∙ q));
        in_order = λ y z t u i j l p q. Fixed.read_ordered calendar period reference y z t u i j l (double_at y t i p) (double_at z u j q);
        not_a_number = read_double_lem nan ∙ ap (alone nan) (Fixed.not_finite calendar period reference).0;
        infinite = λ s. read_double_lem (inf s) ∙ ap (alone (inf s)) ((Fixed.not_finite calendar period reference).1 s);
      }
