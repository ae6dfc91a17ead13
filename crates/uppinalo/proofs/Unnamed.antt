-- The codes of an axis and of a calendar name it. Codes that name no axis, or no calendar, or one with a cutover that is not allowed: every call with them is refused.
use Rattle.std.specs.Prelude.{Result, Err, Option}
use mathlib.Core.Path.{◌≡◌, refl, sym, ap, ◌∙◌}
use Prim.Native.Nat.{ℕ}
use Rattle.refusal.specs.declared.Refusal.{Refusal}
use Rattle.refusal.specs.declared.Refusal.TheVariants.{UnknownCalendar}
use Rattle.axis_types.specs.declared.Axis.{Axis}
use Rattle.calendar.specs.declared.Date.{Date}
use Rattle.cutover.proofs.Theorems.{only_16}
use Rattle.axis.specs.Axis.{read_whole_on, whole_back, read_double_on, double_back, write_instant_on, write_fields_on}
use Rattle.codes.specs.Codes.{calendar_with, calendar_given, coded_axis}
use Rattle.codes.specs.declared.UppinaloAxis.{UppinaloAxis}
use Rattle.codes.proofs.Back.{calendar_known, axis_known}
use Rattle.codes.proofs.Unknown.{refused_calendar, refused_period, refused_mode, refused_cutover}
use Rattle.uppinalo.specs.Days.{date_by_code, day_by_code, fields_by_code}
use Rattle.uppinalo.specs.Offsets.{read_on, write_on}
use Rattle.uppinalo.specs.Runs.{run_on}
use Rattle.uppinalo.specs.Texts.{length_by_code}
use Rattle.uppinalo.specs.Demands.{CodesOfAxes, OtherCodes, OtherCalendar}
use Rattle.uppinalo.proofs.Boundary.{axis_is, calendar_is}
use Rattle.calendar.specs.declared.Calendar.{Calendar}

pub codes : CodesOfAxes
codes =
    record {
      taken_back = axis_is;
      calendar_back = calendar_is;
      only_codes = λ a b e. let k = axis_known a b e in (record { calendar = b.calendar; period = b.period; mode = b.mode; reference = b.reference; cutover = a.cutover; carries = k.1 }, refl, k.0);
      only_calendar = λ n cutover c e. let k = calendar_known n cutover c e in (k.code, k.carries);
    }

pub other_codes : (a : UppinaloAxis) (r : Refusal) → coded_axis a ≡ Err r → OtherCodes a r
other_codes a r e =
    record {
      calendar_first = refused_calendar a r e;
      then_period = refused_period a r e;
      then_mode = refused_mode a r e;
      then_cutover = refused_cutover a r e;
      read_whole = λ n. ap (λ (k : Result Axis Refusal). read_on k (λ (x : Axis). read_whole_on x n) (λ (x : Axis). whole_back x n)) e;
      read_double_lem = λ y. ap (λ (k : Result Axis Refusal). read_on k (λ (x : Axis). read_double_on x y) (λ (x : Axis). double_back x y)) e;
      write_instant_lem = λ t. ap (λ (k : Result Axis Refusal). write_on k (λ (x : Axis). write_instant_on x t)) e;
      write_fields = λ f. ap (λ (k : Result Axis Refusal). write_on k (λ (x : Axis). write_fields_on x f)) e;
      read_wholes = λ xs ds. ap (λ (k : Result Axis Refusal). run_on k read_whole_on xs ds) e;
      read_doubles = λ xs ds. ap (λ (k : Result Axis Refusal). run_on k read_double_on xs ds) e;
    }

pub other_calendar : (calendar : ℕ) (cutover : Date) (r : Refusal) → calendar_given calendar cutover ≡ Err r → OtherCalendar calendar cutover r
other_calendar calendar cutover r e =
    record {
      code_first = λ f. let k = ap (λ (c : Option Calendar). calendar_with c cutover) (sym f) ∙ e in (let z : UnknownCalendar ≡ r = cc in sym z);
      then_cutover = λ c f. only_16 c cutover r (ap (λ (k : Option Calendar). calendar_with k cutover) (sym f) ∙ e);
      date_of_day = λ n. ap (λ (k : Result Calendar Refusal). date_by_code k n) e;
      day_of_date = λ x. ap (λ (k : Result Calendar Refusal). day_by_code k x) e;
      fields_of = λ t. ap (λ (k : Result Calendar Refusal). fields_by_code k t) e;
      write_iso_lem = λ t room. ap (λ (k : Result Calendar Refusal). length_by_code k t room) e;
    }
