-- How far a day was moved back: document 02, CR 7, with the bound that CR 8 restates. On an axis of calendar months or years the day of the month is that of the reference; where
-- the month that is reached lacks it, an earlier one is given, and the answer says by how many days. `MovedBack` of crate `axis`
-- says how many there are. That a refusal has 0 beside it is part of `ZeroBesideRefusal`.
use Rattle.std.specs.Prelude.{◌≡◌, true, List, ℕ, ℤ, Float, Ok}
use Rattle.instant.specs.Instant.{date_in}
use Rattle.instant.specs.declared.Fields.{Fields}
use Rattle.calendar.specs.Cutover.{cutover_days, allowed, most_back}
use Rattle.calendar.specs.declared.Date.{Date}
use Rattle.axis_types.specs.declared.Mode.{Mode}
use Rattle.double.specs.Whole.{whole_of}
use Rattle.axis.specs.MovedBack.{MonthsOrYears, CutoverMonth, MovedBack}
use Rattle.codes.specs.Codes.{calendar_code}
use Rattle.uppinalo.specs.Given.{GivenAxis, axis_codes}
use Rattle.uppinalo.specs.Days.{uppinalo_fields_of}
use Rattle.uppinalo.specs.Offsets.{uppinalo_read_whole, uppinalo_read_double}
use Rattle.uppinalo.specs.Texts.{uppinalo_read_iso}

-- of the instant t these fields are given, in the calendar of the axis x
abbrev pub FieldsOn : GivenAxis → ℤ → Fields → Type 0
FieldsOn x t f = uppinalo_fields_of (calendar_code x.calendar) x.cutover t ≡ record { number = 0; fields = f }

-- the answer to the whole offset n, which is read as an instant with the fields g
pub record WholeRead (x : GivenAxis) (n : ℤ) (g : Fields) : Type 0 where
  pub success : (uppinalo_read_whole (axis_codes x) n).number ≡ 0
  pub given : FieldsOn x (uppinalo_read_whole (axis_codes x) n).instant g

-- no offset on the axis moves a day back
pub record NoneBack (x : GivenAxis) : Type 0 where
  pub whole : (n : ℤ) → (uppinalo_read_whole (axis_codes x) n).days_back ≡ 0
  pub double : (y : Float) → (uppinalo_read_double (axis_codes x) y).days_back ≡ 0

pub record DaysBack : Type 0 where
  -- calendar months and years: the days between the reference's day and the given one, and how many they may be
  pub moved : (x : GivenAxis) → x.mode ≡ Mode.Calendar → MonthsOrYears x.period → (n : ℤ) (f g : Fields) → FieldsOn x x.reference f → WholeRead x n g → MovedBack x.calendar (date_in f) (date_in g) (uppinalo_read_whole (axis_codes x) n).days_back
  -- a double that is whole is answered as the whole offset is
  pub whole_double : (x : GivenAxis) → x.mode ≡ Mode.Calendar → (y : Float) (n : ℤ) → whole_of y ≡ Ok n → uppinalo_read_double (axis_codes x) y ≡ uppinalo_read_whole (axis_codes x) n
  -- both bounds are reached: 3, and with every cutover that is allowed its own, in the month of the dropped dates
  pub three_reached : (x : GivenAxis) × (n : ℤ) × (g : Fields) × WholeRead x n g × ((uppinalo_read_whole (axis_codes x) n).days_back ≡ 3)
  pub most_reached : (cutover : Date) → allowed cutover ≡ true
      → (x : GivenAxis) × (n : ℤ) × (g : Fields) × (x.cutover ≡ cutover) × CutoverMonth x.calendar (cutover_days cutover) (date_in g) × WholeRead x n g × ((uppinalo_read_whole (axis_codes x) n).days_back ≡ most_back (cutover_days cutover))
  -- fixed mode, shorter periods, and ISO texts
  pub fixed : (x : GivenAxis) → x.mode ≡ Mode.Fixed → NoneBack x
  pub shorter : (x : GivenAxis) → (MonthsOrYears x.period → ⊥) → NoneBack x
  pub iso : (name : List ℕ) (cutover : Date) (text : List ℕ) → (uppinalo_read_iso name cutover text).days_back ≡ 0
