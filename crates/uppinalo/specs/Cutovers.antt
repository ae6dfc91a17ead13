-- What a cutover changes, of the calls: document 02, CR 8. `standard` goes by it, and is refused with 16 exactly where it is not allowed; in another
-- calendar it changes no answer. Which dates are allowed is defined in specs/Cutover.antt of crate `calendar`.
use Rattle.std.specs.Prelude.{◌≡◌, true, false, List, ◌↔◌, ℕ, ◌≤◌, ℤ, length, Err, Some}
use Rattle.std.proofs.Math.Option.{some}
use Rattle.refusal.specs.declared.Refusal.TheVariants.{CutoverNotAllowed}
use Rattle.calendar.specs.Calendar.{row_of}
use Rattle.calendar.specs.Cutover.{last_kept_after, cutover_after, cutover_days, allowed}
use Rattle.calendar.specs.declared.Calendar.TheVariants.{Standard}
use Rattle.calendar.specs.declared.Date.{Date}
use Rattle.cutover.specs.Calendars.{Carries}
use Rattle.axis_types.specs.declared.Mode.{Mode}
use Rattle.axis_types.specs.declared.Period.{Period}
use Rattle.calendar_name.specs.Names.{calendar_of}
use Rattle.codes.specs.Codes.{coded_period, coded_mode, coded_axis}
use Rattle.codes.specs.declared.UppinaloAxis.{UppinaloAxis}
use Rattle.units_fragments.specs.declared.UnitsState.{UnitsState}
use Rattle.uppinalo.specs.Days.{uppinalo_date_of_day, uppinalo_day_of_date, uppinalo_fields_of}
use Rattle.uppinalo.specs.Texts.{uppinalo_read_iso, uppinalo_read_units, uppinalo_write_iso, uppinalo_write_iso_room}
use Rattle.uppinalo.specs.Fragments.{uppinalo_end_units}
use Rattle.uppinalo.specs.declared.texts.UppinaloAxisAnswer.{UppinaloAxisAnswer}

-- ---- `standard` goes by its cutover

-- it carries every date that is allowed, and no other; its late part begins there, and its early part ends as many days after 1582-10-04
pub record ByCutover (cutover : Date) : Type 0 where
  pub taken : allowed cutover ≡ true → Carries (Standard (cutover_days cutover)) cutover
  pub not_taken : allowed cutover ≡ false → (k : ℕ) → Carries (Standard k) cutover → ⊥
  pub first : (k : ℕ) → Carries (Standard k) cutover → (cutover_after (cutover_days cutover) ≡ cutover) × ((row_of (Standard k)).first ≡ cutover)
  pub last : (k : ℕ) → Carries (Standard k) cutover → (row_of (Standard k)).last ≡ last_kept_after (cutover_days cutover)

-- ---- 16 exactly for the others, in each call that takes a calendar

abbrev pub OnlyNotAllowed : ℕ → Date → Type 0
OnlyNotAllowed number cutover = (number ≡ 16) ↔ (allowed cutover ≡ false)

pub record Refused16 (cutover : Date) : Type 0 where
  pub date_of_day : (n : ℤ) → OnlyNotAllowed (uppinalo_date_of_day 0 cutover n).number cutover
  pub day_of_date : (x : Date) → OnlyNotAllowed (uppinalo_day_of_date 0 cutover x).number cutover
  pub fields_of : (t : ℤ) → OnlyNotAllowed (uppinalo_fields_of 0 cutover t).number cutover
  pub write_iso_lem : (t : ℤ) (room : List ℕ) → OnlyNotAllowed (uppinalo_write_iso 0 cutover t room).number cutover
  -- a text of at most 128 bytes with a name of `standard`; the end of fragments answers as `uppinalo_read_units` does
  pub read_units_lem : (name text : List ℕ) (k : ℕ) → length text ≤ 128 → calendar_of name ≡ some (Standard k) → OnlyNotAllowed (uppinalo_read_units name cutover text).number cutover
  pub read_iso_lem : (name text : List ℕ) (k : ℕ) → length text ≤ 128 → calendar_of name ≡ some (Standard k) → OnlyNotAllowed (uppinalo_read_iso name cutover text).number cutover
  -- an axis whose period and mode are named; `OtherCodes` has the calls on it, and `PastReference` says that 5 comes later
  pub axis : (a : UppinaloAxis) (p : Period) (m : Mode) → a.calendar ≡ 0 → a.cutover ≡ cutover → coded_period a.period ≡ Some p → coded_mode a.mode ≡ Some m → (coded_axis a ≡ Err CutoverNotAllowed) ↔ (allowed cutover ≡ false)

-- ---- in another calendar it changes no answer

abbrev pub with_date : UppinaloAxis → Date → UppinaloAxis
with_date a x = record { calendar = a.calendar; period = a.period; mode = a.mode; reference = a.reference; cutover = x }

-- but that an axis that is read has it
pub record SameAxis (a b : UppinaloAxisAnswer) : Type 0 where
  pub number : a.number ≡ b.number
  pub axis : with_date a.axis b.axis.cutover ≡ b.axis

pub record NoMatter (x y : Date) : Type 0 where
  pub date_of_day : (calendar : ℕ) → (calendar ≡ 0 → ⊥) → (n : ℤ) → uppinalo_date_of_day calendar x n ≡ uppinalo_date_of_day calendar y n
  pub day_of_date : (calendar : ℕ) → (calendar ≡ 0 → ⊥) → (d : Date) → uppinalo_day_of_date calendar x d ≡ uppinalo_day_of_date calendar y d
  pub fields_of : (calendar : ℕ) → (calendar ≡ 0 → ⊥) → (t : ℤ) → uppinalo_fields_of calendar x t ≡ uppinalo_fields_of calendar y t
  pub write_iso_lem : (calendar : ℕ) → (calendar ≡ 0 → ⊥) → (t : ℤ) (room : List ℕ) → (uppinalo_write_iso calendar x t room ≡ uppinalo_write_iso calendar y t room) × (uppinalo_write_iso_room calendar x t room ≡ uppinalo_write_iso_room calendar y t room)
  -- a name that is not one of `standard`
  pub read_iso_lem : (name : List ℕ) → ((k : ℕ) → calendar_of name ≡ some (Standard k) → ⊥) → (text : List ℕ) → uppinalo_read_iso name x text ≡ uppinalo_read_iso name y text
  pub read_units_lem : (name : List ℕ) → ((k : ℕ) → calendar_of name ≡ some (Standard k) → ⊥) → (text : List ℕ) → SameAxis (uppinalo_read_units name x text) (uppinalo_read_units name y text)
  pub end_units : (name : List ℕ) → ((k : ℕ) → calendar_of name ≡ some (Standard k) → ⊥) → (s : UnitsState) → SameAxis (uppinalo_end_units s name x) (uppinalo_end_units s name y)
  -- what every call on an axis goes by
  pub axis : (a : UppinaloAxis) → (a.calendar ≡ 0 → ⊥) → coded_axis (with_date a x) ≡ coded_axis (with_date a y)

pub record Cutovers : Type 0 where
  pub by_cutover : (cutover : Date) → ByCutover cutover
  pub refused_16 : (cutover : Date) → Refused16 cutover
  pub no_matter : (x y : Date) → NoMatter x y
