-- The three demands, stated of the calls of include/uppinalo.h: of what each call promises (the definitions that have a call's name in the
-- other files of this folder), whatever it is handed. The last record, `Demands`, has them all; proofs/Demands.antt proves it. What is
-- demanded of the calls about datetime64 arrays alone stands in Arrays.antt, of those about TT2000 in UtcTimes.antt, why a date is refused in
-- RefusedDates.antt, how far a day was moved back in DaysBack.antt, and what a cutover changes in Cutovers.antt.
-- An axis crosses the boundary by its codes and a cutover that its calendar carries (Given.antt): `axis_codes x` is what a caller hands in for the
-- axis x, and `calendar_code c` for the calendar c, with its cutover beside it. `CodesOfAxes` says that these codes name it, and that no others do;
-- `OtherCodes` what calls with codes that name nothing, or with a cutover that is not allowed, answer.
use Rattle.std.specs.Prelude.{◌≡◌, Bool, true, false, cond, List, [], ◌∷◌, ◌++◌, map, ◌↔◌, ℕ, ◌+◌, ◌≤◌, ◌<◌, T, ℤ, pos, length, take, drop, Float, Ok, Err, Some, None}
use Rattle.std.proofs.Math.Option.{none, some}
use Rattle.std.specs.Float.{nan, inf, fin}
use Rattle.std.specs.Float.Ieee.{le}
use Rattle.std.specs.Int.{w64}
use Rattle.std.proofs.Common.{SFits}
use Rattle.refusal.specs.declared.Refusal.{Refusal}
use Rattle.refusal.specs.declared.Refusal.TheVariants.{TextTooLong, UnknownCalendar, IllFormed, OutOfRange, NoRoom, NotFinite, CutoverNotAllowed}
use Rattle.calendar.specs.Calendar.{date, epoch, exists, DaysOn, date_of, in_years}
use Rattle.calendar.specs.declared.Calendar.{Calendar}
use Rattle.calendar.specs.declared.Calendar.TheVariants.{ProlepticGregorian}
use Rattle.calendar.specs.declared.Date.{Date}
use Rattle.instant.specs.Instant.{day_of, time_of, in_range, fields_at, date_in, is_clock}
use Rattle.instant.specs.declared.Fields.{Fields}
use Rattle.axis_types.specs.Lengths.{length_of}
use Rattle.axis_types.specs.declared.Period.{Period}
use Rattle.axis_types.specs.declared.Mode.{Mode}
use Rattle.axis_types.specs.declared.Axis.{Axis}
use Rattle.double.specs.Nearest.{IsNearest}
use Rattle.fixed_axis.specs.Demands.{Demand3, InOrder}
use Rattle.run_ends.specs.Each.{Each}
use Rattle.runs.specs.declared.RunAnswer.{RunAnswer}
use Rattle.cutover.specs.Calendars.{with_cutover, Carries}
use Rattle.calendar_name.specs.Names.{calendar_of}
use Rattle.named_text.specs.Texts.{named_calendar}
use Rattle.grammar.specs.Grammar.{Derives}
use Rattle.date_text.specs.DateRule.{date_rule}
use Rattle.date_text.specs.declared.WrittenDate.{WrittenDate}
use Rattle.units_text.specs.UnitsRule.{units}
use Rattle.units_text.specs.declared.Units.{Units}
use Rattle.written_instant.specs.Instants.{written_instant}
use Rattle.axis_text.specs.Units.{axis_of}
use Rattle.units_fragments.specs.Fragments.{after_each, concatenation}
use Rattle.units_fragments.specs.declared.UnitsState.{UnitsState}
use Rattle.datetime64_runs.specs.Records.{record_count}
use Rattle.leap_seconds.specs.Leaps.{is_good}
use Rattle.tt2000.specs.declared.UtcFields.{UtcFields}
use Rattle.codes.specs.Codes.{coded_calendar, calendar_given, coded_period, coded_mode, coded_axis, calendar_code}
use Rattle.codes.specs.declared.UppinaloAxis.{UppinaloAxis}
use Rattle.uppinalo.specs.Days.{no_date, no_day, no_fields, uppinalo_date_of_day, uppinalo_day_of_date, uppinalo_fields_of}
use Rattle.uppinalo.specs.Offsets.{no_reading, no_offset, uppinalo_read_whole, uppinalo_read_double, uppinalo_write_instant, uppinalo_write_fields}
use Rattle.uppinalo.specs.Runs.{no_run, uppinalo_read_wholes, uppinalo_read_wholes_destination, uppinalo_read_doubles, uppinalo_read_doubles_destination}
use Rattle.uppinalo.specs.Texts.{of_instant, of_axis, no_length, uppinalo_read_iso, uppinalo_read_units, uppinalo_write_iso, uppinalo_write_iso_room}
use Rattle.uppinalo.specs.Fragments.{uppinalo_start_units, uppinalo_add_units, uppinalo_add_units_state, uppinalo_end_units, uppinalo_end_units_state}
use Rattle.uppinalo.specs.Datetime64.{uppinalo_read_datetime64, uppinalo_read_datetime64_destination, uppinalo_write_datetime64, uppinalo_write_datetime64_records}
use Rattle.uppinalo.specs.Utc.{uppinalo_read_tt2000, uppinalo_write_tt2000}
use Rattle.uppinalo.specs.Given.{GivenCalendar, GivenAxis, axis_given, axis_codes}
use Rattle.uppinalo.specs.Cutovers.{Cutovers}
use Rattle.uppinalo.specs.Arrays.{Arrays}
use Rattle.uppinalo.specs.DaysBack.{DaysBack}
use Rattle.uppinalo.specs.RefusedDates.{RefusedDates}
use Rattle.uppinalo.specs.UtcTimes.{BadLists, UtcTimes}
use Rattle.uppinalo.specs.declared.days.UppinaloDateAnswer.{UppinaloDateAnswer}
use Rattle.uppinalo.specs.declared.days.UppinaloDayAnswer.{UppinaloDayAnswer}
use Rattle.uppinalo.specs.declared.days.UppinaloFieldsAnswer.{UppinaloFieldsAnswer}
use Rattle.uppinalo.specs.declared.texts.UppinaloReading.{UppinaloReading}
use Rattle.uppinalo.specs.declared.texts.UppinaloAxisAnswer.{UppinaloAxisAnswer}
use Rattle.uppinalo.specs.declared.texts.UppinaloLengthAnswer.{UppinaloLengthAnswer}
use Rattle.uppinalo.specs.declared.offsets.UppinaloOffsetAnswer.{UppinaloOffsetAnswer}
use Rattle.uppinalo.specs.declared.utc.UppinaloUtcFieldsAnswer.{UppinaloUtcFieldsAnswer}
use Rattle.uppinalo.specs.declared.utc.UppinaloTt2000Answer.{UppinaloTt2000Answer}

-- the reference of an axis lies in the years -9999 to 9999
abbrev pub GoodReference : GivenAxis → Type 0
GoodReference x = in_range x.calendar x.reference ≡ true

-- ---- codes

pub record CodesOfAxes : Type 0 where
  -- the codes of an axis name it: all calendars, periods and modes
  pub taken_back : (x : GivenAxis) → coded_axis (axis_codes x) ≡ Ok (axis_given x)
  pub calendar_back : (g : GivenCalendar) → calendar_given (calendar_code g.calendar) g.cutover ≡ Ok g.calendar
  -- and no other codes do
  pub only_codes : (a : UppinaloAxis) (b : Axis) → coded_axis a ≡ Ok b → (x : GivenAxis) × (axis_given x ≡ b) × (axis_codes x ≡ a)
  pub only_calendar : (n : ℕ) (cutover : Date) (c : Calendar) → calendar_given n cutover ≡ Ok c → (calendar_code c ≡ n) × Carries c cutover

-- codes that name no axis, where the refusal is r: 2 for the calendar, then 3 for the period or the mode, then 16 for the cutover
pub record OtherCodes (a : UppinaloAxis) (r : Refusal) : Type 0 where
  pub calendar_first : coded_calendar a.calendar ≡ None → r ≡ UnknownCalendar
  pub then_period : (c : Calendar) → coded_calendar a.calendar ≡ Some c → coded_period a.period ≡ None → r ≡ IllFormed
  pub then_mode : (c : Calendar) → coded_calendar a.calendar ≡ Some c → (p : Period) → coded_period a.period ≡ Some p → coded_mode a.mode ≡ None → r ≡ IllFormed
  pub then_cutover : (c : Calendar) → coded_calendar a.calendar ≡ Some c → (p : Period) → coded_period a.period ≡ Some p → (m : Mode) → coded_mode a.mode ≡ Some m → r ≡ CutoverNotAllowed
  pub read_whole : (n : ℤ) → uppinalo_read_whole a n ≡ no_reading r
  pub read_double_lem : (y : Float) → uppinalo_read_double a y ≡ no_reading r
  pub write_instant_lem : (t : ℤ) → uppinalo_write_instant a t ≡ no_offset r
  pub write_fields : (f : Fields) → uppinalo_write_fields a f ≡ no_offset r
  pub read_wholes : (xs ds : List ℤ) → uppinalo_read_wholes a xs ds ≡ no_run r
  pub read_doubles : (xs : List Float) (ds : List ℤ) → uppinalo_read_doubles a xs ds ≡ no_run r

-- a code and a cutover that give no calendar, where the refusal is r: 2 for the code, then 16 for the cutover
pub record OtherCalendar (calendar : ℕ) (cutover : Date) (r : Refusal) : Type 0 where
  pub code_first : coded_calendar calendar ≡ None → r ≡ UnknownCalendar
  pub then_cutover : (c : Calendar) → coded_calendar calendar ≡ Some c → r ≡ CutoverNotAllowed
  pub date_of_day : (n : ℤ) → uppinalo_date_of_day calendar cutover n ≡ no_date r
  pub day_of_date : (x : Date) → uppinalo_day_of_date calendar cutover x ≡ no_day r
  pub fields_of : (t : ℤ) → uppinalo_fields_of calendar cutover t ≡ no_fields r
  pub write_iso_lem : (t : ℤ) (room : List ℕ) → uppinalo_write_iso calendar cutover t room ≡ no_length r

-- ---- demand 1: a refused answer has zeros beside its number, and what was lent to be written is as it was

-- the state of a text in fragments is not meant (document 02, CR 4): `TextsInFragments` says what a refused call leaves of it

abbrev pub IsRefused : ℕ → Type 0
IsRefused number = number ≡ 0 → ⊥

abbrev pub DateOrZero : UppinaloDateAnswer → Type 0
DateOrZero a = IsRefused a.number → a.date ≡ date (pos 0) 0 0

abbrev pub DayOrZero : UppinaloDayAnswer → Type 0
DayOrZero a = IsRefused a.number → a.day ≡ pos 0

abbrev pub FieldsOrZero : UppinaloFieldsAnswer → Type 0
FieldsOrZero a = IsRefused a.number → a.fields ≡ record { year = pos 0; month = 0; day = 0; hour = 0; minute = 0; second = 0; microsecond = 0 }

abbrev pub ReadingOrZero : UppinaloReading → Type 0
ReadingOrZero a = IsRefused a.number → (a.instant ≡ pos 0) × (a.exact ≡ false) × (a.days_back ≡ 0)

abbrev pub OffsetOrZero : UppinaloOffsetAnswer → Type 0
OffsetOrZero a = IsRefused a.number → a.offset ≡ pos 0

abbrev pub UtcFieldsOrZero : UppinaloUtcFieldsAnswer → Type 0
UtcFieldsOrZero a = IsRefused a.number → a.fields ≡ record { year = pos 0; month = 0; day = 0; hour = 0; minute = 0; second = 0; nanosecond = 0 }

abbrev pub Tt2000OrZero : UppinaloTt2000Answer → Type 0
Tt2000OrZero a = IsRefused a.number → a.tt2000 ≡ pos 0

-- 0, 0, 0 are the codes of `standard`, seconds and fixed mode; the cutover is that of 1582
abbrev pub AxisOrZero : UppinaloAxisAnswer → Type 0
AxisOrZero a = IsRefused a.number → a.axis ≡ record { calendar = 0; period = 0; mode = 0; reference = pos 0; cutover = date (pos 1582) 10 15 }

-- and the room is kept
abbrev pub LengthOrZero : UppinaloLengthAnswer → List ℕ → List ℕ → Type 0
LengthOrZero a before after = IsRefused a.number → (a.length ≡ 0) × (after ≡ before)

-- and what was lent is kept, a destination of instants or a room of bytes; of the place speak `RunByOffsets` and `RefusedFirst`
abbrev pub RunOrZero : {A : Type 0} → RunAnswer → List A → List A → Type 0
RunOrZero a before after = IsRefused a.number → (a.length ≡ 0) × (a.rounded ≡ 0) × (after ≡ before)

pub record ZeroBesideRefusal : Type 0 where
  pub date_of_day : (calendar : ℕ) (cutover : Date) (n : ℤ) → DateOrZero (uppinalo_date_of_day calendar cutover n)
  pub day_of_date : (calendar : ℕ) (cutover x : Date) → DayOrZero (uppinalo_day_of_date calendar cutover x)
  pub fields_of : (calendar : ℕ) (cutover : Date) (t : ℤ) → FieldsOrZero (uppinalo_fields_of calendar cutover t)
  pub read_whole : (a : UppinaloAxis) (n : ℤ) → ReadingOrZero (uppinalo_read_whole a n)
  pub read_double_lem : (a : UppinaloAxis) (x : Float) → ReadingOrZero (uppinalo_read_double a x)
  pub write_instant_lem : (a : UppinaloAxis) (t : ℤ) → OffsetOrZero (uppinalo_write_instant a t)
  pub write_fields : (a : UppinaloAxis) (f : Fields) → OffsetOrZero (uppinalo_write_fields a f)
  pub read_wholes : (a : UppinaloAxis) (xs ds : List ℤ) → RunOrZero (uppinalo_read_wholes a xs ds) ds (uppinalo_read_wholes_destination a xs ds)
  pub read_doubles : (a : UppinaloAxis) (xs : List Float) (ds : List ℤ) → RunOrZero (uppinalo_read_doubles a xs ds) ds (uppinalo_read_doubles_destination a xs ds)
  pub read_iso_lem : (name : List ℕ) (cutover : Date) (text : List ℕ) → ReadingOrZero (uppinalo_read_iso name cutover text)
  pub read_units_lem : (name : List ℕ) (cutover : Date) (text : List ℕ) → AxisOrZero (uppinalo_read_units name cutover text)
  pub end_units : (s : UnitsState) (name : List ℕ) (cutover : Date) → AxisOrZero (uppinalo_end_units s name cutover)
  pub write_iso_lem : (calendar : ℕ) (cutover : Date) (t : ℤ) (room : List ℕ) → LengthOrZero (uppinalo_write_iso calendar cutover t room) room (uppinalo_write_iso_room calendar cutover t room)
  pub read_datetime64 : (text s : List ℕ) (ds : List ℤ) → RunOrZero (uppinalo_read_datetime64 text s ds) ds (uppinalo_read_datetime64_destination text s ds)
  pub write_datetime64 : (text : List ℕ) (xs : List ℤ) (room : List ℕ) → RunOrZero (uppinalo_write_datetime64 text xs room) room (uppinalo_write_datetime64_records text xs room)
  pub read_tt2000_lem : (s : List ℕ) (t : ℤ) → UtcFieldsOrZero (uppinalo_read_tt2000 s t)
  pub write_tt2000_lem : (s : List ℕ) (f : UtcFields) → Tt2000OrZero (uppinalo_write_tt2000 s f)

-- ---- demand 2: dates by the next-day rule

-- the answers of success

-- the instant t is read, exactly or not; of the days stepped back speaks `DaysBack`
pub record ReadsAt (a : UppinaloReading) (t : ℤ) (exact : Bool) : Type 0 where
  pub success : a.number ≡ 0
  pub instant : a.instant ≡ t
  pub mark : a.exact ≡ exact

abbrev pub fields_given : Fields → UppinaloFieldsAnswer
fields_given f = record { number = 0; fields = f }

-- d is the date of day n: it lies n days after 1970-01-01
pub record IsDay (c : Calendar) (n : ℤ) (d : Date) : Type 0 where
  pub there : exists c d ≡ true
  pub steps : DaysOn c epoch n d

pub record DatesByNextDay (c : Calendar) (cutover : Date) : Type 0 where
  -- each day number has one date, which is `date_of`: so ranges and orders, which are stated with `date_of`, are of these dates
  pub dated : (n : ℤ) → IsDay c n (date_of c n)
  pub one_date : (n : ℤ) (d e : Date) → IsDay c n d → IsDay c n e → d ≡ e
  -- which is given, or refused with 5 where its year lies past -9999 to 9999
  pub date_of_day : (n : ℤ) (d : Date) → IsDay c n d → uppinalo_date_of_day (calendar_code c) cutover n ≡ cond (in_years d.year) (record { number = 0; date = d }) (no_date OutOfRange)
  -- so are the fields of an instant, which are the date of its day and its time of day
  pub fields_of : (t : ℤ) (d : Date) → IsDay c (day_of t) d → uppinalo_fields_of (calendar_code c) cutover t ≡ cond (in_years d.year) (fields_given (fields_at d (time_of t))) (no_fields OutOfRange)
  -- and back; a date is refused for its year first, and then as `RefusedDates` says
  pub day_of_date : (n : ℤ) (d : Date) → IsDay c n d → in_years d.year ≡ true → uppinalo_day_of_date (calendar_code c) cutover d ≡ record { number = 0; day = n }
  pub year_past : (x : Date) → in_years x.year ≡ false → uppinalo_day_of_date (calendar_code c) cutover x ≡ no_day OutOfRange

-- on an axis of days with a good reference, whose date is r, d lies n days after r
pub record DaysFromReference (x : GivenAxis) (n : ℤ) (r d : Date) : Type 0 where
  pub good : GoodReference x
  pub days : x.period ≡ Period.Day
  pub from : IsDay x.calendar (day_of x.reference) r
  pub there : exists x.calendar d ≡ true
  pub steps : DaysOn x.calendar r n d

pub record DaysRead (x : GivenAxis) (n : ℤ) (d : Date) : Type 0 where
  -- in the years, the instant that is read has the date d and the reference's time of day
  pub inside : in_years d.year ≡ true → (t : ℤ) × ReadsAt (uppinalo_read_whole (axis_codes x) n) t true × (uppinalo_fields_of (calendar_code x.calendar) x.cutover t ≡ fields_given (fields_at d (time_of x.reference)))
  pub past : in_years d.year ≡ false → uppinalo_read_whole (axis_codes x) n ≡ no_reading OutOfRange

-- ---- demand 2: what is written reads as it

-- a writing of the instant t is refused as inexact exactly where no 64-bit offset reads as t, and else what is written reads as t
pub record WritesExactly (x : GivenAxis) (t : ℤ) (answer : UppinaloOffsetAnswer) : Type 0 where
  pub inexact : (answer.number ≡ 6) ↔ ((n : ℤ) → SFits w64 n → ReadsAt (uppinalo_read_whole (axis_codes x) n) t true → ⊥)
  pub written : (answer.number ≡ 6 → ⊥) → (answer.number ≡ 0) × SFits w64 answer.offset × ReadsAt (uppinalo_read_whole (axis_codes x) answer.offset) t true

-- a calendar has these fields, in the years -9999 to 9999
pub record HasFields (c : Calendar) (f : Fields) : Type 0 where
  pub year : in_years f.year ≡ true
  pub there : exists c (date_in f) ≡ true
  pub clock : is_clock f ≡ true

pub record WritingBack (x : GivenAxis) : Type 0 where
  pub instant : (t : ℤ) → in_range x.calendar t ≡ true → WritesExactly x t (uppinalo_write_instant (axis_codes x) t)
  pub instant_past : (t : ℤ) → in_range x.calendar t ≡ false → uppinalo_write_instant (axis_codes x) t ≡ no_offset OutOfRange
  -- fields that the calendar has are those of an instant; others are refused for the year first, and then as `RefusedDates` says
  pub fields : (f : Fields) → HasFields x.calendar f → (t : ℤ) × (uppinalo_fields_of (calendar_code x.calendar) x.cutover t ≡ fields_given f) × WritesExactly x t (uppinalo_write_fields (axis_codes x) f)
  pub year_past : (f : Fields) → in_years f.year ≡ false → uppinalo_write_fields (axis_codes x) f ≡ no_offset OutOfRange

-- ---- demand 2: texts, refused with 1, 2, 16, 3 in that order

-- a text of at most 128 bytes with a name of the calendar c, the empty name of `standard` among them, and a cutover that c carries
pub record TextsByGrammar (name : List ℕ) (cutover : Date) (text : List ℕ) (c : Calendar) : Type 0 where
  -- ill-formed exactly where the grammar does not derive it
  pub units_refused : ((uppinalo_read_units name cutover text).number ≡ 3) ↔ ((u : Units) → Derives units text u → ⊥)
  pub iso_refused : ((uppinalo_read_iso name cutover text).number ≡ 3) ↔ ((w : WrittenDate) → Derives date_rule text w → ⊥)
  -- and else read as what it derives, in that calendar
  pub units_read : (u : Units) → Derives units text u → uppinalo_read_units name cutover text ≡ of_axis (axis_of c u) cutover
  pub iso_read : (w : WrittenDate) → Derives date_rule text w → uppinalo_read_iso name cutover text ≡ of_instant (written_instant c w)

-- before that, a text of more bytes, then a name that is not listed, then a cutover that its calendar does not allow
pub record TextsBeforeGrammar (name : List ℕ) (cutover : Date) (text : List ℕ) : Type 0 where
  pub units_long : 128 < length text → uppinalo_read_units name cutover text ≡ of_axis (Err TextTooLong) cutover
  pub iso_long : 128 < length text → uppinalo_read_iso name cutover text ≡ of_instant (Err TextTooLong)
  pub units_name : length text ≤ 128 → calendar_of name ≡ none → uppinalo_read_units name cutover text ≡ of_axis (Err UnknownCalendar) cutover
  pub iso_name : length text ≤ 128 → calendar_of name ≡ none → uppinalo_read_iso name cutover text ≡ of_instant (Err UnknownCalendar)
  pub units_cutover : length text ≤ 128 → (c : Calendar) → calendar_of name ≡ some c → (r : Refusal) → with_cutover c cutover ≡ Err r → uppinalo_read_units name cutover text ≡ of_axis (Err CutoverNotAllowed) cutover
  pub iso_cutover : length text ≤ 128 → (c : Calendar) → calendar_of name ≡ some c → (r : Refusal) → with_cutover c cutover ≡ Err r → uppinalo_read_iso name cutover text ≡ of_instant (Err CutoverNotAllowed)

-- ---- a units text in fragments

-- a state that takes a fragment or an end: it has not ended, and its count is a possible one
pub record OpenState (s : UnitsState) : Type 0 where
  pub not_ended : s.ended ≡ 0
  pub possible : s.count ≤ 129

pub record TextsInFragments : Type 0 where
  -- from a fresh state every fragment is taken, and the end answers as reading the joined text does, wherever it was cut
  pub taken : (fs : List (List ℕ)) (f : List ℕ) → uppinalo_add_units (after_each uppinalo_add_units_state uppinalo_start_units fs) f ≡ 0
  pub read : (fs : List (List ℕ)) (name : List ℕ) (cutover : Date) → uppinalo_end_units (after_each uppinalo_add_units_state uppinalo_start_units fs) name cutover ≡ uppinalo_read_units name cutover (concatenation fs)
  -- 11 exactly for a state that is not open, which is kept; adding is refused with nothing else
  pub add_refused : (s : UnitsState) (f : List ℕ) → (uppinalo_add_units s f ≡ 11) ↔ (OpenState s → ⊥)
  pub add_taken : (s : UnitsState) (f : List ℕ) → OpenState s → uppinalo_add_units s f ≡ 0
  pub add_kept : (s : UnitsState) (f : List ℕ) → uppinalo_add_units s f ≡ 11 → uppinalo_add_units_state s f ≡ s
  pub end_refused : (s : UnitsState) (name : List ℕ) (cutover : Date) → ((uppinalo_end_units s name cutover).number ≡ 11) ↔ (OpenState s → ⊥)
  pub end_kept : (s : UnitsState) (name : List ℕ) (cutover : Date) → (uppinalo_end_units s name cutover).number ≡ 11 → uppinalo_end_units_state s name cutover ≡ s
  -- any other end, refused or not, ends and changes nothing else; after an end there is neither a fragment nor an end
  pub ends : (s : UnitsState) (name : List ℕ) (cutover : Date) → OpenState s → uppinalo_end_units_state s name cutover ≡ record { count = s.count; ended = 1; bytes = s.bytes }
  pub no_fragment : (s : UnitsState) (name : List ℕ) (cutover : Date) (f : List ℕ) → uppinalo_add_units (uppinalo_end_units_state s name cutover) f ≡ 11
  pub no_second_end : (s : UnitsState) (name : List ℕ) (cutover : Date) (again : List ℕ) (other : Date) → (uppinalo_end_units (uppinalo_end_units_state s name cutover) again other).number ≡ 11

-- ---- demand 3: doubles on a fixed axis. A finite double is ± m * 2 ^ e, s its sign

pub record DoublesRead (x : GivenAxis) : Type 0 where
  -- of all counts of microseconds one is nearest to the exact time
  pub nearest : (s : Bool) (m : ℕ) (e : ℤ) → (z : ℤ) × IsNearest x.reference (length_of x.period) s m e z
  pub one_nearest : (s : Bool) (m : ℕ) (e z w : ℤ) → IsNearest x.reference (length_of x.period) s m e z → IsNearest x.reference (length_of x.period) s m e w → z ≡ w
  -- what is read is it, at most half a microsecond off, marked exact just where the difference is 0
  pub right : (s : Bool) (m : ℕ) (e z : ℤ) (exact : Bool) → ReadsAt (uppinalo_read_double (axis_codes x) (fin s m e)) z exact → Demand3 x.calendar x.period x.reference s m e z exact
  -- 5 exactly where it leaves the years; a finite double is refused with nothing else
  pub past : (s : Bool) (m : ℕ) (e z : ℤ) → IsNearest x.reference (length_of x.period) s m e z → ((uppinalo_read_double (axis_codes x) (fin s m e)).number ≡ 5) ↔ (in_years (date_of x.calendar (day_of z)).year ≡ false)
  pub only_past : (s : Bool) (m : ℕ) (e : ℤ) → ((uppinalo_read_double (axis_codes x) (fin s m e)).number ≡ 5 → ⊥) → (uppinalo_read_double (axis_codes x) (fin s m e)).number ≡ 0
  -- the greater double never gives the earlier instant
  pub in_order : (y z : Float) (t u : ℤ) (i j : Bool) → T (le y z) → ReadsAt (uppinalo_read_double (axis_codes x) y) t i → ReadsAt (uppinalo_read_double (axis_codes x) z) u j → InOrder x.calendar t u
  -- doubles that are not finite
  pub not_a_number : uppinalo_read_double (axis_codes x) nan ≡ no_reading NotFinite
  pub infinite : (s : Bool) → uppinalo_read_double (axis_codes x) (inf s) ≡ no_reading NotFinite

-- ---- runs, offset by offset

-- how many offsets of a run, all of which are read, are not exact
abbrev pub inexact_count : {A : Type 0} → (A → UppinaloReading) → List A → ℕ
inexact_count read [] = 0
inexact_count read (x ∷ xs) = cond (read x).exact 0 1 + inexact_count read xs

-- `read` is the call for one offset on a good axis; the run xs is lent the destination ds, which is ds' afterwards
pub record RunByOffsets {A : Type 0} (read : A → UppinaloReading) (xs : List A) (ds : List ℤ) (answer : RunAnswer) (ds' : List ℤ) : Type 0 where
  -- too little room comes first
  pub short : length ds < length xs → answer ≡ no_run NoRoom
  -- then the first offset that is refused alone: its number and its place
  pub refused : length xs ≤ length ds → (ys : List A) (y : A) (zs : List A) → xs ≡ ys ++ y ∷ zs → Each (λ (x : A). (read x).number ≡ 0) ys → IsRefused (read y).number → answer ≡ record { number = (read y).number; place = length ys; length = 0; rounded = 0 }
  -- and where none is, each instant stands at its offset's place, and the places beyond are kept
  pub read_all : length xs ≤ length ds → Each (λ (x : A). (read x).number ≡ 0) xs → (answer ≡ record { number = 0; place = 0; length = length xs; rounded = inexact_count read xs }) × (ds' ≡ map (λ (x : A). (read x).instant) xs ++ drop (length xs) ds)

pub record RunsByOffsets (x : GivenAxis) : Type 0 where
  pub wholes : (xs ds : List ℤ) → RunByOffsets (uppinalo_read_whole (axis_codes x)) xs ds (uppinalo_read_wholes (axis_codes x) xs ds) (uppinalo_read_wholes_destination (axis_codes x) xs ds)
  pub doubles : (xs : List Float) (ds : List ℤ) → RunByOffsets (uppinalo_read_double (axis_codes x)) xs ds (uppinalo_read_doubles (axis_codes x) xs ds) (uppinalo_read_doubles_destination (axis_codes x) xs ds)

-- ---- an axis whose reference lies past the years: 5 before all else

pub record PastReference (x : GivenAxis) : Type 0 where
  pub read_whole : (n : ℤ) → uppinalo_read_whole (axis_codes x) n ≡ no_reading OutOfRange
  pub read_double_lem : (y : Float) → uppinalo_read_double (axis_codes x) y ≡ no_reading OutOfRange
  pub write_instant_lem : (t : ℤ) → uppinalo_write_instant (axis_codes x) t ≡ no_offset OutOfRange
  pub write_fields : (f : Fields) → uppinalo_write_fields (axis_codes x) f ≡ no_offset OutOfRange
  pub read_wholes : (xs ds : List ℤ) → uppinalo_read_wholes (axis_codes x) xs ds ≡ no_run OutOfRange
  pub read_doubles : (xs : List Float) (ds : List ℤ) → uppinalo_read_doubles (axis_codes x) xs ds ≡ no_run OutOfRange

-- ---- instants that are given, and references of axes that are read, lie in the years -9999 to 9999

pub record GivenInYears : Type 0 where
  pub read_whole : (x : GivenAxis) (n t : ℤ) (exact : Bool) → ReadsAt (uppinalo_read_whole (axis_codes x) n) t exact → in_range x.calendar t ≡ true
  pub read_double_lem : (x : GivenAxis) (y : Float) (t : ℤ) (exact : Bool) → ReadsAt (uppinalo_read_double (axis_codes x) y) t exact → in_range x.calendar t ≡ true
  pub read_wholes : (x : GivenAxis) (xs ds : List ℤ) → (uppinalo_read_wholes (axis_codes x) xs ds).number ≡ 0 → Each (λ (t : ℤ). in_range x.calendar t ≡ true) (take (length xs) (uppinalo_read_wholes_destination (axis_codes x) xs ds))
  pub read_doubles : (x : GivenAxis) (xs : List Float) (ds : List ℤ) → (uppinalo_read_doubles (axis_codes x) xs ds).number ≡ 0 → Each (λ (t : ℤ). in_range x.calendar t ≡ true) (take (length xs) (uppinalo_read_doubles_destination (axis_codes x) xs ds))
  pub read_datetime64 : (text s : List ℕ) (ds : List ℤ) → (uppinalo_read_datetime64 text s ds).number ≡ 0 → Each (λ (t : ℤ). in_range ProlepticGregorian t ≡ true) (take (record_count s) (uppinalo_read_datetime64_destination text s ds))
  pub read_iso_lem : (name : List ℕ) (cutover : Date) (text : List ℕ) (c : Calendar) (t : ℤ) (exact : Bool) → named_calendar name cutover ≡ Ok c → ReadsAt (uppinalo_read_iso name cutover text) t exact → in_range c t ≡ true
  -- an axis that is read is the codes of one whose reference is good, and has the cutover as it was given
  pub read_units_lem : (name : List ℕ) (cutover : Date) (text : List ℕ) → (uppinalo_read_units name cutover text).number ≡ 0 → (x : GivenAxis) × ((uppinalo_read_units name cutover text).axis ≡ axis_codes x) × (x.cutover ≡ cutover) × GoodReference x
  pub end_units : (s : UnitsState) (name : List ℕ) (cutover : Date) → (uppinalo_end_units s name cutover).number ≡ 0 → (x : GivenAxis) × ((uppinalo_end_units s name cutover).axis ≡ axis_codes x) × (x.cutover ≡ cutover) × GoodReference x

-- ---- all of them

pub record Demands : Type 0 where
  pub codes : CodesOfAxes
  pub other_codes : (a : UppinaloAxis) (r : Refusal) → coded_axis a ≡ Err r → OtherCodes a r
  pub other_calendar : (calendar : ℕ) (cutover : Date) (r : Refusal) → calendar_given calendar cutover ≡ Err r → OtherCalendar calendar cutover r
  pub cutovers : Cutovers
  pub refusals : ZeroBesideRefusal
  pub dates : (g : GivenCalendar) → DatesByNextDay g.calendar g.cutover
  pub days_there : (x : GivenAxis) → GoodReference x → x.period ≡ Period.Day → (n : ℤ) → (r : Date) × (d : Date) × DaysFromReference x n r d
  pub days : (x : GivenAxis) (n : ℤ) (r d : Date) → DaysFromReference x n r d → DaysRead x n d
  pub writing : (x : GivenAxis) → GoodReference x → WritingBack x
  pub days_back_lem : DaysBack
  pub refused_dates : RefusedDates
  pub texts : (name : List ℕ) (cutover : Date) (text : List ℕ) (c : Calendar) → length text ≤ 128 → named_calendar name cutover ≡ Ok c → TextsByGrammar name cutover text c
  pub before_texts : (name : List ℕ) (cutover : Date) (text : List ℕ) → TextsBeforeGrammar name cutover text
  pub fragments : TextsInFragments
  pub doubles : (x : GivenAxis) → x.mode ≡ Mode.Fixed → GoodReference x → DoublesRead x
  pub runs : (x : GivenAxis) → GoodReference x → RunsByOffsets x
  pub past_reference : (x : GivenAxis) → in_range x.calendar x.reference ≡ false → PastReference x
  pub in_years_lem : GivenInYears
  pub arrays : Arrays
  pub bad_lists : (s : List ℕ) → BadLists s
  pub utc_times : (s : List ℕ) → is_good s ≡ true → UtcTimes s
