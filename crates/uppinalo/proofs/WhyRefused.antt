-- Why a date is refused: 4, 12 and 13 are each given exactly where specs/RefusedDates.antt says.
use Rattle.std.specs.Prelude.{Result, Ok, Err}
use mathlib.Core.Path.{◌≡◌, refl, sym, ap, ◌∙◌, subst}
use mathlib.Core.Bool.{Bool, true, false, ◌&&◌, and-false, cond, true≢false}
use mathlib.Core.List.{List}
use mathlib.Core.Logic.{◌↔◌}
use Prim.Native.Nat.{ℕ, ◌≤◌, ◌<◌}
use native.Mathlib.Omega.{arith}
use lib.Dec.{ltb}
use lib.IntN.{ℤ, pos, ◌-ℤ◌}
use lib.ListN.{length}
use borrow.Author.Tests.{le-ltb, ltb-false}
use Rattle.refusal.specs.Number.{number_of}
use Rattle.refusal.specs.declared.Refusal.{Refusal}
use Rattle.signed.proofs.Tests.{to_false, left_out, right_out}
use Rattle.calendar.specs.Calendar.{date, date_of, exists, dropped, in_years}
use Rattle.calendar.specs.Answers.{is_month, is_month_day, is_possible, day_number, day_with}
use Rattle.calendar.specs.declared.Calendar.{Calendar}
use Rattle.calendar.specs.declared.Calendar.TheVariants.{NoLeap}
use Rattle.calendar.specs.declared.Date.{Date}
use Rattle.calendar.proofs.Existing.{dropped_not_there}
use Rattle.calendar.proofs.Answering.{DayOutcome, past, impossible, missing, was_dropped, there, day_outcome}
use Rattle.calendar.proofs.Possible.{month_of, day_of_lem, month_had, day_had, dropped_only, dropped_all}
use Rattle.calendar.proofs.Theorems.{Numbered, answered}
use Rattle.instant.specs.Instant.{day_of, time_of, in_range, instant_at, fields_at, fields_answer, date_in, is_clock, clock_time, with_clock, instant_with}
use Rattle.instant.specs.declared.Fields.{Fields}
use Rattle.instant.proofs.Theorems.{time_small, shown, refused_as_date, fields_had, fields_of_instant}
use Rattle.calendar.specs.Cutover.{first_cutover}
use Rattle.cutover.proofs.Theorems.{noleap, any_cutover}
use Rattle.named_text.specs.Texts.{named_calendar}
use Rattle.grammar.specs.Grammar.{Derives}
use Rattle.date_text.specs.DateRule.{date_rule}
use Rattle.date_text.specs.declared.WrittenDate.{WrittenDate}
use Rattle.date_text.specs.declared.Zone.{Zone}
use Rattle.units_text.specs.UnitsRule.{units}
use Rattle.units_text.specs.declared.Units.{Units}
use Rattle.units_text.proofs.Texts.{date_at_end}
use Rattle.written_instant.specs.Instants.{local_fields, is_zone, ahead, less_zone, written_instant}
use Rattle.written_instant.proofs.Order.{year_derived, possible_written, local_instant, written_in}
use Rattle.axis_text.specs.Units.{axis_at}
use Rattle.codes.specs.Codes.{calendar_code}
use Rattle.uppinalo.specs.Given.{GivenCalendar, GivenAxis, axis_codes}
use Rattle.uppinalo.specs.Days.{of_day, of_fields, uppinalo_day_of_date, uppinalo_fields_of}
use Rattle.uppinalo.specs.Offsets.{uppinalo_write_fields}
use Rattle.uppinalo.specs.Texts.{of_instant, of_axis, uppinalo_read_iso, uppinalo_read_units}
use Rattle.uppinalo.specs.declared.days.UppinaloDayAnswer.{UppinaloDayAnswer}
use Rattle.uppinalo.specs.declared.offsets.UppinaloOffsetAnswer.{UppinaloOffsetAnswer}
use Rattle.uppinalo.specs.declared.texts.UppinaloReading.{UppinaloReading}
use Rattle.uppinalo.specs.declared.texts.UppinaloAxisAnswer.{UppinaloAxisAnswer}
use Rattle.uppinalo.specs.RefusedDates.{NoInstant, ImpossibleDate, by_month, by_day, ImpossibleFields, by_date, by_hour, by_minute, by_second, by_microsecond, ImpossibleWritten, by_fields, by_zone_hour, by_zone_minute, DroppedDay, WhyRefused, RefusedDates}
use Rattle.uppinalo.proofs.Boundary.{day_is, fields_is, fields_shown}
use Rattle.uppinalo.proofs.Writings.{refused_fields, fields_written}
use Rattle.uppinalo.proofs.Derived.{texts}

-- ---- the days that were dropped

module _ (c : Calendar) (x : Date) where
  dropped_day : dropped c x ≡ true → DroppedDay c x
  dropped_day h = let w = dropped_only c x h in record { days = w.0; calendar = w.1; listed = w.2 }

  day_dropped : DroppedDay c x → dropped c x ≡ true
  day_dropped d = ap (λ (k : Calendar). dropped k x) d.calendar ∙ dropped_all d.days x d.listed

  not_dropped : exists c x ≡ true → DroppedDay c x → ⊥
  not_dropped h d = true≢false (sym h ∙ dropped_not_there c x (day_dropped d))

-- ---- by the outcome of the date, with what stands beside it

-- a number that is none of the three
abbrev Other : ℕ → Type 0
Other n = (n ≡ 4 → ⊥) × (n ≡ 12 → ⊥) × (n ≡ 13 → ⊥)

module _ (Impossible : Type 0) (rest : Bool) (c : Calendar) (x : Date) (n : ℕ)
    (says : ((rest && is_possible x.month x.day) ≡ false) ↔ Impossible)
    (inside : in_years x.year ≡ true)
    (refused : (r : Refusal) → Err r ≡ day_with rest c x → n ≡ number_of r)
    (given : Ok (day_number c x) ≡ day_with rest c x → Other n)
  where
    why : WhyRefused Impossible c x n
    why = go (day_outcome rest c x) refl
      where
        fine : (rest && is_possible x.month x.day) ≡ true → Impossible → ⊥
        fine p i = true≢false (sym p ∙ says.1 i)

        go : {a : Result ℤ Refusal} → DayOutcome rest c x a → a ≡ day_with rest c x → WhyRefused Impossible c x n
        go (past h) e = absurd (true≢false (sym inside ∙ h))
        go (impossible h p) e =
            let k = refused Refusal.ImpossibleField e in
            record { impossible = ((λ _. says.0 p), λ _. k); missing = ((λ j. absurd (omega (arith, k, j))), λ w. absurd (w.0 (says.0 p))); dropped = ((λ j. absurd (omega (arith, k, j))), λ w. absurd (w.0 (says.0 p))); there = not_dropped c x }
        go (missing h p g d) e =
            let k = refused Refusal.MissingDate e in
            let kept : DroppedDay c x → ⊥ = λ w. true≢false (sym (day_dropped c x w) ∙ d) in
            record { impossible = ((λ j. absurd (omega (arith, k, j))), λ i. absurd (fine p i)); missing = ((λ _. (fine p, g, kept)), λ _. k); dropped = ((λ j. absurd (omega (arith, k, j))), λ w. absurd (kept w.1)); there = not_dropped c x }
        go (was_dropped h p g d) e =
            let k = refused Refusal.DroppedDate e in
            record { impossible = ((λ j. absurd (omega (arith, k, j))), λ i. absurd (fine p i)); missing = ((λ j. absurd (omega (arith, k, j))), λ w. absurd (w.2 (dropped_day c x d))); dropped = ((λ _. (fine p, dropped_day c x d)), λ _. k); there = not_dropped c x }
        go (there h p g) e =
            let o = given e in
            record { impossible = ((λ j. absurd (o.0 j)), λ i. absurd (fine p i)); missing = ((λ j. absurd (o.1 j)), λ w. absurd (true≢false (sym g ∙ w.1))); dropped = ((λ j. absurd (o.2 j)), λ w. absurd (not_dropped c x g w.1)); there = not_dropped c x }

-- ---- what no date has

-- a month or a day to which its test says no is one that no date has, and the other way round
module _ (x : Date) where
  pub date_told : (is_possible x.month x.day ≡ false) ↔ ImpossibleDate x
  date_told = (told (is_month x.month) (is_month_day x.day) refl refl, back)
    where
      told : (a b : Bool) → is_month x.month ≡ a → is_month_day x.day ≡ b → (a && b) ≡ false → ImpossibleDate x
      told false b e f h = by_month (λ c y g k. true≢false (sym (month_of c y g) ∙ (ap is_month k ∙ e)))
      told true false e f h = by_day (λ c y g k. true≢false (sym (day_of_lem c y g) ∙ (ap is_month_day k ∙ f)))
      told true true e f h = absurd (true≢false h)

      back : ImpossibleDate x → is_possible x.month x.day ≡ false
      back (by_month none) = left_out (is_month x.month) (is_month_day x.day) (to_false (is_month x.month) (λ h. none NoLeap (date (pos 2000) x.month 1) (month_had x.month h) refl))
      back (by_day none) = right_out (is_month x.month) (is_month_day x.day) (to_false (is_month_day x.day) (λ h. none NoLeap (date (pos 2000) 1 x.day) (day_had x.day h) refl))

-- a time of day on 2000-01-01 is shown by an instant
abbrev on_new_year : ℕ → ℕ → ℕ → ℕ → Fields
on_new_year h m s u = record { year = pos 2000; month = 1; day = 1; hour = h; minute = m; second = s; microsecond = u }

abbrev given_no_leap : GivenCalendar
given_no_leap = record { calendar = NoLeap; cutover = first_cutover; carries = any_cutover NoLeap noleap first_cutover }

time_had : (h m s u : ℕ) → is_clock (on_new_year h m s u) ≡ true → (t : ℤ) × (uppinalo_fields_of (calendar_code NoLeap) first_cutover t ≡ record { number = 0; fields = on_new_year h m s u })
time_had h m s u k =
    let f = on_new_year h m s u in
    let t = instant_at (day_number NoLeap (date_in f)) (clock_time f) in
    (t, fields_is given_no_leap t ∙ ap of_fields (fields_of_instant NoLeap f t (sym (fields_had NoLeap f refl (day_had 1 refl) k))))

-- no instant shows a field of the time of day past its bound
module _ (field : Fields → ℕ) (bound : ℕ) (below : (d : Date) (s : ℕ) → s < 86400000000 → field (fields_at d s) < bound) where
  none_past : (n : ℕ) → ltb n bound ≡ false → NoInstant field n
  none_past n e g t f h k =
      let c = g.calendar in
      let v = shown c t f (fields_shown (fields_answer c t) f (sym (fields_is g t) ∙ h)) in
      let l = below (date_of c (day_of t)) (time_of t) (time_small t) in
      let is : field (fields_at (date_of c (day_of t)) (time_of t)) ≡ n = ap field v.is ∙ k in
      omega (arith, l, is, ltb-false n bound e)

module _ (f : Fields) where
  abbrev all_possible : Bool
  all_possible = is_clock f && is_possible f.month f.day

  -- a field of the time of day that no instant shows is past its bound
  shown_by : (field : Fields → ℕ) (g : Fields) (b : Bool) → NoInstant field (field g) → (b ≡ true → (t : ℤ) × (uppinalo_fields_of (calendar_code NoLeap) first_cutover t ≡ record { number = 0; fields = g })) → b ≡ false
  shown_by field g b none had = to_false b (λ e. let w = had e in none given_no_leap w.0 g w.1 refl)

  fields_told : (all_possible ≡ false) ↔ ImpossibleFields f
  fields_told = (go (ltb f.hour 24) (ltb f.minute 60) (ltb f.second 60) (ltb f.microsecond 1000000) refl refl refl refl, back)
    where
      go : (h m s u : Bool) → ltb f.hour 24 ≡ h → ltb f.minute 60 ≡ m → ltb f.second 60 ≡ s → ltb f.microsecond 1000000 ≡ u → (((h && m) && (s && u)) && is_possible f.month f.day) ≡ false → ImpossibleFields f
      go false m s u a b c d e = by_hour (none_past (λ (g : Fields). g.hour) 24 (λ d s l. omega arith) f.hour a)
      go true false s u a b c d e = by_minute (none_past (λ (g : Fields). g.minute) 60 (λ d s l. omega arith) f.minute b)
      go true true false u a b c d e = by_second (none_past (λ (g : Fields). g.second) 60 (λ d s l. omega arith) f.second c)
      go true true true false a b c d e = by_microsecond (none_past (λ (g : Fields). g.microsecond) 1000000 (λ d s l. omega arith) f.microsecond d)
      go true true true true a b c d e = by_date ((date_told (date_in f)).0 e)

      back : ImpossibleFields f → all_possible ≡ false
      back (by_date i) = right_out (is_clock f) (is_possible f.month f.day) ((date_told (date_in f)).1 i)
      back (by_hour none) = rw (shown_by (λ (g : Fields). g.hour) (on_new_year f.hour 0 0 0) (ltb f.hour 24) none (λ e. time_had f.hour 0 0 0 (rw e)))
      back (by_minute none) = rw (shown_by (λ (g : Fields). g.minute) (on_new_year 0 f.minute 0 0) (ltb f.minute 60) none (λ e. time_had 0 f.minute 0 0 (rw e)), and-false (ltb f.hour 24))
      back (by_second none) = rw (shown_by (λ (g : Fields). g.second) (on_new_year 0 0 f.second 0) (ltb f.second 60) none (λ e. time_had 0 0 f.second 0 (rw e)), and-false (ltb f.hour 24 && ltb f.minute 60))
      back (by_microsecond none) = rw (shown_by (λ (g : Fields). g.microsecond) (on_new_year 0 0 0 f.microsecond) (ltb f.microsecond 1000000) none (λ e. time_had 0 0 0 f.microsecond (rw e)), and-false (ltb f.second 60), and-false (ltb f.hour 24 && ltb f.minute 60))

module _ (w : WrittenDate) where
  abbrev zone : Zone
  zone = w.time.zone

  written_told : (possible_written w ≡ false) ↔ ImpossibleWritten w
  written_told = (go (ltb zone.hours 24) (ltb zone.minutes 60) refl refl, back)
    where
      go : (h m : Bool) → ltb zone.hours 24 ≡ h → ltb zone.minutes 60 ≡ m → (((h && m) && is_clock (local_fields w)) && is_possible w.month w.day) ≡ false → ImpossibleWritten w
      go false m a b e = by_zone_hour (omega (arith, ltb-false zone.hours 24 a))
      go true false a b e = by_zone_minute (omega (arith, ltb-false zone.minutes 60 b))
      go true true a b e = by_fields ((fields_told (local_fields w)).0 e)

      back : ImpossibleWritten w → possible_written w ≡ false
      back (by_fields i) = inner (is_zone zone) ((fields_told (local_fields w)).1 i)
        where
          inner : (z : Bool) → (is_clock (local_fields w) && is_possible w.month w.day) ≡ false → ((z && is_clock (local_fields w)) && is_possible w.month w.day) ≡ false
          inner true e = e
          inner false e = refl
      back (by_zone_hour l) = rw (le-ltb zone.hours 24 l)
      back (by_zone_minute l) = rw (le-ltb zone.minutes 60 l, and-false (ltb zone.hours 24))

-- ---- the calls

date_why : (g : GivenCalendar) (x : Date) → in_years x.year ≡ true → WhyRefused (ImpossibleDate x) g.calendar x (uppinalo_day_of_date (calendar_code g.calendar) g.cutover x).number
date_why g x h =
    why (ImpossibleDate x) true c x (uppinalo_day_of_date (calendar_code c) g.cutover x).number (date_told x) h (λ r e. number_is (Err r) e)
    (λ e. let k = number_is (Ok (day_number c x)) e in ((λ j. omega (arith, k, j)), (λ j. omega (arith, k, j)), λ j. omega (arith, k, j)))
  where
    c : Calendar
    c = g.calendar

    number_is : (a : Result ℤ Refusal) → a ≡ day_with true c x → (uppinalo_day_of_date (calendar_code c) g.cutover x).number ≡ (of_day a).number
    number_is a e = ap (λ (k : UppinaloDayAnswer). k.number) (day_is g x) ∙ ap (λ (k : Result ℤ Refusal). (of_day k).number) (sym e)

fields_why : (a : GivenAxis) (f : Fields) → in_range a.calendar a.reference ≡ true → in_years f.year ≡ true → WhyRefused (ImpossibleFields f) a.calendar (date_in f) (uppinalo_write_fields (axis_codes a) f).number
fields_why a f g h =
    why (ImpossibleFields f) (is_clock f) a.calendar (date_in f) (uppinalo_write_fields (axis_codes a) f).number (fields_told f) h
    (λ r e. ap (λ (k : UppinaloOffsetAnswer). k.number) (refused_fields a g f r (sym (refused_as_date true a.calendar f r e))))
    (λ e. written (answered (is_clock f) a.calendar (date_in f) (day_number a.calendar (date_in f)) e))
  where
    written : Numbered (is_clock f) a.calendar (date_in f) (day_number a.calendar (date_in f)) → Other (uppinalo_write_fields (axis_codes a) f).number
    written n =
        let w = fields_written a g f (record { year = h; there = n.there; clock = n.beside }) in
        let no : (k : ℕ) → (k ≡ 6 → ⊥) → (k ≡ 0 → ⊥) → (uppinalo_write_fields (axis_codes a) f).number ≡ k → ⊥ = λ k p q j. q (sym j ∙ (w.written (λ s. p (sym j ∙ s))).0) in
        (no 4 (λ j. omega (arith, j)) (λ j. omega (arith, j)), no 12 (λ j. omega (arith, j)) (λ j. omega (arith, j)), no 13 (λ j. omega (arith, j)) (λ j. omega (arith, j)))

-- a text whose number is that of the instant of its date
module _ (c : Calendar) (w : WrittenDate) (number : Result ℤ Refusal → ℕ) (of-refused : (r : Refusal) → number (Err r) ≡ number_of r) (of_instant_lem : (t : ℤ) → number (Ok t) ≡ 0) (short : w.year ≤ 9999) where
  written_why : WhyRefused (ImpossibleWritten w) c (date_in (local_fields w)) (number (written_instant c w))
  unfolding written_instant instant_with
  written_why =
      why (ImpossibleWritten w) (is_zone w.time.zone && is_clock (local_fields w)) c (date_in (local_fields w)) (number (written_instant c w)) (written_told w) (written_in w short)
      (λ r e. ap through (sym e) ∙ of-refused r)
      (λ e. subst Other (ap through e) (ranged_other (in_range c at)))
    where
      through : Result ℤ Refusal → ℕ
      through a = number (less_zone c w.time.zone (with_clock a (local_fields w)))

      at : ℤ
      at = local_instant c w -ℤ ahead w.time.zone

      ranged_other : (b : Bool) → Other (number (cond b (Ok at) (Err Refusal.OutOfRange)))
      ranged_other true = let k = of_instant_lem at in ((λ j. omega (arith, k, j)), (λ j. omega (arith, k, j)), λ j. omega (arith, k, j))
      ranged_other false = let k = of-refused Refusal.OutOfRange in ((λ j. omega (arith, k, j)), (λ j. omega (arith, k, j)), λ j. omega (arith, k, j))

module _ (name : List ℕ) (cutover : Date) (text : List ℕ) (c : Calendar) (l : length text ≤ 128) (n : named_calendar name cutover ≡ Ok c) where
  units_why : (u : Units) → Derives units text u → WhyRefused (ImpossibleWritten u.reference) c (date_in (local_fields u.reference)) (uppinalo_read_units name cutover text).number
  units_why u d =
      subst (WhyRefused (ImpossibleWritten u.reference) c (date_in (local_fields u.reference))) (sym (ap (λ (a : UppinaloAxisAnswer). a.number) ((texts name cutover text c l n).units_read u d)))
      (written_why c u.reference (λ (a : Result ℤ Refusal). (of_axis (axis_at c u a) cutover).number) (λ r. refl) (λ t. refl) (let q = date_at_end text u d in year_derived q.0 u.reference q.1))

  iso_why : (w : WrittenDate) → Derives date_rule text w → WhyRefused (ImpossibleWritten w) c (date_in (local_fields w)) (uppinalo_read_iso name cutover text).number
  iso_why w d =
      subst (WhyRefused (ImpossibleWritten w) c (date_in (local_fields w))) (sym (ap (λ (a : UppinaloReading). a.number) ((texts name cutover text c l n).iso_read w d)))
      (written_why c w (λ (a : Result ℤ Refusal). (of_instant a).number) (λ r. refl) (λ t. refl) (year_derived text w d))

pub refused_dates : RefusedDates
refused_dates = record { day_of_date = date_why; write_fields = fields_why; read_units_lem = λ name cutover text c u l n d. units_why name cutover text c l n u d; read_iso_lem = λ name cutover text c w l n d. iso_why name cutover text c l n w d }
