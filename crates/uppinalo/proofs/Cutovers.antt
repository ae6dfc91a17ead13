-- What a cutover changes, of the calls.
use Rattle.std.specs.Prelude.{Result, Ok, Err, Option as Answer, Some, None}
use mathlib.Core.Path.{◌≡◌, refl, sym, ap, subst, ◌∙◌}
use mathlib.Core.Bool.{Bool, true, false, cond}
use mathlib.Core.List.{List}
use mathlib.Core.Logic.{◌↔◌}
use mathlib.Core.Option.{Option, none, some}
use Prim.Native.Nat.{ℕ, zero, suc, ◌≤◌}
use native.Mathlib.Omega.{arith}
use lib.Dec.{leb, ltb}
use lib.IntN.{ℤ}
use lib.ListN.{length, take}
use Rattle.refusal.specs.declared.Refusal.{Refusal}
use Rattle.refusal.specs.declared.Refusal.TheVariants.{NoRoom, CutoverNotAllowed}
use Rattle.calendar.specs.Answers.{date_answer, day_answer}
use Rattle.calendar.specs.Calendar.{date_of, in_years}
use Rattle.calendar.specs.Cutover.{cutover_after, cutover_days, allowed}
use Rattle.calendar.specs.declared.Calendar.{Calendar}
use Rattle.calendar.specs.declared.Calendar.TheVariants.{Standard, ProlepticGregorian, Julian, NoLeap, AllLeap, Day360}
use Rattle.calendar.specs.declared.Date.{Date}
use Rattle.calendar.proofs.Answering.{DayOutcome, past, impossible, missing, was_dropped, there, day_outcome}
use Rattle.instant.specs.Instant.{day_of, time_of, fields_at, with_time, fields_answer}
use Rattle.cutover.specs.Calendars.{with_cutover, Carries}
use Rattle.cutover.proofs.Theorems.{allowed_with, refused_else, allowed_carried, cutover_kept}
use Rattle.cutover.proofs.Days.{is_cutover}
use Rattle.axis_types.specs.declared.Mode.{Mode}
use Rattle.axis_types.specs.declared.Period.{Period}
use Rattle.calendar_name.specs.Names.{calendar_of}
use Rattle.grammar.specs.Reader.{read}
use Rattle.named_text.specs.Texts.{too_long, of_name, named_calendar, text_calendar, by_value, in_calendar, read_text}
use Rattle.named_text.proofs.Laws.{text_named}
use Rattle.date_text.specs.DateRule.{date_rule}
use Rattle.date_text.specs.declared.WrittenDate.{WrittenDate}
use Rattle.units_text.specs.UnitsRule.{units}
use Rattle.units_text.specs.declared.Units.{Units}
use Rattle.written_instant.specs.Instants.{written_instant}
use Rattle.written_instant.proofs.Order.{written_outcome}
use Rattle.iso_form.specs.Form.{length_answer}
use Rattle.iso_text.specs.Iso.{text_of, iso_length, write_iso, read_iso}
use Rattle.axis_text.specs.Units.{axis_at, axis_of, read_units}
use Rattle.codes.specs.Codes.{coded_calendar, calendar_given, coded_period, coded_mode, axis_in, axis_with, coded_axis}
use Rattle.codes.specs.declared.UppinaloAxis.{UppinaloAxis}
use Rattle.units_fragments.specs.Fragments.{is_open}
use Rattle.units_fragments.specs.declared.UnitsState.{UnitsState}
use Rattle.uppinalo.specs.Days.{of_date, of_day, of_fields, date_by_code, day_by_code, fields_by_code}
use Rattle.uppinalo.specs.Texts.{no_axis, of_instant, of_axis, of_length, length_by_code, room_by_code, uppinalo_read_iso, uppinalo_read_units}
use Rattle.uppinalo.specs.Fragments.{uppinalo_end_units}
use Rattle.uppinalo.specs.Cutovers.{ByCutover, OnlyNotAllowed, Refused16, with_date, SameAxis, NoMatter, Cutovers}
use Rattle.axis_types.specs.declared.Axis.{Axis}

-- ---- `standard` goes by its cutover

by_cutover : (cutover : Date) → ByCutover cutover
by_cutover cutover =
    record {
      taken = allowed_carried cutover;
      not_taken = λ h k c. let z = sym (refused_else k cutover h) ∙ c in absurd (let o : ◌≡◌ {A = ℕ} 0 1 = cc in omega arith);
      first = λ k c. let w = cutover_kept k cutover c in (first_is k c, w.first);
      last = λ k c. (cutover_kept k cutover c).last;
    }
  where
    first_is : (k : ℕ) → Carries (Standard k) cutover → cutover_after (cutover_days cutover) ≡ cutover
    first_is k c = go (allowed cutover) refl
      where
        go : (t : Bool) → allowed cutover ≡ t → cutover_after (cutover_days cutover) ≡ cutover
        go true h = (is_cutover cutover h).is
        go false h = let z = sym (refused_else k cutover h) ∙ c in absurd (let o : ◌≡◌ {A = ℕ} 0 1 = cc in omega arith)

-- ---- 16 exactly for a cutover that is not allowed

-- no other refusal of a date, of a day number or of a text is 16
abbrev Not16 : ℕ → Type 0
Not16 n = n ≡ 16 → ⊥

not_date : (c : Calendar) (n : ℤ) → Not16 (of_date (date_answer c n)).number
unfolding date_answer
not_date c n = go (in_years (date_of c n).year)
  where
    go : (b : Bool) → Not16 (of_date (cond b (Ok (date_of c n)) (Err Refusal.OutOfRange))).number
    go true h = omega arith
    go false h = omega arith

not_day : (c : Calendar) (x : Date) → Not16 (of_day (day_answer c x)).number
not_day c x = go (day_outcome true c x)
  where
    go : {a : Result ℤ Refusal} → DayOutcome true c x a → Not16 (of_day a).number
    go (past h) e = omega arith
    go (impossible h p) e = omega arith
    go (missing h p g d) e = omega arith
    go (was_dropped h p g d) e = omega arith
    go (there h p g) e = omega arith

not_fields : (c : Calendar) (t : ℤ) → Not16 (of_fields (fields_answer c t)).number
unfolding fields_answer date_answer
not_fields c t = go (in_years (date_of c (day_of t)).year)
  where
    go : (b : Bool) → Not16 (of_fields (with_time (cond b (Ok (date_of c (day_of t))) (Err Refusal.OutOfRange)) (time_of t))).number
    go true h = omega arith
    go false h = omega arith

not_length : (c : Calendar) (t : ℤ) (room : List ℕ) → Not16 (of_length (write_iso c t room)).number
unfolding write_iso fields_answer date_answer length_answer
not_length c t room = go (in_years (date_of c (day_of t)).year)
  where
    fits : (text : List ℕ) (b : Bool) → Not16 (of_length (cond b (Ok (length text)) (Err NoRoom))).number
    fits text true h = omega arith
    fits text false h = omega arith

    go : (b : Bool) → Not16 (of_length (iso_length (with_time (cond b (Ok (date_of c (day_of t))) (Err Refusal.OutOfRange)) (time_of t)) room)).number
    go true = let text = text_of (fields_at (date_of c (day_of t)) (time_of t)) in fits text (leb (length text) (length room))
    go false = λ h. omega arith

-- by the calendar that is given
module _ (cutover : Date) (number : Result Calendar Refusal → ℕ) (k : ℕ) (not_16 : (c : Calendar) → Not16 (number (Ok c))) (is-16 : number (Err CutoverNotAllowed) ≡ 16) where
  only_not_allowed : OnlyNotAllowed (number (with_cutover (Standard k) cutover)) cutover
  only_not_allowed = ((λ h. go (allowed cutover) refl h), λ h. ap number (refused_else k cutover h) ∙ is-16)
    where
      go : (t : Bool) → allowed cutover ≡ t → number (with_cutover (Standard k) cutover) ≡ 16 → t ≡ false
      go true e h = absurd (not_16 (Standard (cutover_days cutover)) (sym (ap number (allowed_with k cutover e)) ∙ h))
      go false e h = refl

-- texts
module _ (cutover : Date) (name text : List ℕ) (k : ℕ) (l : length text ≤ 128) (n : calendar_of name ≡ some (Standard k)) where
  named : text_calendar name cutover text ≡ with_cutover (Standard k) cutover
  named = sym (text_named name cutover text (with_cutover (Standard k) cutover) l (ap (λ (o : Option Calendar). of_name o cutover) n))

  abbrev units_in : Result Calendar Refusal → ℕ
  units_in q = (of_axis (in_calendar Err axis_of q (read units text)) cutover).number

  not_units : (c : Calendar) → Not16 (units_in (Ok c))
  not_units c = go (read units text)
    where
      go : (o : Option Units) → Not16 (of_axis (by_value Err (axis_of c) o) cutover).number
      go none = λ h. omega arith
      go (some u) = written_outcome c u.reference (λ (a : Result ℤ Refusal). Not16 (of_axis (axis_at c u a) cutover).number) (λ t _ h. omega arith) (λ h. omega arith) (λ h. omega arith) (λ h. omega arith) (λ h. omega arith)

  units_16 : OnlyNotAllowed (uppinalo_read_units name cutover text).number cutover
  unfolding read_units read_text
  units_16 = subst (λ (q : Result Calendar Refusal). OnlyNotAllowed (units_in q) cutover) (sym named) (only_not_allowed cutover units_in k not_units refl)

  abbrev iso_in : Result Calendar Refusal → ℕ
  iso_in q = (of_instant (in_calendar Err written_instant q (read date_rule text))).number

  not_iso : (c : Calendar) → Not16 (iso_in (Ok c))
  not_iso c = go (read date_rule text)
    where
      go : (o : Option WrittenDate) → Not16 (of_instant (by_value Err (written_instant c) o)).number
      go none = λ h. omega arith
      go (some w) = written_outcome c w (λ (a : Result ℤ Refusal). Not16 (of_instant a).number) (λ t _ h. omega arith) (λ h. omega arith) (λ h. omega arith) (λ h. omega arith) (λ h. omega arith)

  iso_16 : OnlyNotAllowed (uppinalo_read_iso name cutover text).number cutover
  unfolding read_iso read_text
  iso_16 = subst (λ (q : Result Calendar Refusal). OnlyNotAllowed (iso_in q) cutover) (sym named) (only_not_allowed cutover iso_in k not_iso refl)

-- an axis
axis_16 : (cutover : Date) (a : UppinaloAxis) (p : Period) (m : Mode) → a.calendar ≡ 0 → a.cutover ≡ cutover → coded_period a.period ≡ Some p → coded_mode a.mode ≡ Some m → (coded_axis a ≡ Err CutoverNotAllowed) ↔ (allowed cutover ≡ false)
unfolding coded_axis
axis_16 cutover a p m e f g h = ((λ r. go (allowed cutover) refl (sym is ∙ r)), λ t. is ∙ ap (λ (q : Result Calendar Refusal). axis_in q p m a) (refused_else 0 cutover t))
  where
    is : coded_axis a ≡ axis_in (with_cutover (Standard 0) cutover) p m a
    is = (λ i. axis_with (coded_calendar (e i)) (g i) (h i) a) ∙ ap (λ (x : Date). axis_in (with_cutover (Standard 0) x) p m a) f

    go : (t : Bool) → allowed cutover ≡ t → axis_in (with_cutover (Standard 0) cutover) p m a ≡ Err CutoverNotAllowed → t ≡ false
    go true t r = let z = sym (ap (λ (q : Result Calendar Refusal). axis_in q p m a) (allowed_with 0 cutover t)) ∙ r in absurd (let o : ◌≡◌ {A = ℕ} 0 1 = cc in omega arith)
    go false t r = refl

refused_16 : (cutover : Date) → Refused16 cutover
refused_16 cutover =
    record {
      date_of_day = λ n. only_not_allowed cutover (λ (q : Result Calendar Refusal). (date_by_code q n).number) 0 (λ c. not_date c n) refl;
      day_of_date = λ x. only_not_allowed cutover (λ (q : Result Calendar Refusal). (day_by_code q x).number) 0 (λ c. not_day c x) refl;
      fields_of = λ t. only_not_allowed cutover (λ (q : Result Calendar Refusal). (fields_by_code q t).number) 0 (λ c. not_fields c t) refl;
      write_iso_lem = λ t room. only_not_allowed cutover (λ (q : Result Calendar Refusal). (length_by_code q t room).number) 0 (λ c. not_length c t room) refl;
      read_units_lem = λ name text k l n. units_16 cutover name text k l n;
      read_iso_lem = λ name text k l n. iso_16 cutover name text k l n;
      axis = axis_16 cutover;
    }

-- ---- another calendar

module _ (x y : Date) where
  same_calendar : (c : Calendar) → ((k : ℕ) → c ≡ Standard k → ⊥) → with_cutover c x ≡ with_cutover c y
  unfolding with_cutover
  same_calendar (Standard k) h = absurd (h k refl)
  same_calendar ProlepticGregorian h = refl
  same_calendar Julian h = refl
  same_calendar NoLeap h = refl
  same_calendar AllLeap h = refl
  same_calendar Day360 h = refl

  same_given : (n : ℕ) → (n ≡ 0 → ⊥) → calendar_given n x ≡ calendar_given n y
  unfolding with_cutover
  same_given zero h = absurd (h refl)
  same_given (suc zero) h = refl
  same_given (suc (suc zero)) h = refl
  same_given (suc (suc (suc zero))) h = refl
  same_given (suc (suc (suc (suc zero)))) h = refl
  same_given (suc (suc (suc (suc (suc zero))))) h = refl
  same_given (suc (suc (suc (suc (suc (suc n)))))) h = refl

  same_axis : (a : UppinaloAxis) → (a.calendar ≡ 0 → ⊥) → coded_axis (with_date a x) ≡ coded_axis (with_date a y)
  unfolding coded_axis with_cutover
  same_axis a h = go a.calendar h (coded_period a.period) (coded_mode a.mode)
    where
      go : (n : ℕ) → (n ≡ 0 → ⊥) → (p : Answer Period) (m : Answer Mode) → axis_with (coded_calendar n) p m (with_date a x) ≡ axis_with (coded_calendar n) p m (with_date a y)
      go n g None m = by_period n
        where
          by_period : (n : ℕ) → axis_with (coded_calendar n) None m (with_date a x) ≡ axis_with (coded_calendar n) None m (with_date a y)
          by_period zero = refl
          by_period (suc zero) = refl
          by_period (suc (suc zero)) = refl
          by_period (suc (suc (suc zero))) = refl
          by_period (suc (suc (suc (suc zero)))) = refl
          by_period (suc (suc (suc (suc (suc zero))))) = refl
          by_period (suc (suc (suc (suc (suc (suc n)))))) = refl
      go n g (Some p) None = by_mode n
        where
          by_mode : (n : ℕ) → axis_with (coded_calendar n) (Some p) None (with_date a x) ≡ axis_with (coded_calendar n) (Some p) None (with_date a y)
          by_mode zero = refl
          by_mode (suc zero) = refl
          by_mode (suc (suc zero)) = refl
          by_mode (suc (suc (suc zero))) = refl
          by_mode (suc (suc (suc (suc zero)))) = refl
          by_mode (suc (suc (suc (suc (suc zero))))) = refl
          by_mode (suc (suc (suc (suc (suc (suc n)))))) = refl
      go zero g (Some p) (Some m) = absurd (g refl)
      go (suc zero) g (Some p) (Some m) = refl
      go (suc (suc zero)) g (Some p) (Some m) = refl
      go (suc (suc (suc zero))) g (Some p) (Some m) = refl
      go (suc (suc (suc (suc zero)))) g (Some p) (Some m) = refl
      go (suc (suc (suc (suc (suc zero))))) g (Some p) (Some m) = refl
      go (suc (suc (suc (suc (suc (suc n)))))) g (Some p) (Some m) = refl

  module _ (name : List ℕ) (h : (k : ℕ) → calendar_of name ≡ some (Standard k) → ⊥) where
    same_named : named_calendar name x ≡ named_calendar name y
    same_named = go (calendar_of name) refl
      where
        go : (o : Option Calendar) → calendar_of name ≡ o → of_name o x ≡ of_name o y
        go none e = refl
        go (some c) e = same_calendar c (λ k f. h k (e ∙ ap some f))

    same_text : (text : List ℕ) → text_calendar name x text ≡ text_calendar name y text
    unfolding text_calendar
    same_text text = ap (cond (too_long text) (Err Refusal.TextTooLong)) same_named

    same_answer : (a : Result Axis Refusal) → SameAxis (of_axis a x) (of_axis a y)
    same_answer (Ok a) = record { number = refl; axis = refl }
    same_answer (Err r) = record { number = refl; axis = refl }

    same_units : (text : List ℕ) → SameAxis (uppinalo_read_units name x text) (uppinalo_read_units name y text)
    unfolding read_units read_text
    same_units text =
        subst (λ (q : Result Calendar Refusal). SameAxis (of_axis (in_calendar Err axis_of (text_calendar name x text) (read units text)) x) (of_axis (in_calendar Err axis_of q (read units text)) y)) (same_text text)
        (same_answer (in_calendar Err axis_of (text_calendar name x text) (read units text)))

    same_end : (s : UnitsState) → SameAxis (uppinalo_end_units s name x) (uppinalo_end_units s name y)
    same_end s = go (is_open s) (ltb 128 s.count)
      where
        go : (a b : Bool) → SameAxis (cond a (cond b (no_axis Refusal.TextTooLong) (uppinalo_read_units name x (take s.count s.bytes))) (no_axis Refusal.NotOpen)) (cond a (cond b (no_axis Refusal.TextTooLong) (uppinalo_read_units name y (take s.count s.bytes))) (no_axis Refusal.NotOpen))
        go true true = record { number = refl; axis = refl }
        go true false = same_units (take s.count s.bytes)
        go false b = record { number = refl; axis = refl }

no_matter : (x y : Date) → NoMatter x y
unfolding read_iso read_text
no_matter x y =
    record {
      date_of_day = λ n h d. ap (λ (q : Result Calendar Refusal). date_by_code q d) (same_given x y n h);
      day_of_date = λ n h d. ap (λ (q : Result Calendar Refusal). day_by_code q d) (same_given x y n h);
      fields_of = λ n h t. ap (λ (q : Result Calendar Refusal). fields_by_code q t) (same_given x y n h);
      write_iso_lem = λ n h t room. (ap (λ (q : Result Calendar Refusal). length_by_code q t room) (same_given x y n h), ap (λ (q : Result Calendar Refusal). room_by_code q t room) (same_given x y n h));
      read_iso_lem = λ name h text. ap (λ (q : Result Calendar Refusal). of_instant (in_calendar Err written_instant q (read date_rule text))) (same_text x y name h text);
      read_units_lem = same_units x y;
      end_units = same_end x y;
      axis = same_axis x y;
    }

pub cutovers : Cutovers
cutovers = record { by_cutover = by_cutover; refused_16 = refused_16; no_matter = no_matter }
