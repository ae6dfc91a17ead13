-- The order of the refusals of a date that is read: its year has at most four digits, so 4 is given exactly where some field of the date, the
-- time or the zone is one that no date has, then 12 or 13 exactly where the calendar lacks the date or dropped it, and then 5 exactly
-- where the instant after the zone lies past the years -9999 to 9999. Any date is given as an instant in those years, or refused with one of
-- the four.
use Rattle.std.specs.Prelude.{Result, Ok, Err}
use Prim.Native.Nat.{ℕ, zero, suc, ◌≤◌}
use native.Mathlib.Omega.{arith}
use mathlib.Core.Path.{◌≡◌, refl, sym, ap, ◌∙◌}
use mathlib.Core.Bool.{Bool, true, false, cond, ◌&&◌, true≢false}
use mathlib.Core.List.{List}
use lib.IntN.{ℤ, ◌-ℤ◌}
use borrow.Author.Tests.{le-leb}
use Rattle.refusal.specs.declared.Refusal.{Refusal}
use Rattle.grammar.specs.Grammar.{Derives}
use Rattle.grammar.proofs.Numerals.{number_below}
use Rattle.calendar.specs.Calendar.{exists, dropped, in_years}
use Rattle.calendar.specs.Answers.{is_possible, day_number}
use Rattle.calendar.specs.declared.Calendar.{Calendar}
use Rattle.calendar.specs.declared.Date.{Date}
use Rattle.calendar.proofs.Answering.{DayOutcome, past, impossible, missing, was_dropped, there, day_outcome}
use Rattle.instant.specs.Instant.{instant_at, in_range, date_in, is_clock, clock_time, with_clock, instant_with}
use Rattle.date_text.specs.declared.WrittenDate.{WrittenDate}
use Rattle.date_text.specs.DateRule.{date_rule}
use Rattle.signed.specs.Sign.{with_sign}
use Rattle.written_instant.specs.Instants.{local_fields, is_zone, ahead, ranged, less_zone, written_instant}

-- a date that the grammar derives has a year of at most four digits
pub year_derived : (s : List ℕ) (w : WrittenDate) → Derives date_rule s w → w.year ≤ 9999
unfolding Derives
year_derived s w (a, (p, q, f, d, (p1, q1, g, n, m)), x) = let h = number_below 4 p1 a.1.0 n in rw x (omega arith)

-- every field of the date, the time and the zone is possible
abbrev pub possible_written : WrittenDate → Bool
possible_written w = (is_zone w.time.zone && is_clock (local_fields w)) && is_possible w.month w.day

abbrev pub local_instant : Calendar → WrittenDate → ℤ
local_instant c w = instant_at (day_number c (date_in (local_fields w))) (clock_time (local_fields w))

signed_in : (b : Bool) (n : ℕ) → n ≤ 9999 → in_years (with_sign b n) ≡ true
signed_in true zero h = refl
signed_in true (suc n) h = rw (le-leb n 9998 (omega arith))
signed_in false n h = le-leb n 9999 h

pub written_in : (w : WrittenDate) → w.year ≤ 9999 → in_years (local_fields w).year ≡ true
written_in w h = signed_in w.negative w.year h

module _ (c : Calendar) (w : WrittenDate) where
  abbrev day : Date
  day = date_in (local_fields w)

  -- an instant that is read, less the zone
  abbrev at : ℤ
  at = local_instant c w -ℤ ahead w.time.zone

  pub written_order : w.year ≤ 9999 → written_instant c w ≡ cond (possible_written w) (cond (exists c day) (ranged c at) (Err (cond (dropped c day) Refusal.DroppedDate Refusal.MissingDate))) (Err Refusal.ImpossibleField)
  unfolding written_instant instant_with
  written_order h = go (day_outcome (is_zone w.time.zone && is_clock (local_fields w)) c day)
    where
      go : {a : Result ℤ Refusal} → DayOutcome (is_zone w.time.zone && is_clock (local_fields w)) c day a → less_zone c w.time.zone (with_clock a (local_fields w)) ≡ cond (possible_written w) (cond (exists c day) (ranged c at) (Err (cond (dropped c day) Refusal.DroppedDate Refusal.MissingDate))) (Err Refusal.ImpossibleField)
      go (past e) = absurd (true≢false (sym (written_in w h) ∙ e))
      go (impossible e p) = rw p
      go (missing e p g d) = rw (p, g, d)
      go (was_dropped e p g d) = rw (p, g, d)
      go (there e p g) = rw (p, g)

  -- ---- of any date

  -- a date as it is written is an instant in the years, or refused with 4, 12, 13 or 5
  pub written_outcome : (P : Result ℤ Refusal → Type 0) → ((t : ℤ) → in_range c t ≡ true → P (Ok t)) → P (Err Refusal.ImpossibleField) → P (Err Refusal.MissingDate) → P (Err Refusal.DroppedDate) → P (Err Refusal.OutOfRange) → P (written_instant c w)
  unfolding written_instant instant_with
  written_outcome P given mistyped lacking gone far = go (day_outcome (is_zone w.time.zone && is_clock (local_fields w)) c day)
    where
      in_range_lem : (u : ℤ) (b : Bool) → in_range c u ≡ b → P (cond b (Ok u) (Err Refusal.OutOfRange))
      in_range_lem u true e = given u e
      in_range_lem u false e = far

      go : {a : Result ℤ Refusal} → DayOutcome (is_zone w.time.zone && is_clock (local_fields w)) c day a → P (less_zone c w.time.zone (with_clock a (local_fields w)))
      go (past e) = far
      go (impossible e p) = mistyped
      go (missing e p g d) = lacking
      go (was_dropped e p g d) = gone
      go (there e p g) = in_range_lem at (in_range c at) refl

  pub written_inside : (t : ℤ) → written_instant c w ≡ Ok t → in_range c t ≡ true
  written_inside t =
      written_outcome (λ (a : Result ℤ Refusal). a ≡ Ok t → in_range c t ≡ true)
      (λ u e h. let k : u ≡ t = cc in ap (in_range c) (sym k) ∙ e)
      (not_given Refusal.ImpossibleField)
      (not_given Refusal.MissingDate)
      (not_given Refusal.DroppedDate)
      (not_given Refusal.OutOfRange)
    where
      not_given : (r : Refusal) → Err r ≡ Ok t → in_range c t ≡ true
      not_given r h = absurd (let k : ◌≡◌ {A = ℕ} 0 1 = cc in omega arith)
