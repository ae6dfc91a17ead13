-- The theorems about numbers of a datetime64 unit, over the definitions of specs/Numbers.antt, once over the unit's row.
-- Instants are those of `proleptic_gregorian`; n and m are 64-bit numbers.
--   written-reads     what is written reads as the instant, exactly
--   written-fits      and is a 64-bit number
--   read-writes       what reads as an instant is what the instant is written as
--   read-exact        every number that is read is exact
--   read-inside       an instant that is read lies in the range
--   one_number        two numbers that read as one instant are one number
--   only-inexact      an instant of the range is refused only as inexact
--   inexact-writing   and just where no 64-bit number reads as it
--   past-writing      an instant is refused as out of range just where it lies past the range
--   not-a-time-read   not-a-time, and no other number, is refused as such
--   unread            why another number is refused: `Unread`
--   year-read         a number of years that is read is 1 January of year 1970 + n, at midnight
--   month-read        a number of months that is read is the first of the month n months after January 1970, at midnight
use Rattle.std.specs.Prelude.{Result, Ok, Err}
use mathlib.Core.Path.{◌≡◌, refl, sym, ap, ◌∙◌, subst}
use mathlib.Core.Bool.{Bool, true, false, cond}
use mathlib.Core.Logic.{◌↔◌}
use Prim.Native.Nat.{ℕ, zero, suc, ◌≤◌}
use native.Mathlib.Omega.{arith}
use lib.IntN.{ℤ, pos, negsuc, ◌+ℤ◌, neg_ℤ, neg_ℤ-suc_ℤ, +ℤ-suc_ℤ, +ℤ-pred_ℤ}
use mir.Syntax.{w64}
use mir.Val.{SFits}
use Rattle.refusal.specs.declared.Refusal.{Refusal}
use Rattle.refusal.specs.declared.Refusal.TheVariants.{OutOfRange, Inexact, NotATime}
use Rattle.signed.proofs.Tests.{to_false}
use Rattle.calendar.specs.Calendar.{date, epoch, exists, times, year_after, year_before}
use Rattle.calendar.specs.declared.Calendar.TheVariants.{ProlepticGregorian}
use Rattle.calendar.specs.declared.Date.{Date}
use Rattle.calendar.proofs.Existing.{valid_of}
use Rattle.calendar.proofs.Theorems.{dates_exist}
use Rattle.instant.specs.Instant.{day_of, time_of, in_range}
use Rattle.step.specs.Steps.{YearMonth, year_month, step_after, step_before, steps, month_reached, down_to, date_after}
use Rattle.step.specs.declared.Part.{Part}
use Rattle.step.proofs.Theorems.{steps_exist}
use Rattle.axis_types.proofs.Answers.{one_reading}
use Rattle.axis_types.specs.Reading.{is_none, is_read, offset_refusal}
use Rattle.calendar_axis.specs.Steps.{date_at}
use Rattle.calendar_axis.proofs.Demands as Steps
use Rattle.datetime64_type.specs.Units.{unit_row_of}
use Rattle.datetime64_type.specs.declared.UnitCode.{UnitCode}
use Rattle.datetime64_type.specs.declared.UnitRow.{UnitRow}
use Rattle.datetime64_number.specs.Numbers.{is_not_a_time, read_by_row, read_number, write_by_row, write_number}
use Rattle.datetime64_number.proofs.Rows.{rows}
use Rattle.datetime64_number.proofs.Units as Units
use Rattle.datetime64_number.proofs.ByRow.{not_written, row_reads, row_time, row_writes, row_inside, row_inexact, Unread, other_reason, epoch_is, row_unread}

-- ---- calendar steps from January 1970

abbrev pub january1970 : YearMonth
january1970 = year_month (pos 1970) 1

abbrev pub first_of : YearMonth → Date
first_of p = date p.year p.month 1

epoch_there : exists ProlepticGregorian epoch ≡ true
epoch_there = ap (exists ProlepticGregorian) (sym epoch_is) ∙ dates_exist ProlepticGregorian (day_of (pos 0))

start_time : time_of (pos 0) ≡ 0
unfolding time_of
start_time = refl

-- from day 1 down there is only day 1
day_one : (y : ℤ) (m : ℕ) → 1 ≤ down_to ProlepticGregorian y m 1 → down_to ProlepticGregorian y m 1 ≡ 1
unfolding down_to
day_one y m = go (exists ProlepticGregorian (date y m 1))
  where
    go : (b : Bool) → 1 ≤ cond b 1 0 → ◌≡◌ {A = ℕ} (cond b 1 0) 1
    go true h = refl
    go false h = absurd (omega arith)

first_reached : (part : Part) (n : ℤ) → date_after part ProlepticGregorian n epoch ≡ first_of (month_reached part ProlepticGregorian n january1970)
unfolding date_after
first_reached part n =
    let p = month_reached part ProlepticGregorian n january1970 in
    ap (date p.year p.month) (day_one p.year p.month (valid_of ProlepticGregorian (date_after part ProlepticGregorian n epoch) (steps_exist part ProlepticGregorian epoch epoch_there n)).day_low)

years_on : (k : ℕ) → times k (step_after Part.Year ProlepticGregorian) january1970 ≡ year_month (pos 1970 +ℤ pos k) 1
unfolding times step_after year_after
years_on zero = refl
years_on (suc k) = ap (step_after Part.Year ProlepticGregorian) (years_on k) ∙ ap (λ (y : ℤ). year_month y 1) (sym (+ℤ-suc_ℤ (pos 1970) (pos k)))

years_back_lem : (k : ℕ) → times k (step_before Part.Year ProlepticGregorian) january1970 ≡ year_month (pos 1970 +ℤ neg_ℤ (pos k)) 1
unfolding times step_before year_before
years_back_lem zero = refl
years_back_lem (suc k) =
    ap (step_before Part.Year ProlepticGregorian) (years_back_lem k)
    ∙ ap (λ (y : ℤ). year_month y 1) (sym (+ℤ-pred_ℤ (pos 1970) (neg_ℤ (pos k))) ∙ ap (λ (z : ℤ). pos 1970 +ℤ z) (sym (neg_ℤ-suc_ℤ (pos k))))

years : (n : ℤ) → month_reached Part.Year ProlepticGregorian n january1970 ≡ year_month (pos 1970 +ℤ n) 1
unfolding steps
years (pos k) = years_on k
years (negsuc k) = years_back_lem (suc k)

-- t is the midnight at which the day d begins
pub record Midnight (d : Date) (t : ℤ) : Type 0 where
  pub date_is : date_at ProlepticGregorian t ≡ d
  pub time_is : time_of t ≡ 0

module _ (unit : UnitCode) where
  abbrev row : UnitRow
  row = unit_row_of unit

  read_row : (n t : ℤ) (exact : Bool) → read_number unit n ≡ Ok (t, exact) → (is_not_a_time n ≡ false) × (read_by_row row n ≡ Ok (t, exact))
  read_row n t exact e = let h = Units.read_time unit n (ap is_read e) in (h, sym (Units.read_by_row_lem unit n h) ∙ e)

  written_row : (t n : ℤ) → write_number unit t ≡ Ok n → (in_range ProlepticGregorian t ≡ true) × (write_by_row row t ≡ Ok n)
  written_row t n e = let i = Units.written_inside unit t (ap (λ (a : Result ℤ Refusal). is_none (offset_refusal a)) e) in (i, sym (Units.written_by_row unit t i) ∙ e)

  -- ---- there and back

  pub written_reads : (t n : ℤ) → write_number unit t ≡ Ok n → read_number unit n ≡ Ok (t, true)
  written_reads t n e =
      let w = written_row t n e in
      Units.read_by_row_lem unit n (row_time row t n w.0 w.1).1 ∙ row_reads row (rows unit) t n w.0 w.1

  pub written_fits : (t n : ℤ) → write_number unit t ≡ Ok n → SFits w64 n
  written_fits t n e = let w = written_row t n e in (row_time row t n w.0 w.1).0

  pub read_inside : (n t : ℤ) (exact : Bool) → read_number unit n ≡ Ok (t, exact) → in_range ProlepticGregorian t ≡ true
  read_inside n t exact e = row_inside row n t exact (read_row n t exact e).1

  pub read_writes : (n t : ℤ) (exact : Bool) → SFits w64 n → read_number unit n ≡ Ok (t, exact) → write_number unit t ≡ Ok n
  read_writes n t exact f e =
      let r = read_row n t exact e in
      Units.written_by_row unit t (read_inside n t exact e) ∙ row_writes row (rows unit) n t exact (f, r.0) r.1

  pub read_exact : (n t : ℤ) (exact : Bool) → SFits w64 n → read_number unit n ≡ Ok (t, exact) → exact ≡ true
  read_exact n t exact f e = (one_reading t t exact true (sym e ∙ written_reads t n (read_writes n t exact f e))).1

  pub one_number : (n m t : ℤ) (i j : Bool) → SFits w64 n → SFits w64 m → read_number unit n ≡ Ok (t, i) → read_number unit m ≡ Ok (t, j) → n ≡ m
  one_number n m t i j f g e h =
      let w = read_writes n t i f e in
      let v = read_writes m t j g h in
      (cc)

  -- ---- an instant that is refused

  pub only_inexact : (t : ℤ) (r : Refusal) → in_range ProlepticGregorian t ≡ true → write_number unit t ≡ Err r → r ≡ Inexact
  only_inexact t r i e = row_inexact row t r (sym (Units.written_by_row unit t i) ∙ e)

  pub inexact_writing : (t : ℤ) → in_range ProlepticGregorian t ≡ true → (write_number unit t ≡ Err Inexact) ↔ ((n : ℤ) → SFits w64 n → read_number unit n ≡ Ok (t, true) → ⊥)
  inexact_writing t i = ((λ e n f h. not_written Inexact n (sym (read_writes n t true f h) ∙ e)), go (write_number unit t) refl)
    where
      go : (a : Result ℤ Refusal) → write_number unit t ≡ a → ((n : ℤ) → SFits w64 n → read_number unit n ≡ Ok (t, true) → ⊥) → a ≡ Err Inexact
      go (Ok n) e none = absurd (none n (written_fits t n e) (written_reads t n e))
      go (Err r) e none = ap Err (only_inexact t r i e)

  pub past_writing : (t : ℤ) → (write_number unit t ≡ Err OutOfRange) ↔ (in_range ProlepticGregorian t ≡ false)
  past_writing t = ((λ e. to_false (in_range ProlepticGregorian t) (λ i. let h = only_inexact t OutOfRange i e in let k : ◌≡◌ {A = ℕ} 0 1 = cc in omega arith)), Units.instant_past unit t)

  -- ---- a number that is refused

  pub unread : (n : ℤ) (r : Refusal) → SFits w64 n → is_not_a_time n ≡ false → (read_number unit n ≡ Err r) ↔ Unread row n r
  unread n r f h =
      let b = Units.read_by_row_lem unit n h in
      let u = row_unread row (rows unit) n (f, h) r in
      ((λ e. u.0 (sym b ∙ e)), λ w. b ∙ u.1 w)

  pub not_a_time_read : (n : ℤ) → SFits w64 n → (read_number unit n ≡ Err NotATime) ↔ (is_not_a_time n ≡ true)
  unfolding read_number
  not_a_time_read n f = (go (is_not_a_time n) refl, λ h. ap (λ (b : Bool). cond b (Err NotATime) (read_by_row row n)) h)
    where
      go : (b : Bool) → is_not_a_time n ≡ b → read_number unit n ≡ Err NotATime → b ≡ true
      go true h e = refl
      go false h e = absurd (other_reason row n ((unread n NotATime f h).0 e))

  -- ---- calendar steps

  steps_first : (part : Part) → row ≡ UnitRow.Steps part → (n t : ℤ) (exact : Bool) → read_number unit n ≡ Ok (t, exact) → Midnight (first_of (month_reached part ProlepticGregorian n january1970)) t
  steps_first part s n t exact e =
      let h = (read_row n t exact e).0 in
      let m = Steps.moved part ProlepticGregorian (pos 0) n t exact (sym (Units.read_steps_lem unit part s n h) ∙ e) in
      record { date_is = m.date_is ∙ (ap (date_after part ProlepticGregorian n) epoch_is ∙ first_reached part n); time_is = m.time_is ∙ start_time }

pub year_read : (n t : ℤ) (exact : Bool) → read_number UnitCode.Year n ≡ Ok (t, exact) → Midnight (date (pos 1970 +ℤ n) 1 1) t
year_read n t exact e = subst (λ (p : YearMonth). Midnight (first_of p) t) (years n) (steps_first UnitCode.Year Part.Year refl n t exact e)

pub month_read : (n t : ℤ) (exact : Bool) → read_number UnitCode.Month n ≡ Ok (t, exact) → Midnight (first_of (month_reached Part.Month ProlepticGregorian n january1970)) t
month_read = steps_first UnitCode.Month Part.Month refl
