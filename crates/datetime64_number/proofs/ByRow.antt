-- Numbers and instants of a unit by its row: reading undoes writing, writing undoes reading, and why a number or an instant is refused.
use Rattle.std.specs.Prelude.{Result, Ok, Err}
use mathlib.Core.Path.{◌≡◌, refl, sym, ap, ◌∙◌}
use mathlib.Core.Bool.{Bool, true, false, cond, false≢true}
use mathlib.Core.Logic.{◌↔◌}
use Prim.Native.Nat.{ℕ, ◌<◌}
use native.Mathlib.Omega.{arith}
use lib.IntN.{ℤ, pos, negsuc, ◌*ℤ◌}
use lib.Signed.{mag}
use mir.Syntax.{w64}
use mir.Val.{SFits}
use borrow.Author.Tests.{lt-ltb}
use Rattle.refusal.specs.declared.Refusal.{Refusal}
use Rattle.refusal.specs.declared.Refusal.TheVariants.{OutOfRange, Inexact, NotATime}
use Rattle.signed.proofs.Tests.{to_false}
use Rattle.calendar.specs.Calendar.{epoch, in_years, date_of, date_by, times}
use Rattle.calendar.specs.declared.Calendar.TheVariants.{ProlepticGregorian}
use Rattle.calendar.specs.declared.Date.{Date}
use Rattle.calendar.proofs.Theorems.{dates_exist}
use Rattle.instant.specs.Instant.{day_of, time_of, in_range}
use Rattle.instant.proofs.Range.{small}
use Rattle.step.specs.Steps.{date_after}
use Rattle.step.specs.declared.Part.{Part}
use Rattle.step.proofs.Theorems.{steps_exist}
use Rattle.fixed_axis.specs.Fixed.{reading_at, in_periods}
use Rattle.fixed_axis.proofs.Readings.{reading_of, settled, not_read}
use Rattle.fixed_axis.proofs.Offsets.{quotient_of, in_periods_lem, inexact}
use Rattle.calendar_axis.specs.Steps.{date_at, read_steps}
use Rattle.calendar_axis.proofs.Demands as Steps
use Rattle.datetime64_type.specs.declared.UnitRow.{UnitRow}
use Rattle.datetime64_number.specs.Numbers.{is_not_a_time, holds_time, count_read, read_by_row, number_written, write_by_row}
use Rattle.datetime64_number.proofs.Years.{epoch_in}
use Rattle.datetime64_number.proofs.Rows.{GoodRow, divisor}
use Rattle.datetime64_number.proofs.Ratios.{has_time, holds_fits, time_biased, quotient_inside}
use Rattle.axis_types.specs.Reading.{Reading}

-- ---- answers

not_refused : (r : Refusal) (t : ℤ) (i : Bool) → ◌≡◌ {A = Reading} (Ok (t, i)) (Err r) → ⊥
not_refused r t i e = not_read r t i (sym e)

pub not_written : (r : Refusal) (n : ℤ) → Ok n ≡ Err r → ⊥
not_written r n e = let k : ◌≡◌ {A = ℕ} 0 1 = cc in omega arith

only_left_over : (z : ℤ) (k : ℕ) (r : Refusal) → in_periods z k ≡ Err r → r ≡ Inexact
only_left_over z k r e = let q = inexact z k (λ n h. not_written r n (sym h ∙ e)) in cc

-- ---- numbers that hold a time

holds : (n : ℤ) → SFits w64 n → is_not_a_time n ≡ false → holds_time n ≡ true
holds (pos n) f h = lt-ltb n 9223372036854775808 f.sfits
holds (negsuc n) f h = lt-ltb n 9223372036854775807 (omega (arith, time_biased (negsuc n) f h))

-- a 64-bit number but not-a-time
abbrev pub Time : ℤ → Type 0
Time n = SFits w64 n × (is_not_a_time n ≡ false)

small_time : (n : ℤ) → mag n < 1000000000000000000 → Time n
small_time (pos n) h = (record { sfits = omega arith }, refl)
small_time (negsuc n) h = (record { sfits = omega arith }, has_time (negsuc n) (omega arith))

held : (z n : ℤ) → number_written z ≡ Ok n → (holds_time z ≡ true) × (z ≡ n)
held z n = go (holds_time z)
  where
    go : (b : Bool) → cond b (Ok z) (Err Inexact) ≡ Ok n → (b ≡ true) × (z ≡ n)
    go true e = (refl, cc)
    go false e = absurd (not_written Inexact n (sym e))

-- ---- by the row

pub row_reads : (row : UnitRow) → GoodRow row → (t n : ℤ) → in_range ProlepticGregorian t ≡ true → write_by_row row t ≡ Ok n → read_by_row row n ≡ Ok (t, true)
unfolding read_by_row write_by_row
row_reads (UnitRow.Steps part) g t n i e = Steps.written_reads part ProlepticGregorian (pos 0) t n i e
row_reads (UnitRow.Multiple k) g t n i e = ap (λ (z : ℤ). reading_at ProlepticGregorian z true) (quotient_of t k n e).is ∙ sym (settled ProlepticGregorian t true i)
row_reads (UnitRow.Fraction k) g t n i e =
    ap (λ (z : ℤ). count_read (in_periods z k)) (sym (held (t *ℤ pos k) n e).1) ∙ (ap count_read (in_periods_lem t k (divisor g)) ∙ sym (settled ProlepticGregorian t true i))

pub row_time : (row : UnitRow) (t n : ℤ) → in_range ProlepticGregorian t ≡ true → write_by_row row t ≡ Ok n → Time n
unfolding write_by_row
row_time (UnitRow.Steps part) t n i e = small_time n (omega (arith, Steps.written_near part ProlepticGregorian (pos 0) t n e))
row_time (UnitRow.Multiple k) t n i e = small_time n (omega (arith, (quotient_of t k n e).small, small ProlepticGregorian t i))
row_time (UnitRow.Fraction k) t n i e =
    let h = held (t *ℤ pos k) n e in
    let f = holds_fits n (ap holds_time (sym h.1) ∙ h.0) in
    (f.0, has_time n f.1)

pub row_writes : (row : UnitRow) → GoodRow row → (n t : ℤ) (exact : Bool) → Time n → read_by_row row n ≡ Ok (t, exact) → write_by_row row t ≡ Ok n
unfolding read_by_row write_by_row
row_writes (UnitRow.Steps part) g n t exact h e = Steps.read_writes part ProlepticGregorian (pos 0) n t exact epoch_in e
row_writes (UnitRow.Multiple k) g n t exact h e = ap (λ (z : ℤ). in_periods z k) (sym (reading_of ProlepticGregorian (n *ℤ pos k) t true exact e).is) ∙ in_periods_lem n k g
row_writes (UnitRow.Fraction k) g n t exact h e = go (in_periods n k) refl e
  where
    go : (a : Result ℤ Refusal) → in_periods n k ≡ a → count_read a ≡ Ok (t, exact) → number_written (t *ℤ pos k) ≡ Ok n
    go (Ok m) q e =
        ap number_written (ap (λ (z : ℤ). z *ℤ pos k) (sym (reading_of ProlepticGregorian m t true exact e).is) ∙ (quotient_of n k m q).is)
        ∙ ap (λ (b : Bool). cond b (Ok n) (Err Inexact)) (holds n h.0 h.1)
    go (Err r) q e = absurd (not_read r t exact e)

pub row_inside : (row : UnitRow) (n t : ℤ) (exact : Bool) → read_by_row row n ≡ Ok (t, exact) → in_range ProlepticGregorian t ≡ true
unfolding read_by_row
row_inside (UnitRow.Steps part) n t exact e = Steps.read_inside part ProlepticGregorian (pos 0) n t exact e
row_inside (UnitRow.Multiple k) n t exact e = (reading_of ProlepticGregorian (n *ℤ pos k) t true exact e).inside
row_inside (UnitRow.Fraction k) n t exact e = go (in_periods n k) e
  where
    go : (a : Result ℤ Refusal) → count_read a ≡ Ok (t, exact) → in_range ProlepticGregorian t ≡ true
    go (Ok m) e = (reading_of ProlepticGregorian m t true exact e).inside
    go (Err r) e = absurd (not_read r t exact e)

pub row_inexact : (row : UnitRow) (t : ℤ) (r : Refusal) → write_by_row row t ≡ Err r → r ≡ Inexact
unfolding write_by_row
row_inexact (UnitRow.Steps part) t r e = Steps.only_inexact part ProlepticGregorian (pos 0) t r e
row_inexact (UnitRow.Multiple k) t r e = only_left_over t k r e
row_inexact (UnitRow.Fraction k) t r e = go (holds_time (t *ℤ pos k)) e
  where
    go : (b : Bool) → cond b (Ok (t *ℤ pos k)) (Err Inexact) ≡ Err r → r ≡ Inexact
    go true e = absurd (not_written r (t *ℤ pos k) e)
    go false e = (cc)

-- ---- why a number is refused that holds a time

-- the steps lead out of the years; the product lies past them; the number is no whole count of microseconds
abbrev pub Unread : UnitRow → ℤ → Refusal → Type 0
Unread (UnitRow.Steps part) n r = (r ≡ OutOfRange) × (in_years (date_after part ProlepticGregorian n epoch).year ≡ false)
Unread (UnitRow.Multiple k) n r = (r ≡ OutOfRange) × (in_range ProlepticGregorian (n *ℤ pos k) ≡ false)
Unread (UnitRow.Fraction k) n r = (r ≡ Inexact) × ((t : ℤ) → t *ℤ pos k ≡ n → ⊥)

pub other_reason : (row : UnitRow) (n : ℤ) → Unread row n NotATime → ⊥
other_reason (UnitRow.Steps part) n u = let h = u.0 in let k : ◌≡◌ {A = ℕ} 0 1 = cc in omega arith
other_reason (UnitRow.Multiple k) n u = let h = u.0 in let k : ◌≡◌ {A = ℕ} 0 1 = cc in omega arith
other_reason (UnitRow.Fraction k) n u = let h = u.0 in let k : ◌≡◌ {A = ℕ} 0 1 = cc in omega arith

pub epoch_is : date_at ProlepticGregorian (pos 0) ≡ epoch
unfolding date_of date_by times day_of
epoch_is = refl

module _ (part : Part) (n : ℤ) where
  abbrev reached : Date → Date
  reached x = date_after part ProlepticGregorian n x

  same_year_lem : in_years (reached (date_at ProlepticGregorian (pos 0))).year ≡ in_years (reached epoch).year
  same_year_lem = ap (λ (x : Date). in_years (reached x).year) epoch_is

  steps_read : in_years (reached epoch).year ≡ true → (t : ℤ) × (read_steps part ProlepticGregorian (pos 0) n ≡ Ok (t, true))
  unfolding read_steps
  steps_read y =
      let x = date_at ProlepticGregorian (pos 0) in
      Steps.day_read ProlepticGregorian (reached x) (steps_exist part ProlepticGregorian x (dates_exist ProlepticGregorian (day_of (pos 0))) n) (time_of (pos 0)) (same_year_lem ∙ y)

  steps_unread : (r : Refusal) → (read_steps part ProlepticGregorian (pos 0) n ≡ Err r) ↔ Unread (UnitRow.Steps part) n r
  steps_unread r =
      ((λ e. (Steps.only_past part ProlepticGregorian (pos 0) n r e, to_false (in_years (reached epoch).year) (λ y. let v = steps_read y in not_refused r v.0 true (sym v.1 ∙ e)))), go (read_steps part ProlepticGregorian (pos 0) n) refl)
    where
      go : (a : Reading) → read_steps part ProlepticGregorian (pos 0) n ≡ a → Unread (UnitRow.Steps part) n r → a ≡ Err r
      go (Ok (t, i)) e u =
          let m = Steps.moved part ProlepticGregorian (pos 0) n t i e in
          absurd (false≢true (sym u.1 ∙ (sym same_year_lem ∙ (ap (λ (x : Date). in_years x.year) (sym m.date_is) ∙ m.inside))))
      go (Err s) e u = ap Err (Steps.only_past part ProlepticGregorian (pos 0) n s e ∙ sym u.0)

pub row_unread : (row : UnitRow) → GoodRow row → (n : ℤ) → Time n → (r : Refusal) → (read_by_row row n ≡ Err r) ↔ Unread row n r
unfolding read_by_row
row_unread (UnitRow.Steps part) g n h r = steps_unread part n r
row_unread (UnitRow.Multiple k) g n h r = (go (in_range ProlepticGregorian (n *ℤ pos k)), λ u. sym (settled ProlepticGregorian (n *ℤ pos k) true u.1) ∙ ap Err (sym u.0))
  where
    go : (b : Bool) → cond {A = Reading} b (Ok (n *ℤ pos k, true)) (Err OutOfRange) ≡ Err r → (r ≡ OutOfRange) × (b ≡ false)
    go true e = absurd (not_refused r (n *ℤ pos k) true e)
    go false e = (cc, refl)
row_unread (UnitRow.Fraction k) g n h r = (go (in_periods n k) refl, λ u. ap count_read (inexact n k (λ m q. u.1 m (quotient_of n k m q).is)) ∙ ap Err (sym u.0))
  where
    go : (a : Result ℤ Refusal) → in_periods n k ≡ a → count_read a ≡ Err r → Unread (UnitRow.Fraction k) n r
    go (Ok m) q e = absurd (not_refused r m true (settled ProlepticGregorian m true (quotient_inside k (divisor g) g n m h.0 (time_biased n h.0 h.1) q) ∙ e))
    go (Err s) q e =
        let l : r ≡ Inexact = (let w = only_left_over n k s q in cc) in
        (l, λ t w. not_written s t (sym (in_periods_lem t k (divisor g)) ∙ (ap (λ (z : ℤ). in_periods z k) w ∙ q)))
