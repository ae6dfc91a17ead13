-- Which day numbers have years from -9999 to 9999: those of an interval, whose ends follow from the row.
use mathlib.Core.Path.{◌≡◌, refl, sym, ap, ◌∙◌}
use mathlib.Core.Bool.{Bool, true, false, ◌&&◌, true≢false}
use Prim.Native.Nat.{ℕ, suc, ◌+◌, ◌-◌, ◌<◌, ◌≤◌}
use native.Mathlib.Omega.{arith}
use native.Mathlib.Decide.{dec_le}
use lib.Dec.{leb}
use lib.IntN.{ℤ, pos, negsuc, sub_ℕ}
use lib.Signed.{le_z}
use borrow.Author.Tests.{le-leb, lt-leb, leb-true, leb-false}
use Rattle.signed.specs.Bias.{lift}
use Rattle.signed.proofs.Tests.{and_parts, left_out, to_false, test_is}
use Rattle.signed.proofs.Order.{le_trans}
use Rattle.signed.proofs.Differences.{sub_le, lift_is, above_least, same_diff}
use Rattle.calendar.specs.Calendar.{CalendarRow, date_by, date_of, in_years, row_of}
use Rattle.calendar.specs.Closed.{year_start, year_at, count, counted_row, cutover_day, lag, row_epoch, row_start, row_end, epoch_day, first_day, end_day}
use Rattle.calendar.specs.declared.Calendar.{Calendar}
use Rattle.calendar.specs.declared.Date.{Date}
use Rattle.calendar.specs.declared.rule.Rule.{Rule}
use Rattle.calendar.proofs.Years.{year_least, year_most}
use Rattle.calendar.proofs.Places.{at, within_year, grows_to, year_grows, year_lt, year_ge}
use Rattle.calendar.proofs.Labels.{first_year, year_in}
use Rattle.calendar.proofs.Walk.{years_rise}
use Rattle.calendar.proofs.Days.{Cutover, day_date, date_early, date_late, first_count, late_epoch, row_chain, row_start_lem, row_dates}
use Rattle.calendar.proofs.Rows.{cutover}

-- ---- the year of a place, from its number

-- a day number lies from year y on exactly where its place does
from_year : (r : Rule) (n y : ℕ) → leb y (at r n).y ≡ leb (year_start r y) n
from_year r n y =
    elim (dec_le (year_start r y) n) [
      | yes g ↦ le-leb y (at r n).y (year_ge r n y g) ∙ sym (le-leb (year_start r y) n g)
      | no g ↦ lt-leb y (at r n).y (year_lt r n y (omega arith)) ∙ sym (lt-leb (year_start r y) n (omega arith))
    ]

to_year : (r : Rule) (n y : ℕ) → leb (at r n).y y ≡ leb (suc n) (year_start r (suc y))
to_year r n y =
    elim (dec_le (year_start r (suc y)) n) [
      | yes g ↦ lt-leb (at r n).y y (year_ge r n (suc y) g) ∙ sym (lt-leb (suc n) (year_start r (suc y)) (omega arith))
      | no g ↦ le-leb (at r n).y y (omega (arith, year_lt r n (suc y) (omega arith))) ∙ sym (le-leb (suc n) (year_start r (suc y)) (omega arith))
    ]

pub first_two : (z : Bool) → (1 ≤ first_year z) × (first_year z ≤ 2)
first_two true = omega arith
first_two false = omega arith

bottom_at : (z : Bool) → le_z (negsuc 9998) (year_at z 0) ≡ false
bottom_at true = refl
bottom_at false = refl

-- ---- a row

module _ (r : CalendarRow) (h : Cutover r) where
  pub row_small : let k = counted_row r in (0 < row_start k) × ((row_start k < row_epoch k) × ((row_epoch k < row_end k) × ((row_end k < row_epoch k + 5000000) × (row_epoch k < 5000000))))
  unfolding row_epoch row_start row_end
  row_small =
      let y = first_year r.zero in
      omega (arith, first_two r.zero, year_least r.early y, year_most r.early y, h.lag_small, year_least r.late 11970, year_most r.late 11970, year_least r.late 20000, year_most r.late 20000)

  pub row_wide : let k = counted_row r in (row_start k + 4000000 ≤ row_epoch k) × (row_epoch k + 2800000 < row_end k)
  unfolding row_epoch row_start row_end
  row_wide =
      let y = first_year r.zero in
      omega (arith, first_two r.zero, year_most r.early y, year_least r.late 11970, year_most r.late 11970, year_least r.late 20000)

  -- the numbers by the count of the early rule
  abbrev l : ℕ
  l = lag (counted_row r)

  abbrev k : ℕ
  k = count r.early (counted_row r).until

  abbrev e : ℕ
  e = year_start r.late 11970 + l

  abbrev s : ℕ
  s = year_start r.early (first_year r.zero)

  abbrev t : ℕ
  t = year_start r.late 20000 + l

  -- year -9999 begins before the cutover, and the late part before year 10000 of the early rule ends
  early_start : (s ≤ k) × (k ≤ year_start r.early 20000)
  unfolding count
  early_start =
      let y = first_year r.zero in
      let u = (counted_row r).until.y in (
        omega (arith, grows_to (year_start r.early) (year_grows r.early) y u (omega (arith, first_two r.zero, h.early_year))),
        omega (arith, first_count r h, late_epoch r h, h.lag_small, year_most r.late 11970, year_least r.early 20000),
      )

  grows : year_start r.late 11970 < year_start r.late 20000
  grows = omega (arith, year_most r.late 11970, year_least r.late 20000)

  year_early : (n : ℕ) → n < k → (date_by r (sub_ℕ n e)).year ≡ year_at r.zero (at r.early n).y
  unfolding day_date
  year_early n g = ap (λ (d : Date). d.year) (row_dates r h n ∙ date_early r h n g)

  year_late : (n : ℕ) → k ≤ n → (date_by r (sub_ℕ n e)).year ≡ year_at r.zero (at r.late (n - l)).y
  unfolding day_date
  year_late n g = ap (λ (d : Date). d.year) (row_dates r h n ∙ date_late r h n g)

  range_at : (n : ℕ) → in_years (date_by r (sub_ℕ n e)).year ≡ (leb s n && leb n (t - 1))
  unfolding cutover_day
  range_at n =
      let z = r.zero in
      let y = first_year z in
      elim (dec_le (suc n) k) [
        | yes g ↦
            let p = (at r.early n).y in
            let top : leb p 19999 ≡ leb n (t - 1) = to_year r.early n 19999 ∙ (le-leb (suc n) (year_start r.early 20000) (omega (arith, early_start)) ∙ sym (le-leb n (t - 1) (omega (arith, first_count r h, late_epoch r h, grows)))) in
            ap in_years (year_early n g) ∙ (year_in z p ∙ (λ i. from_year r.early n y i && top i))
        | no g ↦
            let p = (at r.late (n - l)).y in
            let low : leb y p ≡ leb s n = le-leb y p (omega (arith, first_two z, h.late_year, year_ge r.late (n - l) (counted_row r).from.y (omega (arith, first_count r h, within_year r.late (counted_row r).from h.first_proper)))) ∙ sym (le-leb s n (omega (arith, early_start))) in
            let top : leb p 19999 ≡ leb n (t - 1) = to_year r.late (n - l) 19999 ∙ test_is (leb (suc (n - l)) (year_start r.late 20000)) (leb n (t - 1)) (λ f. le-leb n (t - 1) (omega (arith, leb-true (suc (n - l)) (year_start r.late 20000) f))) (λ f. lt-leb n (t - 1) (omega (arith, first_count r h, grows, leb-false (suc (n - l)) (year_start r.late 20000) f))) in
            ap in_years (year_late n (omega arith)) ∙ (year_in z p ∙ (λ i. low i && top i))
      ]

  -- below the first place
  lowest : (z : ℤ) → le_z z (sub_ℕ 0 e) ≡ true → in_years (date_by r z).year ≡ false
  unfolding at
  lowest z g =
      let y = (date_by r z).year in
      let bottom : le_z (negsuc 9998) (date_by r (sub_ℕ 0 e)).year ≡ false = ap (le_z (negsuc 9998)) (year_early 0 (omega (arith, early_start, first_two r.zero, year_least r.early (first_year r.zero)))) ∙ bottom_at r.zero in
      left_out (le_z (negsuc 9998) y) (le_z y (pos 9999))
      (to_false (le_z (negsuc 9998) y) (λ f. true≢false (sym (le_trans (negsuc 9998) y (date_by r (sub_ℕ 0 e)).year f (years_rise r (row_chain r h) (row_start_lem r h) z (sub_ℕ 0 e) g)) ∙ bottom)))

  range_low : (z : ℤ) → le_z z (sub_ℕ 0 e) ≡ true → (le_z (sub_ℕ s e) z && le_z z (sub_ℕ (t - 1) e)) ≡ false
  range_low z g =
      left_out (le_z (sub_ℕ s e) z) (le_z z (sub_ℕ (t - 1) e))
      (to_false (le_z (sub_ℕ s e) z) (λ f.
      let u : leb s 0 ≡ true = sym (sub_le s 0 e) ∙ le_trans (sub_ℕ s e) z (sub_ℕ 0 e) f g in
      omega (arith, first_two r.zero, year_least r.early (first_year r.zero), leb-true s 0 u)))

  range_early : (z : ℤ) → in_years (date_by r z).year ≡ (le_z (sub_ℕ s e) z && le_z z (sub_ℕ (t - 1) e))
  range_early z = go (le_z z (sub_ℕ 0 e)) refl
    where
      go : (b : Bool) → le_z z (sub_ℕ 0 e) ≡ b → in_years (date_by r z).year ≡ (le_z (sub_ℕ s e) z && le_z z (sub_ℕ (t - 1) e))
      go true g = lowest z g ∙ sym (range_low z g)
      go false g =
          let n = lift z e in
          let is : sub_ℕ n e ≡ z = lift_is z e (above_least z e g) in
          (λ i. in_years (date_by r (sym is i)).year) ∙ (range_at n ∙ ((λ i. sym (sub_le s n e) i && sym (sub_le n (t - 1) e) i) ∙ (λ i. le_z (sub_ℕ s e) (is i) && le_z (is i) (sub_ℕ (t - 1) e))))

  -- the year of a day's date lies in -9999 to 9999 exactly for the day numbers of this interval
  pub row_range : (z : ℤ) → let k = counted_row r in in_years (date_by r z).year ≡ (le_z (sub_ℕ (row_start k) (row_epoch k)) z && le_z z (sub_ℕ (row_end k - 1) (row_epoch k)))
  unfolding row_epoch row_start row_end
  row_range z =
      let y = first_year r.zero in
      let low = same_diff s e (s - l) (year_start r.late 11970) (omega (arith, h.lag_small, first_two r.zero, year_least r.early y)) in
      let high = same_diff (t - 1) e (year_start r.late 20000 - 1) (year_start r.late 11970) (omega (arith, grows)) in
      range_early z ∙ (λ i. le_z (low i) z && le_z z (high i))

-- ---- the calendars

-- the first and the last day number of the years -9999 to 9999
abbrev pub low_day : Calendar → ℤ
low_day c = sub_ℕ (first_day c) (epoch_day c)

abbrev pub high_day : Calendar → ℤ
high_day c = sub_ℕ (end_day c - 1) (epoch_day c)

pub small : (c : Calendar) → (0 < first_day c) × ((first_day c < epoch_day c) × ((epoch_day c < end_day c) × ((end_day c < epoch_day c + 5000000) × (epoch_day c < 5000000))))
small c = row_small (row_of c) (cutover c)

pub wide : (c : Calendar) → (first_day c + 4000000 ≤ epoch_day c) × (epoch_day c + 2800000 < end_day c)
wide c = row_wide (row_of c) (cutover c)

pub range : (c : Calendar) (z : ℤ) → in_years (date_of c z).year ≡ (le_z (low_day c) z && le_z z (high_day c))
unfolding date_of
range c = row_range (row_of c) (cutover c)

-- a day number of the interval, counted from the first place
pub record Inside (c : Calendar) (z : ℤ) : Type 0 where
  pub number : ℕ
  pub is : sub_ℕ number (epoch_day c) ≡ z
  pub from : first_day c ≤ number
  pub to : number < end_day c

pub inside_of : (c : Calendar) (z : ℤ) → in_years (date_of c z).year ≡ true → Inside c z
inside_of c z h =
    let b = epoch_day c in
    let w = and_parts (le_z (low_day c) z) (le_z z (high_day c)) (sym (range c z) ∙ h) in
    let below : le_z z (sub_ℕ 0 b) ≡ false = to_false (le_z z (sub_ℕ 0 b)) (λ g. let u = leb-true (first_day c) 0 (sym (sub_le (first_day c) 0 b) ∙ le_trans (low_day c) z (sub_ℕ 0 b) w.0 g) in omega (arith, small c)) in
    let n = lift z b in
    let is : sub_ℕ n b ≡ z = lift_is z b (above_least z b below) in
    let low : leb (first_day c) n ≡ true = sym (sub_le (first_day c) n b) ∙ (ap (le_z (low_day c)) is ∙ w.0) in
    let high : leb n (end_day c - 1) ≡ true = sym (sub_le n (end_day c - 1) b) ∙ (ap (λ (y : ℤ). le_z y (high_day c)) is ∙ w.1) in
    record { number = n; is = is; from = leb-true (first_day c) n low; to = omega (arith, small c, leb-true n (end_day c - 1) high) }

-- a day number of the range is n - 5000000 for some n below ten million
pub record Near (z : ℤ) : Type 0 where
  pub number : ℕ
  pub is : sub_ℕ number 5000000 ≡ z
  pub low : number < 10000000

pub near : (c : Calendar) (z : ℤ) → in_years (date_of c z).year ≡ true → Near z
near c z h =
    let k = inside_of c z h in
    let n = k.number + (5000000 - epoch_day c) in
    record { number = n; is = same_diff n 5000000 k.number (epoch_day c) (omega (arith, small c)) ∙ k.is; low = omega (arith, small c, k.to) }
