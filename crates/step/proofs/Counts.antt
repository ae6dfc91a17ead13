-- Steps as arithmetic, on months counted from January of year -10000.
use mathlib.Core.Path.{◌≡◌, refl, sym, ap, ◌∙◌}
use mathlib.Core.Bool.{Bool, true, false, cond, true≢false}
use Prim.Native.Nat.{ℕ, suc, ◌+◌, ◌-◌, ◌*◌, ◌/◌, ◌%◌, ◌<◌, ◌≤◌}
use native.Mathlib.Omega.{arith}
use lib.Dec.{ltb}
use lib.IntN.{ℤ, pos, negsuc, sub_ℕ}
use lib.Signed.{le_z, lt_z}
use borrow.Author.Tests.{lt-ltb, ltb-true, ltb-false}
use Rattle.signed.proofs.Tests.{left_out, to_false}
use Rattle.signed.proofs.Order.{le_trans, le_refl, le_of_lt}
use Rattle.signed.proofs.Differences.{same_diff, sub_lt}
use Rattle.calendar.specs.Calendar.{has_year_zero, year_after, year_before, in_years, date}
use Rattle.calendar.specs.Closed.{year_at}
use Rattle.calendar.specs.declared.Calendar.{Calendar}
use Rattle.calendar.specs.declared.Date.{Date}
use Rattle.calendar.proofs.Existing.{before_after}
use Rattle.calendar.proofs.Labels.{year_after_lem, year_there}
use Rattle.calendar.proofs.Ordered.{Before, by_year, by_month, by_day}
use Rattle.step.specs.Closed.{month_at, month_count, months_of}
use Rattle.step.specs.Steps.{YearMonth, year_month, step_after, step_before, month_reached}
use Rattle.step.specs.declared.Part.{Part}
use Rattle.step.proofs.Steps.{sequence}
use Rattle.step.proofs.Order.{months_rise}

month_eq : {p q : YearMonth} → p.year ≡ q.year → p.month ≡ q.month → p ≡ q
month_eq a b = λ i. record { year = a i; month = b i }

pub not_later : (x y : Date) → Before x y → le_z x.year y.year ≡ true
not_later x y (by_year u) = le_of_lt x.year y.year u
not_later x y (by_month u v) = ap (λ (a : ℤ). le_z a y.year) u ∙ le_refl y.year
not_later x y (by_day u v w) = ap (λ (a : ℤ). le_z a y.year) u ∙ le_refl y.year

-- a year at or below the first that is counted
too_early : (t : Bool) (u : ℤ) → le_z u (year_at t 0) ≡ true → in_years u ≡ false
too_early t u h = left_out (le_z (negsuc 9998) u) (le_z u (pos 9999)) (to_false (le_z (negsuc 9998) u) (λ e. true≢false (sym (le_trans (negsuc 9998) u (year_at t 0) e h) ∙ bottom t)))
  where
    bottom : (t : Bool) → le_z (negsuc 9998) (year_at t 0) ≡ false
    bottom true = refl
    bottom false = refl

-- steps that would lead below month 0 are more than the q that lead back to a month r of its year
record Lowest (part : Part) (n b i : ℕ) : Type 0 where
  r : ℕ
  q : ℕ
  small : r < 12
  reached : r + q * months_of part ≡ i + 0 * months_of part
  further : n + q < b

lowest : (part : Part) (n b i : ℕ) → i + n * months_of part < b * months_of part → Lowest part n b i
lowest Part.Month n b i h = record { r = 0; q = i; small = omega arith; reached = omega arith; further = omega arith }
lowest Part.Year n b i h = record { r = i % 12; q = i / 12; small = omega arith; reached = omega arith; further = omega arith }

module _ (c : Calendar) where
  year_before_lem : (y : ℕ) → year_before c (year_at (has_year_zero c) (suc y)) ≡ year_at (has_year_zero c) y
  year_before_lem y = ap (year_before c) (sym (year_after_lem c y)) ∙ before_after c (year_at (has_year_zero c) y) (year_there c y)

  month_on : (part : Part) (i : ℕ) → step_after part c (month_at c i) ≡ month_at c (i + months_of part)
  unfolding step_after
  month_on Part.Month i = go (ltb (i % 12 + 1) 12) refl
    where
      go : (t : Bool) → ltb (i % 12 + 1) 12 ≡ t → cond t (year_month (year_at (has_year_zero c) (i / 12)) (i % 12 + 1 + 1)) (year_month (year_after c (year_at (has_year_zero c) (i / 12))) 1) ≡ month_at c (i + 1)
      go true e =
          let l = ltb-true (i % 12 + 1) 12 e in
          let y : i / 12 ≡ (i + 1) / 12 = omega arith in
          month_eq (ap (year_at (has_year_zero c)) y) (omega arith)
      go false e =
          let l = ltb-false (i % 12 + 1) 12 e in
          let y : suc (i / 12) ≡ (i + 1) / 12 = omega arith in
          month_eq (year_after_lem c (i / 12) ∙ ap (year_at (has_year_zero c)) y) (omega arith)
  month_on Part.Year i = let y : suc (i / 12) ≡ (i + 12) / 12 = omega arith in month_eq (year_after_lem c (i / 12) ∙ ap (year_at (has_year_zero c)) y) (omega arith)

  month_back : (part : Part) (i : ℕ) → step_before part c (month_at c (i + months_of part)) ≡ month_at c i
  unfolding step_before
  month_back Part.Month i = go (ltb 1 ((i + 1) % 12 + 1)) refl
    where
      go : (t : Bool) → ltb 1 ((i + 1) % 12 + 1) ≡ t → cond t (year_month (year_at (has_year_zero c) ((i + 1) / 12)) ((i + 1) % 12 + 1 - 1)) (year_month (year_before c (year_at (has_year_zero c) ((i + 1) / 12))) 12) ≡ month_at c i
      go true e =
          let l = ltb-true 1 ((i + 1) % 12 + 1) e in
          let y : (i + 1) / 12 ≡ i / 12 = omega arith in
          month_eq (ap (year_at (has_year_zero c)) y) (omega arith)
      go false e =
          let l = ltb-false 1 ((i + 1) % 12 + 1) e in
          let y : (i + 1) / 12 ≡ suc (i / 12) = omega arith in
          month_eq (ap (λ (n : ℕ). year_before c (year_at (has_year_zero c) n)) y ∙ year_before_lem (i / 12)) (omega arith)
  month_back Part.Year i =
      let y : (i + 12) / 12 ≡ suc (i / 12) = omega arith in
      month_eq (ap (λ (n : ℕ). year_before c (year_at (has_year_zero c) n)) y ∙ year_before_lem (i / 12)) (omega arith)

  -- n - b steps lead from month i to month i + (n - b) * months_of part
  pub months_at : (part : Part) (n b i j : ℕ) → j + b * months_of part ≡ i + n * months_of part → month_reached part c (sub_ℕ n b) (month_at c i) ≡ month_at c j
  months_at part = sequence (step_after part c) (step_before part c) (months_of part) (month_at c) (month_on part) (month_back part)

  pub months_below : (part : Part) (n b i : ℕ) → i + n * months_of part < b * months_of part → in_years (month_reached part c (sub_ℕ n b) (month_at c i)).year ≡ false
  months_below part n b i h =
      let w = lowest part n b i h in
      let p = month_reached part c (sub_ℕ n b) (month_at c i) in
      let q = month_reached part c (sub_ℕ 0 w.q) (month_at c i) in
      let zeroth : w.r / 12 ≡ 0 = omega (arith, w.small) in
      let less : lt_z (sub_ℕ n b) (sub_ℕ 0 w.q) ≡ true =
      (λ k. lt_z (same_diff n b (n + w.q) (b + w.q) (omega arith) k) (same_diff 0 w.q b (b + w.q) (omega arith) k)) ∙ (sub_lt (n + w.q) b (b + w.q) ∙ lt-ltb (n + w.q) b w.further) in
      too_early (has_year_zero c) p.year
      (ap (le_z p.year) (sym (ap (λ (r : YearMonth). r.year) (months_at part 0 w.q i w.r w.reached) ∙ ap (year_at (has_year_zero c)) zeroth))
      ∙ not_later (date p.year p.month 0) (date q.year q.month 0) (months_rise c part (month_at c i) (sub_ℕ n b) (sub_ℕ 0 w.q) less))

  -- month m of year y, by its count
  pub month_is : (y m : ℕ) → 1 ≤ m → m ≤ 12 → month_at c (month_count y m) ≡ year_month (year_at (has_year_zero c) y) m
  month_is y m a b =
      let e : month_count y m / 12 ≡ y = omega arith in
      month_eq (ap (year_at (has_year_zero c)) e) (omega arith)
