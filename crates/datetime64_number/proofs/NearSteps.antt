-- Steps by months and years from 1970-01-01 that stay in the years.
use mathlib.Core.Path.{◌≡◌, refl, sym, ap, ◌∙◌}
use mathlib.Core.Bool.{true}
use Prim.Native.Nat.{ℕ, ◌+◌, ◌*◌, ◌≤◌}
use native.Mathlib.Nat.{add-mul, mul-le-mul_right}
use native.Mathlib.Omega.{arith}
use lib.IntN.{ℤ, pos}
use mir.Syntax.{w64}
use mir.Val.{SFits}
use Rattle.signed.specs.Bias.{biased, unbiased}
use Rattle.signed.proofs.Differences.{unbiased_biased}
use Rattle.calendar.specs.Calendar.{date_by, date_of, times, in_years}
use Rattle.calendar.specs.declared.Calendar.TheVariants.{ProlepticGregorian}
use Rattle.calendar.proofs.Theorems.{dates_exist}
use Rattle.instant.specs.Instant.{day_of, time_of}
use Rattle.step.specs.Closed.{months_of, YearOf}
use Rattle.step.specs.Steps.{date_after}
use Rattle.step.specs.declared.Part.{Part}
use Rattle.step.proofs.Answering.{year_between}
use Rattle.step.proofs.Theorems.{steps_exist}
use Rattle.axis_types.specs.Reading.{is_read}
use Rattle.calendar_axis.specs.Steps.{date_at, read_steps}
use Rattle.calendar_axis.proofs.Demands.{day_read}

-- 1970 is year 11970, counted from -10000
start : YearOf ProlepticGregorian (date_at ProlepticGregorian (pos 0)) 11970
unfolding date_of date_by times day_of
start = record { date = record { inside = refl; there = dates_exist ProlepticGregorian (day_of (pos 0)) }; is = refl }

month : (date_at ProlepticGregorian (pos 0)).month ≡ 1
unfolding date_of date_by times day_of
month = refl

-- most steps, which are 8000 years, on or back
pub near_read : (part : Part) (n : ℤ) (most : ℕ) → SFits w64 n → most * months_of part ≡ 96000 → 9223372036854775808 ≤ biased n + most → biased n ≤ 9223372036854775808 + most → is_read (read_steps part ProlepticGregorian (pos 0) n) ≡ true
unfolding read_steps
near_read part n most f e l h =
    let x = date_at ProlepticGregorian (pos 0) in
    let m = months_of part in
    let u = biased n in
    let low = mul-le-mul_right m l in
    let high = mul-le-mul_right m h in
    let y : in_years (date_after part ProlepticGregorian (unbiased u) x).year ≡ true =
    year_between ProlepticGregorian x 11970 start part u 9223372036854775808 (omega (arith, low, e, add-mul u most m, month)) (omega (arith, high, e, add-mul 9223372036854775808 most m, month)) in
    let z = ap (λ (k : ℤ). in_years (date_after part ProlepticGregorian k x).year) (sym (unbiased_biased n f)) ∙ y in
    ap is_read (day_read ProlepticGregorian (date_after part ProlepticGregorian n x) (steps_exist part ProlepticGregorian x start.date.there n) (time_of (pos 0)) z).1
