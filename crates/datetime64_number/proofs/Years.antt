-- The years -9999 to 9999 of `proleptic_gregorian` as bounds of instants that have their bias of 2^63.
use mathlib.Core.Path.{◌≡◌, refl, sym, ◌∙◌}
use mathlib.Core.Bool.{true, ◌&&◌}
use Prim.Native.Nat.{ℕ, ◌-◌}
use native.Mathlib.Omega.{arith}
use lib.Dec.{leb}
use lib.IntN.{pos, sub_ℕ}
use lib.Signed.{le_z}
use borrow.Author.Tests.{le-leb, leb-true}
use Rattle.signed.specs.Bias.{unbiased}
use Rattle.signed.proofs.Tests.{both, and_parts}
use Rattle.signed.proofs.Differences.{sub_le, times_plus}
use Rattle.calendar.specs.declared.Calendar.TheVariants.{ProlepticGregorian}
use Rattle.calendar.specs.Plain.{month_days}
use Rattle.calendar.specs.Closed.{year_start, count, month_start, kind_at, lag, cutover_day, row_epoch, row_start, row_end, epoch_day, first_day, end_day}
use Rattle.instant.specs.Instant.{in_range, instant_at}
use Rattle.instant.specs.Closed.{first_instant, last_instant}
use Rattle.instant.proofs.Range.{range}
use Rattle.datetime64_number.specs.Conversions.{years_below, years_above}
use Rattle.datetime64_number.proofs.Products.{Within}

-- the first day of year -9999, 1970-01-01 and the first day of year 10000, counted from one place
days : (first_day ProlepticGregorian ≡ 366) × (epoch_day ProlepticGregorian ≡ 4371953) × (end_day ProlepticGregorian ≡ 7304850)
unfolding row_epoch row_start row_end year_start lag cutover_day count month_start month_days kind_at
days = (refl, refl, refl)

-- the first instant and the last
first_is : first_instant ProlepticGregorian ≡ unbiased 8845666920054775808
first_is = (λ i. instant_at (sub_ℕ (days.0 i) (days.1 i)) 0) ∙ times_plus 366 4371953 86400000000 0

last_is : last_instant ProlepticGregorian ≡ unbiased 9476774337654775807
last_is = (λ i. instant_at (sub_ℕ (days.2 i - 1) (days.1 i)) 86399999999) ∙ times_plus 7304849 4371953 86400000000 86399999999

range_is : (v : ℕ) → in_range ProlepticGregorian (unbiased v) ≡ (leb 8845666920054775808 v && leb v 9476774337654775807)
range_is v =
    range ProlepticGregorian (unbiased v)
    ∙ ((λ i. le_z (first_is i) (unbiased v) && le_z (unbiased v) (last_is i)) ∙ (λ i. sub_le 8845666920054775808 v 9223372036854775808 i && sub_le v 9476774337654775807 9223372036854775808 i))

pub in_years_lem : (v : ℕ) → Within years_below years_above v → in_range ProlepticGregorian (unbiased v) ≡ true
in_years_lem v w = range_is v ∙ both (leb 8845666920054775808 v) (leb v 9476774337654775807) (le-leb 8845666920054775808 v (omega (arith, w.low))) (le-leb v 9476774337654775807 (omega (arith, w.high)))

pub within_years : (v : ℕ) → in_range ProlepticGregorian (unbiased v) ≡ true → Within years_below years_above v
within_years v h =
    let p = and_parts (leb 8845666920054775808 v) (leb v 9476774337654775807) (sym (range_is v) ∙ h) in
    record { low = omega (arith, leb-true 8845666920054775808 v p.0); high = omega (arith, leb-true v 9476774337654775807 p.1) }

pub epoch_in : in_range ProlepticGregorian (pos 0) ≡ true
epoch_in = in_years_lem 9223372036854775808 (record { low = omega arith; high = omega arith })
