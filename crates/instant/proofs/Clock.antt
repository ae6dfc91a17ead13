-- The time of day of fields, and the instant of a day and a time.
use Rattle.std.specs.Prelude.{Ok}
use mathlib.Core.Path.{◌≡◌, sym, ap, ◌∙◌, subst}
use mathlib.Core.Bool.{Bool, true, ◌&&◌}
use Prim.Native.Nat.{ℕ, suc, ◌+◌, ◌-◌, ◌*◌, ◌≤◌, ◌<◌}
use native.Mathlib.Omega.{arith}
use lib.Dec.{ltb}
use lib.IntN.{ℤ, pos, negsuc}
use lib.Signed.{mag, le_z}
use borrow.Author.Tests.{ltb-true, leb-true}
use Rattle.signed.specs.Bias.{unbiased}
use Rattle.signed.proofs.Tests.{and_parts}
use Rattle.signed.proofs.Differences.{by_sign, sub_low, sub_high, same_diff, times_plus}
use Rattle.calendar.specs.Closed.{epoch_day, first_day, end_day}
use Rattle.calendar.specs.Calendar.{date_of, in_years}
use Rattle.calendar.specs.Answers.{day_with}
use Rattle.calendar.specs.declared.Calendar.{Calendar}
use Rattle.calendar.specs.declared.Date.{Date}
use Rattle.calendar.proofs.Range.{small, low_day, high_day}
use Rattle.calendar.proofs.Theorems.{range, answered}
use Rattle.instant.specs.Instant.{is_clock, clock_time, instant_at}
use Rattle.instant.specs.declared.Fields.{Fields}

pub record Clock (f : Fields) : Type 0 where
  pub hour : f.hour < 24
  pub minute : f.minute < 60
  pub second : f.second < 60
  pub microsecond : f.microsecond < 1000000

pub clock_of : (f : Fields) → is_clock f ≡ true → Clock f
clock_of f h =
    let p = and_parts (ltb f.hour 24 && ltb f.minute 60) (ltb f.second 60 && ltb f.microsecond 1000000) h in
    let a = and_parts (ltb f.hour 24) (ltb f.minute 60) p.0 in
    let b = and_parts (ltb f.second 60) (ltb f.microsecond 1000000) p.1 in
    record { hour = ltb-true f.hour 24 a.0; minute = ltb-true f.minute 60 a.1; second = ltb-true f.second 60 b.0; microsecond = ltb-true f.microsecond 1000000 b.1 }

pub clock_small : (f : Fields) → is_clock f ≡ true → clock_time f < 86400000000
clock_small f h = let c = clock_of f h in omega (arith, c.hour, c.minute, c.second, c.microsecond)

-- ---- day numbers of the years -9999 to 9999
pub day_small : (c : Calendar) (z : ℤ) → in_years (date_of c z).year ≡ true → mag z < 5000000
day_small c (pos n) h =
    let w = (and_parts (le_z (low_day c) (pos n)) (le_z (pos n) (high_day c)) (sym (range c (pos n)) ∙ h)).1 in
    omega (arith, small c, leb-true n (end_day c - 1 - epoch_day c) (ap (le_z (pos n)) (sym (sub_high (end_day c - 1) (epoch_day c) (omega (arith, small c)))) ∙ w))
day_small c (negsuc n) h =
    let w = (and_parts (le_z (low_day c) (negsuc n)) (le_z (negsuc n) (high_day c)) (sym (range c (negsuc n)) ∙ h)).0 in
    omega (arith, small c, leb-true n (epoch_day c - suc (first_day c)) (ap (λ (z : ℤ). le_z z (negsuc n)) (sym (sub_low (first_day c) (epoch_day c) (omega (arith, small c)))) ∙ w))

pub answered_small : (rest : Bool) (c : Calendar) (x : Date) (z : ℤ) → Ok z ≡ day_with rest c x → mag z < 5000000
answered_small rest c x z h = let n = answered rest c x z h in day_small c z (ap (λ (d : Date). in_years d.year) n.is ∙ n.inside)

-- ---- the day's beginning and a time of day: k is the day, biased by 2^63
module _ (z : ℤ) (k s : ℕ) (small : mag z < 5000000) (e : unbiased k ≡ z) where
  pub day_near : (9223372036849775808 ≤ k) × (k < 9223372036859775808)
  day_near = by_sign (λ (w : ℤ). mag w < 5000000 → (9223372036849775808 ≤ k) × (k < 9223372036859775808)) k 9223372036854775808 (λ h m. (omega arith, omega arith)) (λ h m. (omega arith, omega arith)) (subst (λ (w : ℤ). mag w < 5000000) (sym e) small)

  pub instant_at_lem : unbiased ((k - 9223372036849775808) * 86400000000 + s + 8791372036854775808) ≡ instant_at z s
  instant_at_lem =
      let n = day_near in
      same_diff ((k - 9223372036849775808) * 86400000000 + s + 8791372036854775808) 9223372036854775808 (k * 86400000000 + s) (9223372036854775808 * 86400000000) (omega arith)
      ∙ (sym (times_plus k 9223372036854775808 86400000000 s) ∙ ap (λ (w : ℤ). instant_at w s) e)
