-- Days and times of day under sums and under the order of instants.
use mathlib.Core.Path.{◌≡◌, refl, sym, ap, ◌∙◌}
use mathlib.Core.Bool.{true, not, false≢true}
use Prim.Native.Nat.{◌/◌, ◌≤◌}
use native.Mathlib.Omega.{arith}
use lib.IntN.{ℤ, pos, negsuc, ◌+ℤ◌, ◌*ℤ◌, pos-ne-negsuc, nat_abs}
use lib.Signed.{le_z}
use borrow.Author.Tests.{le-leb, leb-true}
use Rattle.signed.proofs.Order.{lt_not_le}
use Rattle.signed.proofs.Integers.{swap, over_sum}
use Rattle.calendar.specs.declared.Calendar.{Calendar}
use Rattle.calendar.proofs.Theorems.{order, one_day}
use Rattle.instant.specs.Instant.{day_of, time_of}
use Rattle.instant.proofs.Theorems.{day_of_sum, time_of_sum, time_small, day_and_time}
use Rattle.fixed_axis.specs.Demands.{InOrder}

-- ---- so many whole days on, the day number is greater by as much, and the time of day is kept
module _ (R n : ℤ) where
  sum_is : R +ℤ n *ℤ pos 86400000000 ≡ (day_of R +ℤ n) *ℤ pos 86400000000 +ℤ pos (time_of R)
  sum_is =
      ap (λ (z : ℤ). z +ℤ n *ℤ pos 86400000000) (sym (day_and_time R))
      ∙ (swap (day_of R *ℤ pos 86400000000) (pos (time_of R)) (n *ℤ pos 86400000000) ∙ ap (λ (z : ℤ). z +ℤ pos (time_of R)) (sym (over_sum (day_of R) n (pos 86400000000))))

  pub day_after_lem : day_of (R +ℤ n *ℤ pos 86400000000) ≡ day_of R +ℤ n
  day_after_lem = ap day_of sum_is ∙ day_of_sum (day_of R +ℤ n) (time_of R) (time_small R)

  pub time_after_lem : time_of (R +ℤ n *ℤ pos 86400000000) ≡ time_of R
  time_after_lem = ap time_of sum_is ∙ time_of_sum (day_of R +ℤ n) (time_of R) (time_small R)

-- ---- the order of instants is that of their dates and times
days_rise : (x y : ℤ) → le_z x y ≡ true → le_z (day_of x) (day_of y) ≡ true
unfolding day_of
days_rise (pos x) (pos y) h = le-leb (x / 86400000000) (y / 86400000000) (omega (arith, leb-true x y h))
days_rise (pos x) (negsuc y) h = absurd (false≢true h)
days_rise (negsuc x) (pos y) h = refl
days_rise (negsuc x) (negsuc y) h = le-leb (y / 86400000000) (x / 86400000000) (omega (arith, leb-true y x h))

times_rise : (x y : ℤ) → le_z x y ≡ true → day_of x ≡ day_of y → time_of x ≤ time_of y
unfolding day_of time_of
times_rise (pos x) (pos y) h e = omega (arith, leb-true x y h, ap nat_abs e)
times_rise (pos x) (negsuc y) h e = absurd (false≢true h)
times_rise (negsuc x) (pos y) h e = absurd (pos-ne-negsuc (y / 86400000000) (x / 86400000000) (sym e))
times_rise (negsuc x) (negsuc y) h e = omega (arith, leb-true y x h, ap nat_abs e)

pub in_order : (c : Calendar) (x y : ℤ) → le_z x y ≡ true → InOrder c x y
in_order c x y h =
    record {
      dates = order c (day_of y) (day_of x) ∙ (lt_not_le (day_of y) (day_of x) ∙ ap not (days_rise x y h));
      times = λ e. times_rise x y h (one_day c (day_of x) (day_of y) e);
    }
