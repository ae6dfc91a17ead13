-- `instant::instant_on` meets its contract.
use mathlib.Core.Path.{◌≡◌, sym, ◌∙◌, subst}
use Prim.Native.Nat.{◌+◌, ◌-◌, ◌<◌}
use native.Mathlib.Omega.{arith}
use lib.IntN.{ℤ, sub_ℕ}
use lib.Signed.{mag}
use mir.Syntax.{w64}
use mir.Val.{to_z, of_z}
use mir.ValLaws.{to_z-of_z}
use Rattle.signed.proofs.Differences.{by_sign, same_diff}
use Rattle.calendar.specs.Closed.{epoch_day}
use Rattle.calendar.proofs.Range.{small}
use Rattle.instant.proofs.instant_on.Goals as goal
use Rattle.instant.proofs.instant_on.Goals.{After-unbiased}

pub overflow_add-n : goal.overflow_add-n
overflow_add-n c = record { fits = omega (arith, small c.args.c, c.requires.0) }

pub overflow_sub-n : goal.overflow_sub-n
overflow_sub-n c = omega (arith, small c.args.c, c.epoch_day.ensures)

-- the day, counted from 1970-01-01
module _ (c : After-unbiased) where
  day_is : to_z w64 (of_z w64 c.unbiased.result) ≡ sub_ℕ c.args.n (epoch_day c.args.c)
  day_is =
      to_z-of_z w64 c.unbiased.result (record { sfits = c.unbiased.type_inv })
      ∙ (c.unbiased.ensures ∙ same_diff (9223372036854775808 + c.args.n - c.epoch_day.result) 9223372036854775808 c.args.n (epoch_day c.args.c) (omega (arith, small c.args.c, c.epoch_day.ensures)))

  near : mag (sub_ℕ c.args.n (epoch_day c.args.c)) < 5000000
  near = by_sign (λ (z : ℤ). mag z < 5000000) c.args.n (epoch_day c.args.c) (λ h. omega (arith, small c.args.c)) (λ h. omega (arith, small c.args.c, c.requires.0))

pub instant_at-requires : goal.instant_at-requires
instant_at-requires c = (subst (λ (z : ℤ). mag z < 5000000) (sym (day_is c)) (near c), c.requires.1)
