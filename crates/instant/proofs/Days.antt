-- The day and the time of an instant with its bias of 2^63.
use mathlib.Core.Path.{◌≡◌, sym, ap, ◌∙◌}
use Prim.Native.Nat.{ℕ, ◌+◌, ◌-◌, ◌/◌, ◌%◌, ◌≤◌, ◌<◌}
use native.Mathlib.Omega.{arith}
use lib.IntN.{ℤ, pos, negsuc}
use Rattle.signed.specs.Bias.{unbiased}
use Rattle.signed.proofs.Differences.{by_sign, sub_low, sub_high}
use Rattle.instant.specs.Instant.{day_of, time_of}

-- 2^63 microseconds are 106751991 days and 14454775808 microseconds
module _ (k : ℕ) where
  pub day_early : k < 14454775808 → unbiased 9223372036748023816 ≡ day_of (unbiased k)
  unfolding day_of
  day_early h = sym (ap day_of (sub_low k 9223372036854775808 (omega arith)) ∙ ap negsuc (omega arith))

  pub time_early : k < 14454775808 → k + 71945224192 ≡ time_of (unbiased k)
  unfolding time_of
  time_early h = sym (ap time_of (sub_low k 9223372036854775808 (omega arith)) ∙ omega arith)

  pub day_late : 14454775808 ≤ k → unbiased ((k - 14454775808) / 86400000000 + 9223372036748023817) ≡ day_of (unbiased k)
  unfolding day_of
  day_late h =
      let q = (k - 14454775808) / 86400000000 + 9223372036748023817 in
      sym
      (by_sign (λ (z : ℤ). day_of z ≡ unbiased q) k 9223372036854775808
      (λ g. ap negsuc (omega arith) ∙ sym (sub_low q 9223372036854775808 (omega arith)))
      (λ g. ap pos (omega arith) ∙ sym (sub_high q 9223372036854775808 (omega arith))))

  pub time_late : 14454775808 ≤ k → (k - 14454775808) % 86400000000 ≡ time_of (unbiased k)
  unfolding time_of
  time_late h = sym (by_sign (λ (z : ℤ). time_of z ≡ (k - 14454775808) % 86400000000) k 9223372036854775808 (λ g. omega arith) (λ g. omega arith))
