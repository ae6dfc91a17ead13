-- TT2000 by natural numbers: the nanoseconds from the beginning of 1970, leap seconds counted, less 946727967816000000.
use Rattle.std.specs.Prelude.{Result, Ok, Err}
use mathlib.Core.Path.{◌≡◌, refl, sym, ap, ◌∙◌}
use mathlib.Core.Bool.{Bool, true, false, cond}
use mathlib.Core.List.{List}
use Prim.Native.Nat.{ℕ, suc, ◌+◌, ◌-◌, ◌*◌, ◌/◌, ◌%◌, ◌<◌, ◌≤◌}
use native.Mathlib.Omega.{arith}
use lib.IntN.{ℤ, pos, negsuc, sub_ℕ, ◌+ℤ◌, ◌-ℤ◌, ◌*ℤ◌}
use borrow.Author.Tests.{le-leb, lt-leb}
use Rattle.refusal.specs.declared.Refusal.TheVariants.{OutOfRange, Before1972}
use Rattle.signed.specs.Bias.{unbiased}
use Rattle.signed.proofs.Differences.{by_sign, sub_low, sub_high, same_diff, sub_plus}
use Rattle.leap_seconds.specs.Leaps.{Leap, leaps}
use Rattle.leap_seconds.specs.Utc.{moment_at}
use Rattle.leap_seconds.specs.Closed.{CountIs}
use Rattle.leap_seconds.proofs.Listed.{Listed}
use Rattle.leap_seconds.proofs.OnDays.{count_is, first_holds}
use Rattle.tt2000.specs.Tt2000.{clock_seconds, tt_of, start_of, utc_fields_at, after_start, in64_bits, limited}
use Rattle.refusal.specs.declared.Refusal.{Refusal}

-- the number of second t, of which n nanoseconds have passed
abbrev pub number_at : ℕ → ℕ → ℤ
number_at t n = sub_ℕ (t * 1000000000 + n) 946727967816000000

pub tt_is : (l : List Leap) (d q n k : ℕ) → CountIs l d k → tt_of l (pos d) q n ≡ number_at (d * 86400 + q + k) n
tt_is l d q n k c =
    ap (λ (z : ℤ). (clock_seconds (pos d) q +ℤ z) *ℤ pos 1000000000 +ℤ pos n +ℤ pos 32184000000 -ℤ clock_seconds (pos 10957) 43200 *ℤ pos 1000000000) c.is
    ∙ same_diff ((d * 86400 + q + k) * 1000000000 + n + 32184000000) 946728000000000000 ((d * 86400 + q + k) * 1000000000 + n) 946727967816000000 (omega arith)

-- ---- 64 bits

module _ (k : ℕ) where
  pub in_64 : k < 10170100004670775808 → Ok (sub_ℕ k 946727967816000000) ≡ limited (sub_ℕ k 946727967816000000)
  in_64 h = ap (λ (b : Bool). cond b (Ok (sub_ℕ k 946727967816000000)) (Err OutOfRange)) (sym (by_sign (λ (z : ℤ). in64_bits z ≡ true) k 946727967816000000 (λ g. rw (le-leb (946727967816000000 - suc k) 9223372036854775807 (omega arith))) (λ g. le-leb (k - 946727967816000000) 9223372036854775807 (omega arith))))

  pub past_64 : 10170100004670775808 ≤ k → Err OutOfRange ≡ limited (sub_ℕ k 946727967816000000)
  past_64 h = ap (λ (b : Bool). cond b (Ok (sub_ℕ k 946727967816000000)) (Err OutOfRange)) (sym (by_sign (λ (z : ℤ). in64_bits z ≡ false) k 946727967816000000 (λ g. absurd (omega arith)) (λ g. lt-leb (k - 946727967816000000) 9223372036854775807 (omega arith))))

-- a number is given where it fits
pub data Limited (z : ℤ) : Result ℤ Refusal → Type 0 where
  in_bits : in64_bits z ≡ true → Limited z (Ok z)
  too_great : Limited z (Err OutOfRange)

pub limits : (z : ℤ) → Limited z (limited z)
limits z = go (in64_bits z) refl
  where
    go : (t : Bool) → in64_bits z ≡ t → Limited z (cond t (Ok z) (Err OutOfRange))
    go true e = in_bits e
    go false e = too_great

-- ---- from the beginning of 1972

module _ (s : List ℕ) (l : Listed s) where
  pub start_is : start_of (leaps s) ≡ negsuc 883655957815999999
  start_is = tt_is (leaps s) 730 0 0 10 (count_is s l 730 0 (first_holds s l)) ∙ refl

  -- of the number k - 2^63
  pub since_start : (k : ℕ) → unbiased k -ℤ start_of (leaps s) ≡ sub_ℕ (k + 883655957816000000) 9223372036854775808
  since_start k = ap (λ (z : ℤ). unbiased k -ℤ z) start_is ∙ sub_plus k 9223372036854775808 883655957816000000

  module _ (k : ℕ) where
    pub before_start : k + 883655957816000000 < 9223372036854775808 → Err Before1972 ≡ after_start (leaps s) (unbiased k -ℤ start_of (leaps s))
    unfolding after_start
    before_start h = sym (ap (after_start (leaps s)) (since_start k ∙ sub_low (k + 883655957816000000) 9223372036854775808 h))

    pub from_start : (n : ℕ) → n + 9223372036854775808 ≡ k + 883655957816000000 → Ok (utc_fields_at (moment_at (leaps s) (n / 1000000000)) (n % 1000000000)) ≡ after_start (leaps s) (unbiased k -ℤ start_of (leaps s))
    unfolding after_start
    from_start n e =
        let h : k + 883655957816000000 - 9223372036854775808 ≡ n = omega arith in
        sym (ap (after_start (leaps s)) (since_start k ∙ (sub_high (k + 883655957816000000) 9223372036854775808 (omega arith) ∙ ap pos h)))
