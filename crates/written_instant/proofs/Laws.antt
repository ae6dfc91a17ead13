-- Instants with a zone taken off: sums and differences of integers as natural numbers with their bias of 2^63, and the range.
use Rattle.std.specs.Prelude.{Ok}
use mathlib.Core.Path.{◌≡◌, sym, ap, ◌∙◌}
use mathlib.Core.Bool.{Bool, true, false}
use Prim.Native.Nat.{ℕ, zero, suc, ◌+◌, ◌-◌, ◌≤◌, ◌<◌}
use native.Mathlib.Omega.{arith}
use lib.IntN.{ℤ, pos, negsuc, sub_ℕ, ◌+ℤ◌, ◌-ℤ◌, +ℤ_idr, neg_ℤ-neg_ℤ}
use lib.Dec.{ltb}
use borrow.Author.Tests.{ltb-true}
use Rattle.signed.proofs.Tests.{and_parts}
use Rattle.signed.specs.Bias.{unbiased}
use Rattle.signed.proofs.Differences.{by_sign, sub_low, same_diff, sub_plus}
use Rattle.calendar.specs.declared.Calendar.{Calendar}
use Rattle.instant.specs.Instant.{in_range, instant_with}
use Rattle.instant.specs.declared.Fields.{Fields}
use Rattle.instant.proofs.Theorems.{placed, shown, fields_of_instant}
use Rattle.date_text.specs.declared.Zone.{Zone}
use Rattle.date_text.specs.declared.WrittenDate.{WrittenDate}
use Rattle.signed.specs.Sign.{with_sign}
use Rattle.written_instant.specs.Instants.{is_zone, zone_length, ranged, less_zone}

-- ---- sums and differences

sub_minus : (a b s : ℕ) → sub_ℕ a b -ℤ pos s ≡ sub_ℕ a (b + s)
sub_minus a b zero = +ℤ_idr (sub_ℕ a b) ∙ ap (sub_ℕ a) (omega arith)
sub_minus a b (suc s) =
    by_sign (λ (z : ℤ). z +ℤ negsuc s ≡ sub_ℕ a (b + suc s)) a b
    (λ h. ap negsuc (omega arith) ∙ sym (sub_low a (b + suc s) (omega arith)))
    (λ h. same_diff (a - b) (suc s) a (b + suc s) (omega arith))

-- t is k - 2^63, and m is taken off or added
module _ (t : ℤ) (k m : ℕ) (e : unbiased k ≡ t) where
  pub taken_off : m ≤ k → unbiased (k - m) ≡ t -ℤ with_sign false m
  taken_off h = same_diff (k - m) 9223372036854775808 k (9223372036854775808 + m) (omega arith) ∙ sym (sub_minus k 9223372036854775808 m) ∙ ap (λ (z : ℤ). z -ℤ pos m) e

  pub added : unbiased (k + m) ≡ t -ℤ with_sign true m
  added = sym (sub_plus k 9223372036854775808 m) ∙ (λ i. e i +ℤ sym (neg_ℤ-neg_ℤ (pos m)) i)

no_zone : (t : ℤ) (b : Bool) (m : ℕ) → m ≡ 0 → t ≡ t -ℤ with_sign b m
no_zone t true m e = sym (+ℤ_idr t) ∙ ap (λ (n : ℕ). t -ℤ with_sign true n) (sym e)
no_zone t false m e = sym (+ℤ_idr t) ∙ ap (λ (n : ℕ). t -ℤ with_sign false n) (sym e)

-- ---- the range

-- the instant of fields lies in range, and what stands beside them is possible
pub local_range : (rest : Bool) (c : Calendar) (f : Fields) (t : ℤ) → instant_with rest c f ≡ Ok t → (rest ≡ true) × (in_range c t ≡ true)
local_range rest c f t h =
    let b = (placed rest c f t h).beside in
    (b, (shown c t f (fields_of_instant c f t (ap (λ (r : Bool). instant_with r c f) (sym b) ∙ h))).inside)

-- ---- a local instant less a zone

abbrev pub with_year : ℤ → WrittenDate → Fields
with_year y w =
    record {
      year = y;
      month = w.month;
      day = w.day;
      hour = w.time.hour;
      minute = w.time.minute;
      second = w.time.second;
      microsecond = w.time.microsecond;
    }

module _ (c : Calendar) (z : Zone) (t : ℤ) where
  pub zone_zero : in_range c t ≡ true → zone_length z ≡ 0 → Ok t ≡ less_zone c z (Ok t)
  zone_zero r e =
      let s : ranged c t ≡ Ok t = rw r in
      sym s ∙ ap (ranged c) (no_zone t z.behind (zone_length z) e)

-- a zone that is possible is less than a day
pub zone_parts : (z : Zone) → is_zone z ≡ true → (z.hours < 24) × (z.minutes < 60)
zone_parts z h =
    let w = and_parts (ltb z.hours 24) (ltb z.minutes 60) h in
    (ltb-true z.hours 24 w.0, ltb-true z.minutes 60 w.1)
