-- A number with a sign, from its sum with 2^63.
use mathlib.Core.Path.{◌≡◌, refl, ap, ◌∙◌}
use mathlib.Core.Bool.{true}
use Prim.Native.Nat.{ℕ, zero, suc, ◌-◌, ◌≤◌}
use native.Mathlib.Omega.{arith}
use lib.IntN.{negsuc}
use Rattle.signed.specs.Bias.{unbiased}
use Rattle.signed.specs.Sign.{with_sign}
use Rattle.signed.proofs.Differences.{sub_low}

pub signed_minus : (n : ℕ) → n ≤ 9223372036854775808 → unbiased (9223372036854775808 - n) ≡ with_sign true n
signed_minus zero h = refl
signed_minus (suc n) h = sub_low (9223372036854775808 - suc n) 9223372036854775808 (omega arith) ∙ ap negsuc (omega arith)
