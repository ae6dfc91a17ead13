-- A signed number as a function takes it: it is read back from its bits.
use mathlib.Core.Path.{◌≡◌, ap, ◌∙◌}
use Prim.Native.Nat.{ℕ}
use lib.IntN.{ℤ}
use mir.Syntax.{w64}
use mir.Val.{SFits, to_z, of_z}
use mir.ValLaws.{to_z-of_z}
use Rattle.signed.specs.Bias.{biased, unbiased}
use Rattle.signed.proofs.Differences.{unbiased_biased}

-- z as the machine reads it
abbrev pub read : ℤ → ℤ
read z = to_z w64 (of_z w64 z)

-- after `let k = biased(z)`: z is k - 2^63
pub crossed : (z : ℤ) (k : ℕ) → SFits w64 z → k ≡ biased (read z) → unbiased k ≡ z
crossed z k f e = ap unbiased (e ∙ ap biased (to_z-of_z w64 z f)) ∙ unbiased_biased z f
