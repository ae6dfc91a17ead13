-- The multiples of a step among the signed 64-bit numbers, from -below times the step to above times it. Numbers have their bias of 2^63 here.
-- No promise to a caller of the library rests on it.
use Rattle.std.specs.Prelude.{◌≡◌, ℕ, ◌<◌, ◌≤◌}
pub use Rattle.ratio.specs.Steps.{Place, Steps, reciprocal_of}
use Rattle.ratio.specs.declared.Ratio.{Ratio}
use Rattle.ratio.specs.declared.Bounds.{Bounds}

pub record IsRatio (r : Ratio) (from to below above : ℕ) : Type 0 where
  pub from_is : r.from ≡ from
  pub to_is : r.to ≡ to
  pub below_is : r.below ≡ below
  pub above_is : r.above ≡ above
  pub reciprocal : r.reciprocal ≡ reciprocal_of from
  pub steps : Steps from to below above

abbrev pub Good : Ratio → Type 0
Good r = IsRatio r r.from r.to r.below r.above

-- u is one of the multiples that are exchanged
abbrev pub IsMultiple : Ratio → ℕ → Type 0
IsMultiple r u = (i : ℕ) × Place r.from r.below r.above u i

-- ---- bounds, of 64 bits
abbrev pub AroundZero : Bounds → Type 0
AroundZero b = (b.low ≤ 9223372036854775808) × (9223372036854775808 ≤ b.high) × (b.high < 18446744073709551616)

abbrev pub Between : Bounds → ℕ → Type 0
Between b u = (b.low ≤ u) × (u ≤ b.high)

pub record IsBounds (r : Ratio) (b : Bounds) : Type 0 where
  pub around : AroundZero b
  pub all : (u : ℕ) → Between b u → IsMultiple r u
