-- CLOSED FORM: a line's parts by the places of its bars, which private functions compute; proofs/Parts.antt joins them to `parted`.
use Rattle.std.specs.Prelude.{◌≡◌, ℕ, ◌+◌, ◌-◌, ◌<◌, List, [], ◌∷◌, length, take, drop, Err, Option, Some, None}
use Rattle.refusal.specs.declared.Refusal.TheVariants.{IllFormed}
use Rattle.listing_line.specs.Line.{parted, of_parts}

-- the bytes from one place to another
abbrev pub part : ℕ → ℕ → List ℕ → List ℕ
part from to s = take (to - from) (drop from s)

-- two bars, at a and at b
pub record Places (s : List ℕ) (a b : ℕ) : Type 0 where
  pub first : a < b
  pub second : b < length s
  pub parts : parted s ≡ part 0 a s ∷ part (a + 1) b s ∷ part (b + 1) (length s) s ∷ []

-- the bars are where they are said to be, or there are not two
abbrev pub BarsOf : List ℕ → Option (ℕ × ℕ) → Type 0
BarsOf s (Some (a, b)) = Places s a b
BarsOf s None = of_parts (parted s) ≡ Err IllFormed
