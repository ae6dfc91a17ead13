-- The place of a number among the multiples.
use Rattle.std.proofs.Common.{◌≡◌, ℕ, ◌+◌, ◌-◌, ◌*◌, ◌%◌, ◌^◌, ◌<◌, ◌≤◌, sym, refl, ap, ◌∙◌, mul-le-mul_right, add-mul, le-mul_of_pos_right, le_of_mul-le-mul_right, arith}
use lib.Bits.{bit_or, or_add_and, and_le_l, and_le_r}
use Rattle.ratio.specs.Multiples.{Place, Steps, Good, IsMultiple}
use Rattle.ratio.specs.declared.Ratio.{Ratio}

-- at most below + above steps
pub steps_le : (step below above i : ℕ) → i ≤ below + above → i * step ≤ below * step + above * step
steps_le step below above i h = omega (arith, mul-le-mul_right step h, add-mul below above step)

module _ {from to below above : ℕ} (s : Steps from to below above) where
  pub few_below : below ≤ 9223372036854775808
  few_below = omega (arith, le-mul_of_pos_right below s.positive, s.least)

  pub few_above : above < 9223372036854775808
  few_above = omega (arith, le-mul_of_pos_right above s.positive, s.greatest)

  pub steps_fit : (i : ℕ) → i ≤ below + above → i * from < 18446744073709551616
  steps_fit i h = omega (arith, steps_le from below above i h, s.least, s.greatest)

  pub steps_fit_to : (i : ℕ) → i ≤ below + above → 9223372036854775808 - below * to + i * to < 18446744073709551616
  steps_fit_to i h = omega (arith, steps_le to below above i h, s.least_to, s.greatest_to)

-- ---- u is sought among the multiples: v lies between the least multiple and u, and n is the times that are found in it
module _ (r : Ratio) (u : ℕ) where
  abbrev pub first : ℕ
  first = 9223372036854775808 - r.below * r.from

  abbrev span : ℕ
  span = (r.below + r.above) * r.from

  pub from_first : (i : ℕ) → Place r.from r.below r.above u i → (first ≤ u) × (u - first ≡ i * r.from)
  from_first i p = (omega (arith, p.is, r.steps.least), omega (arith, p.is, r.steps.least))

  pub place_is : (n : ℕ) → ((i : ℕ) → u - first ≡ i * r.from → n ≡ i) → (i : ℕ) → Place r.from r.below r.above u i → n ≡ i
  place_is n times i p = times i (from_first i p).1

  pub exchange_fits : (n : ℕ) → ((i : ℕ) → u - first ≡ i * r.from → n ≡ i) → IsMultiple r u → 9223372036854775808 - r.below * r.to + n * r.to < 18446744073709551616
  exchange_fits n f p = steps_fit_to r.steps n (omega (arith, place_is n f p.0 p.1, p.1.inside))

  module _ (v : ℕ) (small : v < 2 ^ 64) (wraps : (v + first) % 2 ^ 64 ≡ u) where
    between_is : (i : ℕ) → Place r.from r.below r.above u i → v ≡ i * r.from
    between_is i p = let e = from_first i p in omega (arith, wraps, e.0, e.1, steps_fit r.steps i p.inside)

    pub past_last : span < v → IsMultiple r u → ⊥
    past_last h p = omega (arith, between_is p.0 p.1, mul-le-mul_right r.from p.1.inside)

    module _ (n : ℕ) (times : (i : ℕ) → v ≡ i * r.from → n ≡ i) where
      pub between_two : (n * r.from ≡ v → ⊥) → IsMultiple r u → ⊥
      between_two h p = let e = between_is p.0 p.1 in h (ap (λ (k : ℕ). k * r.from) (times p.0 e) ∙ sym e)

    pub found : (n : ℕ) → v ≤ span → n * r.from ≡ v → IsMultiple r u
    found n h e =
        let k : n ≤ r.below + r.above = le_of_mul-le-mul_right {k = r.from} (omega arith) r.steps.positive in
        let s = add-mul r.below r.above r.from in
        (n, record { inside = k; is = omega (arith, wraps, e, s, r.steps.least, r.steps.greatest) })

-- every ratio is one of its own steps
pub good : (r : Ratio) → Good r
good r = record { from_is = refl; to_is = refl; below_is = refl; above_is = refl; reciprocal = r.inverse; steps = r.steps }

-- ---- bounds
-- what is joined is at least as great as each part of it
pub or_least : (m a b : ℕ) → bit_or a b ≤ m → (a ≤ m) × (b ≤ m)
or_least m a b h = (omega (arith, or_add_and a b, and_le_r a b), omega (arith, or_add_and a b, and_le_l a b))

-- the difference of u from the lower bound wraps where u lies below it
pub between : (low high u above : ℕ) → low ≤ 9223372036854775808 → 9223372036854775808 ≤ high → high < 2 ^ 64 → above < 2 ^ 64 → u < 2 ^ 64 → (above + low) % 2 ^ 64 ≡ u → above ≤ high - low → (low ≤ u) × (u ≤ high)
between low high u above l h f g k e p = (omega arith, omega arith)

-- ---- the other way round
pub turned_steps : {from to below above : ℕ} → Steps from to below above → Steps to from below above
turned_steps s = record { positive = s.positive_to; positive_to = s.positive; least = s.least_to; greatest = s.greatest_to; least_to = s.least; greatest_to = s.greatest }
