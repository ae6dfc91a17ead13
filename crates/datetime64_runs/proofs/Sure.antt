-- Passes that find one fact of every place.
use Rattle.std.specs.Prelude.{Ok}
use mathlib.Core.Path.{◌≡◌, refl, sym, ap, subst}
use mathlib.Core.List.{List, [], ◌∷◌, map}
use mathlib.Core.Option.{Option, none}
use Prim.Native.Nat.{ℕ, suc, ◌+◌, ◌≤◌, ◌<◌}
use native.Mathlib.Omega.{arith}
use native.Mathlib.Decide.{dec_le}
use lib.Bits.{bit_or}
use lib.IntN.{ℤ}
use lib.ListN.{length, get_or}
use mir.Syntax.{w64}
use mir.Val.{SFits, to_z, of_z}
use mir.ValLaws.{to_z-of_z}
use Rattle.refusal.specs.declared.Refusal.{Refusal}
use Rattle.runs.specs.Run.{after, first_refused}
use Rattle.ratio.proofs.Places.{or_least}

-- P holds of each place before i
abbrev pub Before : (ℕ → Type 0) → ℕ → Type 0
Before P i = (j : ℕ) → j < i → P j

pub before_on : (P : ℕ → Type 0) (i : ℕ) → Before P i → P i → Before P (i + 1)
before_on P i f p j h =
    elim (dec_le (suc j) i) [
      | yes g ↦ f j g
      | no g ↦ let e : i ≡ j = omega arith in subst P e p
    ]

-- one number more is joined to those before it
pub joined : (P : ℕ → Type 0) (i m s t : ℕ) → (s ≤ m → Before P i) → (t ≤ m → P i) → bit_or s t ≤ m → Before P (i + 1)
joined P i m s t f g h = let o = or_least m s t h in before_on P i (f o.0) (g o.1)

-- where no element is refused
pub none_refused : {A : Type 0} (refusal : A → Option Refusal) (d : A) (xs : List A) → Before (λ (i : ℕ). refusal (get_or xs i d) ≡ none) (length xs) → first_refused refusal xs ≡ Ok tt
unfolding first_refused
none_refused refusal d [] f = refl
none_refused refusal d (x ∷ xs) f = λ j. after (f 0 (omega arith) j) (none_refused refusal d xs (λ i h. f (suc i) (omega arith)) j)

-- the elements' images are refused as they are
pub mapped : {A B : Type 0} (refusal : B → Option Refusal) (g : A → B) (xs : List A) → first_refused refusal (map g xs) ≡ first_refused (λ (x : A). refusal (g x)) xs
unfolding first_refused
mapped refusal g [] = refl
mapped refusal g (x ∷ xs) = ap (after (refusal (g x))) (mapped refusal g xs)

-- a number as the machine reads it back is one of 64 bits
pub machine_fits : (z : ℤ) → SFits w64 z → SFits w64 (to_z w64 (of_z w64 z))
machine_fits z f = subst (SFits w64) (sym (to_z-of_z w64 z f)) f
