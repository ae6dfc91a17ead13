-- What the check of an axis settles.
use Rattle.std.specs.Prelude.{Result, Ok, Err}
use mathlib.Core.Path.{◌≡◌, refl, ap}
use mathlib.Core.Bool.{Bool, true, false, cond}
use Prim.Native.Nat.{ℕ}
use native.Mathlib.Omega.{arith}
use lib.IntN.{ℤ}
use Rattle.refusal.specs.declared.Refusal.{Refusal}
use Rattle.refusal.specs.declared.Refusal.TheVariants.{OutOfRange}
use Rattle.instant.specs.Instant.{in_range}
use Rattle.axis_types.specs.declared.Axis.{Axis}
use Rattle.axis.specs.Axis.{axis_check, on_good}
use Rattle.axis_types.specs.Reading.{Reading}

module _ (a : Axis) where
  pub good_in : in_range a.calendar a.reference ≡ true → Ok tt ≡ axis_check a
  unfolding axis_check
  good_in h = rw h

  pub past_out : in_range a.calendar a.reference ≡ false → Err OutOfRange ≡ axis_check a
  unfolding axis_check
  past_out h = rw h

  pub in_good : Ok tt ≡ axis_check a → in_range a.calendar a.reference ≡ true
  unfolding axis_check
  in_good = go (in_range a.calendar a.reference)
    where
      go : (b : Bool) → ◌≡◌ {A = Result (Unit {0}) Refusal} (Ok tt) (cond b (Ok tt) (Err OutOfRange)) → b ≡ true
      go true h = refl
      go false h = absurd (let k : ◌≡◌ {A = ℕ} 0 1 = cc in omega arith)

-- an offset is read on a good axis only
pub read_good : (k : Result (Unit {0}) Refusal) (r : Reading) (t : ℤ) (exact : Bool) → on_good k Err r ≡ Ok (t, exact) → Ok tt ≡ k
read_good (Ok good) r t exact h = refl
read_good (Err q) r t exact h = absurd (let k : ◌≡◌ {A = ℕ} 0 1 = cc in omega arith)

-- the answer on an axis, by its check
pub answered : {A : Type 0} (k : Result (Unit {0}) Refusal) (a : Axis) (refuse : Refusal → A) (answer : A) → k ≡ axis_check a → on_good k refuse answer ≡ on_good (axis_check a) refuse answer
answered k a refuse answer e = ap (λ (c : Result (Unit {0}) Refusal). on_good c refuse answer) e
