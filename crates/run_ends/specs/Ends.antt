-- The ends of a run of offsets: the least and the greatest of them and zero, by comparing alone. Zero is counted in, so an empty run has ends too.
use Rattle.std.specs.Prelude.{◌≡◌, Bool, true, false, not, cond, List, [], ◌∷◌, ℤ, pos, Float, Option, Some, None, Result, Ok, is_ok, is_nan}
use Rattle.std.specs.Result.{result_unwrap_or}
use Rattle.std.specs.Int.Signed.{lt_z}
use Rattle.std.specs.Float.{fin}
use Rattle.std.specs.Float.Ieee.{lt}
use Rattle.run_ends.specs.declared.ends.Ends.{Ends}
use Rattle.refusal.specs.declared.Refusal.{Refusal}
use Rattle.axis_types.specs.Reading.{Reading}

module _ {B : Type 0} (before : B → B → Bool) where
  -- the lesser of two, and the second where neither comes before the other
  abbrev pub lesser : B → B → B
  lesser x y = cond (before x y) x y

  -- the greater is the lesser in the opposite order
  abbrev pub greater : B → B → B
  greater x y = cond (before y x) x y

-- the offsets of a run are compared by `number`
module _ {A B : Type 0} (number : A → B) (before : B → B → Bool) where
  -- the least of z and a run
  unfoldable pub least_from : B → List A → B
  least_from z [] = z
  least_from z (x ∷ xs) = least_from (lesser before (number x) z) xs

abbrev pub greatest_from : {A B : Type 0} → (A → B) → (B → B → Bool) → B → List A → B
greatest_from {A} {B} number before = least_from number (λ (x y : B). before y x)

-- both
abbrev pub ends_from : {A B : Type 0} → (A → B) → (B → B → Bool) → B → List A → Ends B
ends_from number before z xs = record { least = least_from number before z xs; greatest = greatest_from number before z xs }

-- whether a test passes for each offset of a run
unfoldable pub all_pass : {A : Type 0} → (A → Bool) → List A → Bool
all_pass good [] = true
all_pass good (x ∷ xs) = cond (good x) (all_pass good xs) false

-- ---- doubles
-- whether a double is no NaN
abbrev pub is_number : Float → Bool
is_number x = not (is_nan x)

abbrev pub zero_double : Float
zero_double = fin false 0 (pos 0)

abbrev pub double_ends : List Float → Option (Ends Float)
double_ends xs = cond (all_pass is_number xs) (Some (ends_from (λ (x : Float). x) lt zero_double xs)) None

-- ---- whole offsets, of which each has its place in their order
abbrev pub whole_ends : List ℤ → Ends ℤ
whole_ends xs = ends_from (λ (n : ℤ). n) lt_z (pos 0) xs

-- ---- offsets as the whole numbers of 64 bits that they are: whole offsets themselves, and doubles in calendar mode
abbrev pub whole_number : Result ℤ Refusal → ℤ
whole_number w = result_unwrap_or w (pos 0)

module _ {A : Type 0} (whole : A → Result ℤ Refusal) where
  abbrev pub ends_as_wholes : List A → Option (Ends ℤ)
  ends_as_wholes xs = cond (all_pass (λ (x : A). is_ok (whole x)) xs) (Some (ends_from (λ (x : A). whole_number (whole x)) lt_z (pos 0) xs)) None

  -- they are read as the whole numbers that they are
  abbrev pub AsWholes : (A → Reading) → (ℤ → Reading) → Type 0
  AsWholes read read_whole = (x : A) (n : ℤ) → whole x ≡ Ok n → read x ≡ read_whole n
