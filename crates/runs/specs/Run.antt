-- A lent run of offsets read at once, all or nothing: document 01's paragraph on runs.
-- The offsets are of any kind A, doubles or whole numbers, and `read` is the reading of one offset alone: a run has no reading of its own.
use Rattle.std.specs.Prelude.{cond, List, [], ◌∷◌, ◌++◌, map, ℕ, suc, ◌+◌, ltb, ℤ, length, drop, Result, Ok, Err}
use Rattle.std.proofs.Math.Option.{Option, none, some}
use Rattle.refusal.specs.Number.{number_of}
use Rattle.refusal.specs.declared.Refusal.{Refusal}
use Rattle.refusal.specs.declared.Refusal.TheVariants.{NoRoom}
use Rattle.axis_types.specs.Reading.{refusal_of, instant_of, Reading}
use Rattle.axis.specs.Axis.{on_good}
use Rattle.runs.specs.declared.RefusedAt.{RefusedAt}
use Rattle.runs.specs.declared.RunAnswer.{RunAnswer}

-- that every offset of a run is read, or the first refusal and its place
abbrev pub Check : Type 0
Check = Result (Unit {0}) RefusedAt

abbrev pub refused_at : Refusal → ℕ → Check
refused_at r place = Err (record { refusal = r; place = place })

-- ---- the first refusal, of elements of any kind that are refused or not
-- the check of a run, with one element more before it
abbrev pub after : Option Refusal → Check → Check
after (some r) rest = refused_at r 0
after none (Ok read) = Ok read
after none (Err e) = refused_at e.refusal (suc e.place)

-- the first refusal and its place, counted from 0, or that there is none
unfoldable pub first_refused : {A : Type 0} → (A → Option Refusal) → List A → Check
first_refused refusal [] = Ok tt
first_refused refusal (x ∷ xs) = after (refusal x) (first_refused refusal xs)

-- ---- the offsets
-- 1 of a reading that was rounded
abbrev pub mark_of : Reading → ℕ
mark_of (Ok (z, exact)) = cond exact 0 1
mark_of (Err r) = 0

module _ {A : Type 0} (read : A → Reading) where
  -- the first offset that is not read
  abbrev pub checked : List A → Check
  checked xs = first_refused (λ (x : A). refusal_of (read x)) xs

  -- how many offsets are rounded
  unfoldable pub rounded_count : List A → ℕ
  rounded_count [] = 0
  rounded_count (x ∷ xs) = mark_of (read x) + rounded_count xs

  -- the destination ds with the instants of xs: each at its own offset's place, and the places beyond as they were
  unfoldable pub overlaid : List A → List ℤ → List ℤ
  overlaid xs ds = map (λ (x : A). instant_of (read x)) xs ++ drop (length xs) ds

-- ---- the run xs on an axis of that check, lent the destination ds
-- refused for the axis, then for the room, else as the offsets are
unfoldable pub checked_first : Result (Unit {0}) Refusal → ℕ → ℕ → Check → Check
checked_first check length room offsets = on_good check (λ r. refused_at r 0) (cond (ltb room length) (refused_at NoRoom 0) offsets)

abbrev pub run_check : {A : Type 0} → (A → Reading) → Result (Unit {0}) Refusal → List A → ℕ → Check
run_check read check xs room = checked_first check (length xs) room (checked read xs)

-- of a run of that length: how many offsets are rounded, or the refusal
abbrev pub answer_of : Result ℕ RefusedAt → ℕ → RunAnswer
answer_of (Ok rounded) length = record { number = 0; place = 0; length = length; rounded = rounded }
answer_of (Err e) length = record { number = number_of e.refusal; place = e.place; length = 0; rounded = 0 }

abbrev pub with_rounded : Check → ℕ → Result ℕ RefusedAt
with_rounded (Ok read) rounded = Ok rounded
with_rounded (Err e) rounded = Err e

abbrev pub check_answer : Check → ℕ → ℕ → RunAnswer
check_answer check length rounded = answer_of (with_rounded check rounded) length

abbrev pub chosen : {A : Type 0} → Check → List A → List A → List A
chosen (Ok read) written kept = written
chosen (Err e) written kept = kept

module _ {A : Type 0} (read : A → Reading) (check : Result (Unit {0}) Refusal) (xs : List A) (ds : List ℤ) where
  -- the answer
  abbrev pub run_answer : RunAnswer
  run_answer = check_answer (run_check read check xs (length ds)) (length xs) (rounded_count read xs)

  -- the destination afterwards
  abbrev pub run_written : List ℤ
  run_written = chosen (run_check read check xs (length ds)) (overlaid read xs ds) ds
