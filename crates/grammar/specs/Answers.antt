-- What the program's answers, each an `Option`, say of a text.
use Rattle.std.specs.Prelude.{ℕ, List, drop, Option as Answer, Some, None}
use Rattle.std.proofs.Math.Option.{Option, none, some}
use Rattle.grammar.specs.Reader.{Scan, found, nothing}

-- the answer for a value that there may be, and back
abbrev pub answer : {A : Type 0} → Option A → Answer A
answer none = None
answer (some v) = Some v

abbrev pub answered : {A : Type 0} → Answer A → Option A
answered None = none
answered (Some v) = some v

-- what stands at a place: a value with the place after it, or nothing
abbrev pub value_in : {A : Type 0} → List ℕ → Answer (A × ℕ) → Scan A
value_in s None = nothing
value_in s (Some (v, next)) = found v (drop next s)

abbrev pub number_in : List ℕ → Answer (ℕ × ℕ) → Scan ℕ
number_in s o = value_in s o

-- the place after a text that has no value of its own, or nothing
abbrev pub end_in : List ℕ → Answer ℕ → Scan (Unit {0})
end_in s None = nothing
end_in s (Some next) = found tt (drop next s)
