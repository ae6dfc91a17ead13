-- A fact that holds of each element of a run.
use Rattle.std.specs.Prelude.{true, List, [], ◌∷◌, T}

-- P holds of each of the elements
abbrev pub Each : {A : Type 0} → (A → Type 0) → List A → Type 0
Each P [] = T true
Each P (x ∷ xs) = P x × Each P xs
