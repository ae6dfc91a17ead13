-- Tables of words: each row has some words and what they all mean.
use Rattle.std.specs.Prelude.{ℕ, Bool, false, ◌||◌, cond, List, [], ◌∷◌}
use Rattle.std.proofs.Math.Option.{Option, none, some}
use Rattle.grammar.specs.Rules.{same}

pub record Row (A : Type 0) : Type 0 where
  pub words : List (List ℕ)
  pub means : A

abbrev pub row : {A : Type 0} → List (List ℕ) → A → Row A
row w a = record { words = w; means = a }

-- the text is one of the words
abbrev pub among : List (List ℕ) → List ℕ → Bool
among [] w = false
among (n ∷ t) w = same w n || among t w

-- what the first row that has the word means
abbrev pub lookup : {A : Type 0} → List (Row A) → List ℕ → Option A
lookup [] w = none
lookup (r ∷ t) w = cond (among r.words w) (some r.means) (lookup t w)
