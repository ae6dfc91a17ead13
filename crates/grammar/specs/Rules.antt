-- The rules that the text rules of the library are made of: characters, digits, numbers, and words in any mix of cases.
use Rattle.std.specs.Prelude.{ℕ, ◌+◌, ◌-◌, ◌*◌, Bool, true, false, ◌&&◌, cond, List, [], ◌∷◌, length, leb, eqb}
use Prim.Native.String.{String}
use Prim.Native.Char.{Char, code}
use Rattle.std.proofs.Math.Option.{none, some}
use Rattle.grammar.specs.Grammar.{Class, Grammar, empty, one, run, ◌▸◌, maybe, give}

infixr 40 ◌⇒◌
-- the bytes of a quoted text
abbrev pub bytes : String → List ℕ
bytes String.[] = []
bytes (String.◌∷◌ c s) = code c ∷ bytes s

-- classes: the bytes from lo to hi; those from one character to another; those of a list
abbrev pub span : ℕ → ℕ → Class
span lo hi = record { lo = lo; hi = hi } ∷ []

abbrev pub range : Char → Char → Class
range a z = span (code a) (code z)

abbrev pub any_of : List ℕ → Class
any_of [] = []
any_of (b ∷ s) = record { lo = b; hi = b } ∷ any_of s

-- a character
abbrev pub char : Char → Grammar ℕ
char c = one (range c c)

-- a text that may be absent, and the value that it then has
abbrev pub optional : {A : Type 0} → A → Grammar A → Grammar A
optional d g = maybe d g

-- a text and then another, for the other's value
abbrev pub ◌⇒◌ : {A B : Type 0} → Grammar A → Grammar B → Grammar B
◌⇒◌ {A} {B} g h = give (λ (v : A × B). v.1) (g ▸ h)

abbrev pub digit : Class
digit = range "0" "9"

-- the number that a text writes to a base, after digits that write n; `nought` is the byte of the digit 0
abbrev pub numeral : ℕ → ℕ → ℕ → List ℕ → ℕ
numeral base nought n [] = n
numeral base nought n (b ∷ s) = numeral base nought (n * base + (b - nought)) s

abbrev pub decimal : ℕ → List ℕ → ℕ
decimal n s = numeral 10 48 n s

-- 1 to hi digits
abbrev pub number : ℕ → Grammar ℕ
number hi = run digit digit (λ s. cond (leb (length s) hi) (some (decimal 0 s)) none)

-- exactly two digits
abbrev pub two : Grammar ℕ
two = give (λ (v : ℕ × ℕ). decimal 0 (v.0 ∷ v.1 ∷ [])) (one digit ▸ one digit)

-- a letter in either case, and a word in any mix of cases; both are given in capitals, and the small letter of a capital is 32 above it
abbrev pub either : ℕ → Class
either b = any_of (b ∷ (b + 32) ∷ [])

abbrev pub spelled : List ℕ → Grammar (Unit {0})
spelled [] = empty
spelled (b ∷ s) = one (either b) ⇒ spelled s

abbrev pub word : String → Grammar (Unit {0})
word s = spelled (bytes s)

-- the two texts are the same
abbrev pub same : List ℕ → List ℕ → Bool
same [] [] = true
same [] (b ∷ t) = false
same (a ∷ s) [] = false
same (a ∷ s) (b ∷ t) = eqb a b && same s t
