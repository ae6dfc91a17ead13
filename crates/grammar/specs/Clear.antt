-- Clear grammars: those in which the next byte alone tells which way each choice goes, and where each part ends (LL(1)).
-- `clear` is a test that the checker computes, so a rule that is not clear is refused where its own `clear rule ≡ true` is stated.
use Rattle.std.specs.Prelude.{Bool, true, ◌&&◌, ◌||◌, not, cond, [], ◌∷◌, ◌++◌, ltb}
use Rattle.grammar.specs.Grammar.{Range, Class, Grammar, empty, one, run, ◌▸◌, ◌or◌, maybe, give}
use Rattle.grammar.specs.Reader.{nullable, first}

-- the bytes with which a derived text could go on
unfoldable pub extends : {A : Type 0} → Grammar A → Class
unfolding first nullable
extends empty = []
extends (one c) = []
extends (run h c val) = c
extends (g ▸ h) = cond (nullable h) (extends g ++ extends h) (extends h)
extends (g or h) = extends g ++ extends h
extends (maybe d g) = first g ++ extends g
extends (give f g) = extends g

-- no byte is in both
unfoldable pub outside : Range → Class → Bool
outside k [] = true
outside k (m ∷ d) = (ltb k.hi m.lo || ltb m.hi k.lo) && outside k d

unfoldable pub apart : Class → Class → Bool
unfolding outside
apart [] d = true
apart (k ∷ c) d = outside k d && apart c d

unfoldable pub clear : {A : Type 0} → Grammar A → Bool
unfolding nullable first extends apart
clear empty = true
clear (one c) = true
clear (run h c val) = true
clear (g ▸ h) = clear g && (clear h && apart (extends g) (first h))
clear (g or h) = clear g && (clear h && (not (nullable g) && (not (nullable h) && apart (first g) (first h))))
clear (maybe d g) = clear g && not (nullable g)
clear (give f g) = clear g
