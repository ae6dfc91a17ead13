-- The bytes between two places, and the first place of a byte.
use Rattle.std.specs.Prelude.{ℕ, Bool, true, false, List, [], ◌∷◌, ◌==◌, take, drop}
use Prim.Native.Nat.{suc}

-- the bytes from one place on and before another
unfoldable pub slice : ℕ → ℕ → List ℕ → List ℕ
slice from to s = drop from (take to s)

-- the index with one byte in front: 0 where that byte is the one that is sought
abbrev pub index_after : Bool → ℕ → ℕ
index_after true k = 0
index_after false k = suc k

-- the index of the first byte that is c, or the length where there is none
unfoldable pub index_of : ℕ → List ℕ → ℕ
index_of c [] = 0
index_of c (b ∷ s) = index_after (b == c) (index_of c s)
