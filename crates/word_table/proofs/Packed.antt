-- Words as numbers: two words whose first byte is not 0 are the same exactly if their numbers are.
use Prim.Native.Nat.{ℕ, suc, ◌+◌, ◌-◌, ◌*◌, ◌^◌, ◌≤◌, ◌<◌}
use native.Mathlib.Omega.{arith}
use native.Mathlib.Nat.{pow-le-pow_right, mul-le-mul_right, le_antisymm}
use mathlib.Core.Path.{◌≡◌, refl, sym, ap, ap₂}
use mathlib.Core.Bool.{Bool, true, false, ◌&&◌}
use mathlib.Core.List.{List, [], ◌∷◌}
use lib.Dec.{leb, eqb}
use lib.ListN.{length, get_or}
use borrow.Author.Tests.{leb-true, leb-false, eq-eqb, ne_eqb}
use Rattle.grammar.specs.Grammar.{within, every, starts}
use Rattle.grammar.specs.Rules.{span, numeral, same}
use Rattle.grammar.proofs.Tests.{clash, and_parts}
use Rattle.grammar.proofs.Classes.{starts_every}
use Rattle.grammar.proofs.Places.{span_parts, span_in}
use Rattle.grammar.proofs.Numerals.{numeral_above, numeral_below}
use Rattle.grammar.proofs.Same.{same_refl, same_true}
use Rattle.word_table.specs.Packed.{packed}

-- a text whose elements are all below 256
pub are_bytes : (s : List ℕ) → ((i : ℕ) → get_or s i 0 < 256) → every (span 0 255) s ≡ true
unfolding every
are_bytes [] h = refl
are_bytes (b ∷ s) h = rw (span_in 0 255 b (omega arith) (omega (arith, h 0))) (are_bytes s (λ i. h (suc i)))

-- a text in a span is in every wider one
wider : (lo hi a z : ℕ) (s : List ℕ) → a ≤ lo → hi ≤ z → every (span lo hi) s ≡ true → every (span a z) s ≡ true
unfolding every
wider lo hi a z [] l h e = refl
wider lo hi a z (b ∷ s) l h e =
    let p = and_parts (within (span lo hi) b) (every (span lo hi) s) e in
    let q = span_parts lo hi b p.0 in
    rw (span_in a z b (omega arith) (omega arith)) (wider lo hi a z s l h p.1)

-- bytes, of which the first is not 0
abbrev pub headed : List ℕ → Bool
headed w = starts (span 1 255) w && every (span 0 255) w

pub span_headed : (lo hi : ℕ) (w : List ℕ) → 1 ≤ lo → hi ≤ 255 → 1 ≤ length w → every (span lo hi) w ≡ true → headed w ≡ true
span_headed lo hi w a z l h = rw (starts_every (span 1 255) w l (wider lo hi 1 255 w a z h)) (wider lo hi 0 255 w (omega arith) z h)

-- two texts of one length, with numbers before them
one_length : (m n : ℕ) (w v : List ℕ) → length w ≡ length v → every (span 0 255) w ≡ true → every (span 0 255) v ≡ true → numeral 256 0 m w ≡ numeral 256 0 n v → (m ≡ n) × (w ≡ v)
unfolding every
one_length m n [] [] l p q e = (e, refl)
one_length m n [] (c ∷ v) l p q e = absurd (omega arith)
one_length m n (b ∷ w) [] l p q e = absurd (omega arith)
one_length m n (b ∷ w) (c ∷ v) l p q e =
    let i = and_parts (within (span 0 255) b) (every (span 0 255) w) p in
    let j = and_parts (within (span 0 255) c) (every (span 0 255) v) q in
    let x = span_parts 0 255 b i.0 in
    let y = span_parts 0 255 c j.0 in
    let r = one_length (m * 256 + (b - 0)) (n * 256 + (c - 0)) w v (omega arith) i.1 j.1 e in
    let s = r.0 in
    (omega arith, ap₂ ◌∷◌ (omega arith) r.1)

-- a shorter text has a smaller number
shorter : (w v : List ℕ) → length w < length v → every (span 0 255) w ≡ true → starts (span 1 255) v ≡ true → packed w < packed v
unfolding starts
shorter w [] l p q = absurd (omega arith)
shorter w (c ∷ v) l p q =
    let y = span_parts 1 255 c q in
    let a : packed w < 256 ^ length w = numeral_below 256 0 (omega arith) w (length w) p (omega arith) in
    let k : 256 ^ length w ≤ 256 ^ length v = pow-le-pow_right (omega arith) (omega arith) in
    let b = numeral_above 256 0 (0 * 256 + (c - 0)) v in
    let z : 1 * 256 ^ length v ≤ (0 * 256 + (c - 0)) * 256 ^ length v = mul-le-mul_right (256 ^ length v) (omega arith) in
    omega arith

no_longer : (w v : List ℕ) → starts (span 1 255) w ≡ true → every (span 0 255) v ≡ true → packed w ≤ packed v → length w ≤ length v
no_longer w v p q h = go (leb (length w) (length v)) refl
  where
    go : (t : Bool) → leb (length w) (length v) ≡ t → length w ≤ length v
    go true e = leb-true (length w) (length v) e
    go false e = absurd (omega (arith, shorter v w (leb-false (length w) (length v) e) q p))

pub packed_same : (w v : List ℕ) → headed w ≡ true → headed v ≡ true → same w v ≡ eqb (packed w) (packed v)
packed_same w v hw hv = go (same w v) refl
  where
    p : (starts (span 1 255) w ≡ true) × (every (span 0 255) w ≡ true)
    p = and_parts (starts (span 1 255) w) (every (span 0 255) w) hw

    q : (starts (span 1 255) v ≡ true) × (every (span 0 255) v ≡ true)
    q = and_parts (starts (span 1 255) v) (every (span 0 255) v) hv

    equal : packed w ≡ packed v → w ≡ v
    equal e = (one_length 0 0 w v (le_antisymm (no_longer w v p.0 q.1 (omega arith)) (no_longer v w q.0 p.1 (omega arith))) p.1 q.1 e).1

    go : (t : Bool) → same w v ≡ t → t ≡ eqb (packed w) (packed v)
    go true e = sym (eq-eqb (packed w) (packed v) (ap packed (same_true w v e)))
    go false e = sym (ne_eqb (packed w) (packed v) (λ h. clash (rw (equal h) (same_refl v)) e))
