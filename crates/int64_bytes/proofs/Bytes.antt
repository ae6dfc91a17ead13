-- Eight bytes and the number that they are.
use mathlib.Core.Path.{◌≡◌, refl, ap, ◌∙◌}
use mathlib.Core.List.{List, [], ◌∷◌}
use Prim.Native.Nat.{ℕ, zero, suc, ◌+◌, ◌*◌, ◌/◌, ◌%◌, ◌<◌}
use native.Mathlib.Omega.{arith}
use lib.ListN.{length, drop, get_or, drop_of_length-le}
use lib.Seq.{drop-cons}
use Rattle.int64_bytes.specs.LittleEndian.{little_endian, little_bytes}

-- a list of eight, element by element
pub eight : (s : List ℕ) → length s ≡ 8 → s ≡ get_or s 0 0 ∷ get_or s 1 0 ∷ get_or s 2 0 ∷ get_or s 3 0 ∷ get_or s 4 0 ∷ get_or s 5 0 ∷ get_or s 6 0 ∷ get_or s 7 0 ∷ []
eight s h =
    let step : (k : ℕ) → k < 8 → drop k s ≡ get_or s k 0 ∷ drop (suc k) s = λ k g. drop-cons s k 0 (omega arith) in
    step 0 (omega arith)
    ∙ ap (λ (t : List ℕ). get_or s 0 0 ∷ t)
    (step 1 (omega arith)
    ∙ ap (λ (t : List ℕ). get_or s 1 0 ∷ t)
    (step 2 (omega arith)
    ∙ ap (λ (t : List ℕ). get_or s 2 0 ∷ t)
    (step 3 (omega arith)
    ∙ ap (λ (t : List ℕ). get_or s 3 0 ∷ t)
    (step 4 (omega arith)
    ∙ ap (λ (t : List ℕ). get_or s 4 0 ∷ t)
    (step 5 (omega arith)
    ∙ ap (λ (t : List ℕ). get_or s 5 0 ∷ t) (step 6 (omega arith) ∙ ap (λ (t : List ℕ). get_or s 6 0 ∷ t) (step 7 (omega arith) ∙ ap (λ (t : List ℕ). get_or s 7 0 ∷ t) (drop_of_length-le s {i = 8} (omega arith)))))))))

-- ---- there and back
pub little_back : (w : ℕ) → w < 18446744073709551616 → little_endian (little_bytes 8 w) ≡ w
unfolding little_endian little_bytes
little_back w h = omega arith

pub bytes_back : (s : List ℕ) → ((i : ℕ) → get_or s i 0 < 256) → little_bytes (length s) (little_endian s) ≡ s
unfolding little_endian little_bytes
bytes_back [] f = refl
bytes_back (b ∷ s) f =
    let w = little_endian s in
    let first : (b + 256 * w) % 256 ≡ b = omega (arith, f 0) in
    let rest : (b + 256 * w) / 256 ≡ w = omega (arith, f 0) in
    λ i. first i ∷ (ap (little_bytes (length s)) rest ∙ bytes_back s (λ i. f (suc i))) i

-- the bytes of a number are bytes
pub bytes_small : (k w i : ℕ) → get_or (little_bytes k w) i 0 < 256
unfolding little_bytes
bytes_small zero w i = omega arith
bytes_small (suc k) w zero = omega arith
bytes_small (suc k) w (suc i) = bytes_small k (w / 256) i
