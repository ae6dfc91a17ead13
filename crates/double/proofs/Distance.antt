-- The count that the definition computes is the nearest of all counts, and the only one: from `closest` over the natural numbers to `IsNearest` over the integers.
-- A displacement is turned to the double's sign first, so that one law serves times before the reference and after it.
use mathlib.Core.Path.{◌≡◌, refl, sym, ap, ◌∙◌, subst}
use mathlib.Core.Bool.{Bool, true, false, cond}
use Prim.Native.Nat.{ℕ, suc, ◌+◌, ◌-◌, ◌*◌, ◌%◌, ◌≤◌, ◌<◌}
use native.Mathlib.Nat.{le_trans, le_of_eq, le_antisymm, suc-mul, mul-le-mul_right}
use native.Mathlib.Omega.{arith}
use native.Mathlib.Decide.{dec_lt, ℕ_discrete}
use lib.Dec.{eqb}
use lib.IntN.{ℤ, pos, negsuc, neg_ℤ, nat_abs, ◌+ℤ◌, ◌-ℤ◌, ◌*ℤ◌, neg_ℤ-neg_ℤ, neg_ℤ-+ℤ}
use lib.Ieee.{down}
use lib.Ieee.Fits.{down_pos}
use lib.Ieee.Nearest.{closest}
use Rattle.rounding.specs.Rounding.{is_exact}
use Rattle.rounding.proofs.Closest.{closest_is, is_closest, eqb_iff}
use Rattle.signed.proofs.Integers.{plus_minus, plus_difference, cancelled, over_sum, neg_times, dist, abs_neg, abs_diff}
use Rattle.signed.specs.Sign.{with_sign}
use Rattle.double.specs.Nearest.{exact_size, distance, IsNearest, nearest_size, nearest_count}

-- ---- d times the distance of a displacement w from ± a / d
abbrev off : Bool → ℕ → ℕ → ℤ → ℕ
off s a d w = nat_abs (with_sign s a -ℤ w *ℤ pos d)

off_pos : (a d c : ℕ) → off false a d (pos c) ≡ dist a (c * d)
off_pos a d c = abs_diff a (c * d)

off_neg : (a d c : ℕ) → off false a d (negsuc c) ≡ a + suc c * d
off_neg a d c = ap (λ (k : ℤ). nat_abs (pos a +ℤ k)) (neg_ℤ-neg_ℤ (pos (suc c * d)))

-- w with its sign changed where s is minus
abbrev turned : Bool → ℤ → ℤ
turned s w = cond s (neg_ℤ w) w

off_turned : (s : Bool) (a d : ℕ) (w : ℤ) → off s a d w ≡ off false a d (turned s w)
off_turned false a d w = refl
off_turned true a d w =
    ap nat_abs (sym (neg_ℤ-+ℤ (pos a) (w *ℤ pos d)))
    ∙ abs_neg (pos a +ℤ w *ℤ pos d)
    ∙ ap (λ (k : ℤ). nat_abs (pos a +ℤ k)) (sym (ap neg_ℤ (neg_times w d) ∙ neg_ℤ-neg_ℤ (w *ℤ pos d)))

turned_twice : (s : Bool) (w : ℤ) → turned s (turned s w) ≡ w
turned_twice true w = neg_ℤ-neg_ℤ w
turned_twice false w = refl

turned_abs : (s : Bool) (w : ℤ) → nat_abs (turned s w) ≡ nat_abs w
turned_abs true w = abs_neg w
turned_abs false w = refl

sign_turned : (s : Bool) (c : ℕ) → with_sign s c ≡ turned s (pos c)
sign_turned true c = refl
sign_turned false c = refl

-- ---- the integer nearest to a / d
module _ (a d : ℕ) (D : 0 < d) where
  abbrev c : ℕ
  c = closest a d

  apart : (x y : ℕ) → x < y → x * d + d ≤ y * d
  apart x y h = le_trans (le_of_eq (sym (suc-mul x d))) (mul-le-mul_right d h)

  within_half : dist a (c * d) * 2 ≤ d
  within_half = let n = closest_is a d D in omega (arith, n.above, n.below)

  -- a natural number is the nearest one, or a whole d away from it
  elsewhere : {A : Type 0} (x : ℕ) → (c * d + d ≤ x * d → A) → (x * d + d ≤ c * d → A) → (c ≡ x → A) → A
  elsewhere x f g k =
      elim (dec_lt c x) [
        | yes h ↦ f (apart c x h)
        | no h ↦ elim (dec_lt x c) [ yes l ↦ g (apart x c l) | no l ↦ k (omega arith) ]
      ]

  best : (w : ℤ) → dist a (c * d) ≤ off false a d w
  best (pos x) =
      let n = closest_is a d D in
      let k = within_half in
      subst (λ (k : ℕ). dist a (c * d) ≤ k) (sym (off_pos a d x))
      (elsewhere x (λ h. omega (arith, n.above, n.below)) (λ h. omega (arith, n.above, n.below)) (λ h. le_of_eq (ap (λ (y : ℕ). dist a (y * d)) h)))
  best (negsuc x) =
      let k = within_half in
      let m = suc-mul x d in
      subst (λ (k : ℕ). dist a (c * d) ≤ k) (sym (off_neg a d x)) (omega arith)

  tie : (w : ℤ) → dist a (c * d) ≡ off false a d w → (pos c ≡ w → ⊥) → c % 2 ≡ 0
  tie (pos x) e f =
      let n = closest_is a d D in
      let k = within_half in
      let g : dist a (c * d) ≡ dist a (x * d) = e ∙ off_pos a d x in
      elsewhere x (λ h. n.tie_below (omega (arith, n.above, n.below))) (λ h. n.tie_above (omega (arith, n.above, n.below))) (λ h. absurd (f (ap pos h)))
  tie (negsuc x) e f =
      let k = within_half in
      let m = suc-mul x d in
      let g : dist a (c * d) ≡ a + suc x * d = e ∙ off_neg a d x in
      absurd (omega arith)

  only : (w : ℤ) → off false a d w ≤ dist a (c * d) → ((w ≡ pos c → ⊥) → nat_abs w % 2 ≡ 0) → w ≡ pos c
  only (pos x) h f = elim (ℕ_discrete x c) [ yes e ↦ ap pos e | no g ↦ ap pos (go (subst (λ (k : ℕ). k ≤ dist a (c * d)) (off_pos a d x) h) (f (λ (e : pos x ≡ pos c). g (ap nat_abs e)))) ]
    where
      go : dist a (x * d) ≤ dist a (c * d) → x % 2 ≡ 0 → x ≡ c
      go k e = let m = within_half in is_closest {p = x * d} D (record { is = refl; above = omega arith; below = omega arith; tie_above = λ t. e; tie_below = λ t. e })
  only (negsuc x) h f =
      let k = within_half in
      let m = suc-mul x d in
      let g : a + suc x * d ≤ dist a (c * d) = subst (λ (k : ℕ). k ≤ dist a (c * d)) (off_neg a d x) h in
      absurd (omega arith)

-- ---- the count nearest to the exact time
module _ (R : ℤ) (P : ℕ) (s : Bool) (m : ℕ) (e : ℤ) where
  abbrev a : ℕ
  a = exact_size P m e

  abbrev d : ℕ
  d = down e

  abbrev size : ℕ
  size = nearest_size P m e

  abbrev count : ℤ
  count = nearest_count R P s m e

  distance_off : (w : ℤ) → distance R P s m e (R +ℤ w) ≡ off s a d w
  unfolding distance
  distance_off w =
      ap nat_abs
      (ap (λ (k : ℤ). R *ℤ pos d +ℤ with_sign s a -ℤ k) (over_sum R w (pos d)) ∙ cancelled (R *ℤ pos d) (with_sign s a) (w *ℤ pos d))

  distance_is : (z : ℤ) → distance R P s m e z ≡ off false a d (turned s (z -ℤ R))
  distance_is z = ap (λ (k : ℤ). distance R P s m e k) (sym (plus_difference R z)) ∙ distance_off (z -ℤ R) ∙ off_turned s a d (z -ℤ R)

  displacement : turned s (count -ℤ R) ≡ pos size
  displacement = ap (λ (k : ℤ). turned s k) (plus_minus R (with_sign s size) ∙ sign_turned s size) ∙ turned_twice s (pos size)

  count_distance : distance R P s m e count ≡ dist a (size * d)
  count_distance = distance_is count ∙ ap (λ (k : ℤ). off false a d k) displacement ∙ off_pos a d size

  -- z is the count, where its displacement is
  count_from_lem : (z : ℤ) → turned s (z -ℤ R) ≡ pos size → z ≡ count
  count_from_lem z h = sym (plus_difference R z) ∙ ap (λ (k : ℤ). R +ℤ k) (sym (turned_twice s (z -ℤ R)) ∙ ap (λ (k : ℤ). turned s k) h ∙ sym (sign_turned s size))

  pub count_nearest : IsNearest R P s m e count
  count_nearest =
      record {
        closest_of_all = λ (z' : ℤ). le_trans (le_of_eq count_distance) (le_trans (best a d (down_pos e) (turned s (z' -ℤ R))) (le_of_eq (sym (distance_is z'))));
        even_of_two = λ (z' : ℤ) (q : distance R P s m e count ≡ distance R P s m e z') (f : count ≡ z' → ⊥).
            ap (λ (k : ℕ). k % 2) (sym (turned_abs s (count -ℤ R)) ∙ ap nat_abs displacement)
            ∙ tie a d (down_pos e) (turned s (z' -ℤ R)) (sym count_distance ∙ q ∙ distance_is z') (λ (g : pos size ≡ turned s (z' -ℤ R)). f (sym (count_from_lem z' (sym g))));
      }

  pub count_only : (z : ℤ) → IsNearest R P s m e z → z ≡ count
  count_only z n =
      count_from_lem z
      (only a d (down_pos e) (turned s (z -ℤ R)) as_close
      (λ (f : turned s (z -ℤ R) ≡ pos size → ⊥).
      ap (λ (k : ℕ). k % 2) (turned_abs s (z -ℤ R))
      ∙ n.even_of_two count (le_antisymm (n.closest_of_all count) (count_nearest.closest_of_all z)) (λ (q : z ≡ count). f (ap (λ (k : ℤ). turned s (k -ℤ R)) q ∙ displacement))))
    where
      as_close : off false a d (turned s (z -ℤ R)) ≤ dist a (size * d)
      as_close = le_trans (le_of_eq (sym (distance_is z))) (le_trans (n.closest_of_all count) (le_of_eq count_distance))

  pub count_half : distance R P s m e count * 2 ≤ down e
  count_half = subst (λ (k : ℕ). k * 2 ≤ down e) (sym count_distance) (within_half a d (down_pos e))

  pub count_exact : is_exact (exact_size P m e) (down e) ≡ eqb (distance R P s m e count) 0
  count_exact =
      eqb_iff (size * d) a (dist a (size * d)) 0 (λ q. none a (size * d) q) (λ q. same a (size * d) q)
      ∙ ap (λ (k : ℕ). eqb k 0) (sym count_distance)
    where
      none : (a p : ℕ) → p ≡ a → (a - p) + (p - a) ≡ 0
      none a p q = omega arith

      same : (a p : ℕ) → (a - p) + (p - a) ≡ 0 → p ≡ a
      same a p q = omega arith
