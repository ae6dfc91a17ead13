-- `closest a d`, the whole number nearest to a / d, a tie to the even one: the properties that determine it, and its laws for shifts of words.
-- A reader may rely on `closest_is` and `is_closest`: a number is `closest a d` just where it has the five properties of `IsClosest`.
use mathlib.Core.Path.{◌≡◌, refl, sym, ap, ◌∙◌, subst}
use mathlib.Core.Logic.{◌⊎◌, inl, inr}
use mathlib.Core.Bool.{Bool, true, false, not}
use Prim.Native.Nat.{ℕ, zero, suc, ◌+◌, ◌*◌, ◌/◌, ◌%◌, ◌≤◌, ◌<◌, compare, Ordering}
use native.Mathlib.Nat.{mul_right_comm, mul-le-mul_right, suc-mul, mod-lt, div-add-mod', eq_of_mul-eq-mul_right}
use native.Mathlib.Omega.{arith}
use native.Mathlib.Decide.{dec_lt}
use lib.Dec.{T, is_le, compare_is_eq, eqb, leb→le, nleb→lt, eqb→eq, eqb_refl}
use lib.Arith.{lt_of_le-ne}
use lib.Ieee.{nearest}
use lib.Ieee.Nearest.{closest, closest_same}
use borrow.Author.Tests.{eq-eqb, ne_eqb, eqb-true, eqb-false}
use Rattle.rounding.specs.Rounding.{is_exact}

-- ---- what `compare` says
abbrev Compared : Ordering → ℕ → ℕ → Type 0
Compared Ordering.lt a b = a < b
Compared Ordering.eq a b = a ≡ b
Compared Ordering.gt a b = b < a

compared : (a b : ℕ) → Compared (compare a b) a b
compared a b = go (compare a b) (leb→le a b) (nleb→lt a b) (eqb→eq a b) (λ (e : a ≡ b). subst (λ (x : ℕ). T (eqb a x)) e (eqb_refl a))
  where
    go : (o : Ordering) → (T (is_le o) → a ≤ b) → (T (not (is_le o)) → b < a) → (T (compare_is_eq o) → a ≡ b) → (a ≡ b → T (compare_is_eq o)) → Compared o a b
    go Ordering.lt h k e n = lt_of_le-ne (h tt) n
    go Ordering.eq h k e n = e tt
    go Ordering.gt h k e n = k tt

-- ---- c is a / d to the nearest whole number: at most a half away, and even where it is a half away. p is c * d,
-- named so that `omega` reads it as one number
pub record IsClosest (a d c p : ℕ) : Type 0 where
  pub is : c * d ≡ p
  pub above : p * 2 ≤ a * 2 + d
  pub below : a * 2 ≤ p * 2 + d
  pub tie_above : p * 2 ≡ a * 2 + d → c % 2 ≡ 0
  pub tie_below : a * 2 ≡ p * 2 + d → c % 2 ≡ 0

-- (w + w % 2) * d, by whether w is even
abbrev Parity : ℕ → ℕ → Type 0
Parity w d = ((w % 2 ≡ 0) × ((w + w % 2) * d ≡ w * d)) ⊎ ((w % 2 ≡ 1) × ((w + w % 2) * d ≡ w * d + d))

parity : (w d : ℕ) → Parity w d
parity w d = go (w % 2) refl
  where
    even : (w : ℕ) → w % 2 ≡ 0 → w + w % 2 ≡ w
    even w i = omega arith

    odd : (w j : ℕ) → w % 2 ≡ suc j → (w % 2 ≡ 1) × (w + w % 2 ≡ suc w)
    odd w j i = (omega arith, omega arith)

    go : (j : ℕ) → w % 2 ≡ j → Parity w d
    go zero i = inl (i, ap (λ (k : ℕ). k * d) (even w i))
    go (suc j) i = inr ((odd w j i).0, ap (λ (k : ℕ). k * d) (odd w j i).1 ∙ suc-mul w d)

-- from the quotient w, the remainder r and its order to the half
closest_of : (a d w r : ℕ) (o : Ordering) → r < d → w * d + r ≡ a → Compared o (r * 2) d → IsClosest a d (nearest w o) (nearest w o * d)
closest_of a d w r Ordering.lt R e k = record { is = refl; above = omega arith; below = omega arith; tie_above = λ t. omega arith; tie_below = λ t. omega arith }
closest_of a d w r Ordering.gt R e k =
    let s : suc w * d ≡ w * d + d = suc-mul w d in
    record { is = refl; above = omega arith; below = omega arith; tie_above = λ t. omega arith; tie_below = λ t. omega arith }
closest_of a d w r Ordering.eq R e k = go (parity w d)
  where
    go : Parity w d → IsClosest a d (w + w % 2) ((w + w % 2) * d)
    go (inl p) = record { is = refl; above = omega arith; below = omega arith; tie_above = λ t. omega arith; tie_below = λ t. omega arith }
    go (inr p) = record { is = refl; above = omega arith; below = omega arith; tie_above = λ t. omega arith; tie_below = λ t. omega arith }

pub closest_is : (a d : ℕ) → 0 < d → IsClosest a d (closest a d) (closest a d * d)
closest_is a d D = closest_of a d (a / d) (a % d) (compare (a % d * 2) d) (mod-lt a D) (div-add-mod' a d) (compared (a % d * 2) d)

not_less : (a d c c' : ℕ) → 0 < d → IsClosest a d c (c * d) → IsClosest a d c' (c' * d) → c < c' → ⊥
not_less a d c c' D n n' h = go (mul-le-mul_right d h)
  where
    one_more : (x y : ℕ) → x * d ≡ y * d → x ≡ y
    one_more x y e = eq_of_mul-eq-mul_right d D x y e

    go : suc c * d ≤ c' * d → ⊥
    go k =
        let s : suc c * d ≡ c * d + d = suc-mul c d in
        let e : suc c * d ≡ c' * d = omega (arith, n.below, n'.above) in
        let t : c % 2 ≡ 0 = n.tie_below (omega (arith, n.below, n'.above)) in
        let t' : c' % 2 ≡ 0 = n'.tie_above (omega (arith, n.below, n'.above)) in
        let f : suc c ≡ c' = one_more (suc c) c' e in
        omega (arith, t, t', f)

pub unique : {a d c c' p p' : ℕ} → 0 < d → IsClosest a d c p → IsClosest a d c' p' → c ≡ c'
unique {a} {d} {c} {c'} D n n' =
    elim (dec_lt c c') [
      | yes h ↦ absurd (not_less a d c c' D (own n) (own n') h)
      | no h ↦ elim (dec_lt c' c) [ yes k ↦ absurd (not_less a d c' c D (own n') (own n) k) | no k ↦ omega arith ]
    ]
  where
    own : {x p : ℕ} → IsClosest a d x p → IsClosest a d x (x * d)
    own {x} m = subst (λ (z : ℕ). IsClosest a d x z) (sym m.is) m

pub is_closest : {a d c p : ℕ} → 0 < d → IsClosest a d c p → c ≡ closest a d
is_closest {a} {d} D n = unique D n (closest_is a d D)

-- ---- exactness
-- two tests for equality agree where each equality gives the other
pub eqb_iff : (a b c d : ℕ) → (a ≡ b → c ≡ d) → (c ≡ d → a ≡ b) → eqb a b ≡ eqb c d
eqb_iff a b c d f g = go (eqb a b) refl
  where
    go : (t : Bool) → eqb a b ≡ t → t ≡ eqb c d
    go true e = sym (eq-eqb c d (f (eqb-true a b e)))
    go false e = sym (ne_eqb c d (λ (q : c ≡ d). eqb-false a b e (g q)))

exact_of : (a d c : ℕ) → c ≡ closest a d → (t : Bool) → t ≡ eqb (c * d) a → t ≡ is_exact a d
exact_of a d c e t q = q ∙ ap (λ (k : ℕ). eqb (k * d) a) e

-- ---- n / d from its quotient w and its remainder r, by the half h of d
module _ (n d h w r : ℕ) (D : d ≡ h * 2) (s : w * d + r ≡ n) (R : r < d) where
  from : (o : Ordering) → Compared o (r * 2) d → nearest w o ≡ closest n d
  from o k = is_closest (omega arith) (closest_of n d w r o R s k)

  pub round_down : r < h → w ≡ closest n d
  round_down l = from Ordering.lt (omega arith)

  pub round_down_exact : r < h → eqb r 0 ≡ is_exact n d
  round_down_exact l = exact_of n d w (round_down l) (eqb r 0) (eqb_iff r 0 (w * d) n (λ (q : r ≡ 0). omega arith) (λ (q : w * d ≡ n). omega arith))

  pub round_up : h < r → suc w ≡ closest n d
  round_up l = from Ordering.gt (omega arith)

  pub round_up_exact : h < r → false ≡ is_exact n d
  round_up_exact l =
      let k = suc-mul w d in
      exact_of n d (suc w) (round_up l) false (sym (ne_eqb (suc w * d) n (λ (q : suc w * d ≡ n). omega arith)))

  pub round_half : r ≡ h → w + w % 2 ≡ closest n d
  round_half l = from Ordering.eq (omega arith)

  pub round_half_exact : r ≡ h → false ≡ is_exact n d
  round_half_exact l = exact_of n d (w + w % 2) (round_half l) false (sym (ne_eqb ((w + w % 2) * d) n (go (parity w d))))
    where
      go : Parity w d → (w + w % 2) * d ≡ n → ⊥
      go (inl p) q = omega arith
      go (inr p) q = omega arith

-- ---- less than a half
module _ (a d : ℕ) (h : a * 2 < d) where
  pub below_half : 0 ≡ closest a d
  below_half = is_closest {a = a} {d = d} {p = 0} (omega arith) (record { is = go d; above = omega arith; below = omega arith; tie_above = λ t. omega arith; tie_below = λ t. omega arith })
    where
      go : (d : ℕ) → 0 * d ≡ 0
      go d = omega arith

  pub below_half_exact : eqb a 0 ≡ is_exact a d
  below_half_exact = exact_of a d 0 below_half (eqb a 0) (eqb_iff a 0 (0 * d) a (λ q. omega arith) (λ q. omega arith))

-- ---- the same fraction
pub same_exact : (a b c d : ℕ) → 0 < b → 0 < d → a * d ≡ c * b → is_exact a b ≡ is_exact c d
same_exact a b c d B D e =
    let k = closest a b in
    exact_of c d k (closest_same a b c d B D e) (is_exact a b)
    (eqb_iff (k * b) a (k * d) c
    (λ (q : k * b ≡ a). eq_of_mul-eq-mul_right b B (k * d) c (mul_right_comm k d b ∙ ap (λ (z : ℕ). z * d) q ∙ e))
    (λ (q : k * d ≡ c). eq_of_mul-eq-mul_right d D (k * b) a (mul_right_comm k b d ∙ ap (λ (z : ℕ). z * b) q ∙ sym e)))

-- ---- bounds
pub at_least : (a d m : ℕ) → 0 < d → m * d ≤ a → m ≤ closest a d
at_least a d m D h = elim (dec_lt (closest a d) m) [ yes k ↦ absurd (go (mul-le-mul_right d k)) | no k ↦ omega arith ]
  where
    go : suc (closest a d) * d ≤ m * d → ⊥
    go l =
        let s : suc (closest a d) * d ≡ closest a d * d + d = suc-mul (closest a d) d in
        let n = closest_is a d D in
        omega (arith, n.below)

pub at_most : (a d m : ℕ) → 0 < d → a ≤ m * d → closest a d ≤ m
at_most a d m D h = elim (dec_lt m (closest a d)) [ yes k ↦ absurd (go (mul-le-mul_right d k)) | no k ↦ omega arith ]
  where
    go : suc m * d ≤ closest a d * d → ⊥
    go l =
        let s : suc m * d ≡ m * d + d = suc-mul m d in
        let n = closest_is a d D in
        omega (arith, n.above)
