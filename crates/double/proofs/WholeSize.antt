-- A double as a whole number: what `size_of` computes from the fields, and what `whole_of` answers for it.
use Rattle.std.specs.Prelude.{Ok, Err}
use mathlib.Core.Path.{◌≡◌, refl, sym, ap, ◌∙◌, subst}
use mathlib.Core.Bool.{Bool, true, false, cond}
use Prim.Native.Nat.{ℕ, zero, suc, ◌+◌, ◌-◌, ◌*◌, ◌/◌, ◌%◌, ◌^◌, ◌≤◌, ◌<◌}
use native.Mathlib.Nat.{le_trans, lt_of_lt_of_le, lt_of_le_of_lt, mul_assoc, mul_right_comm, mul-le-mul, mul-mod_left, mul-div_cancel, mod-eq_of_lt, div-add-mod', div-mul-le_self, eq_of_mul-eq-mul_right}
use native.Mathlib.Omega.{arith}
use lib.Dec.{T, eqb, lit≤}
use lib.IntN.{ℤ, pos, negsuc, neg_ℤ}
use lib.Signed.{mag}
use lib.Pow.{pow_pos, pow-add, pow_mono, shl_exact}
use lib.Ieee.{Float, nan, inf, fin, binary64, up, down, fits}
use lib.Ieee.Exact.{HasValue}
use lib.Ieee.Fits.{down_pos}
use lib.Ieee.Nearest.{div_same}
use borrow.Author.Tests.{lt-ltb, le-ltb, eq-eqb, ne_eqb}
use Rattle.rounding.proofs.Closest.{eqb_iff}
use Rattle.refusal.specs.declared.Refusal.TheVariants.{OutOfRange, Inexact, NotFinite}
use Rattle.refusal.specs.declared.Refusal.{Refusal}
use Rattle.signed.specs.Sign.{with_sign}
use Rattle.double.specs.Whole.{in64, whole_of}
use Rattle.double.specs.Displacement.{IsNotFinite}
use Rattle.double.specs.Fields.{SizeOf, WholeSize}
use Rattle.double.proofs.Significand.{leading_comm, leading_lt, size_lt, size_zero, zero_size}
use Rattle.double.proofs.Bits.{sign_of, field_of, digits_of, size_of, value}

-- ---- numbers of 64 bits
pub in64_yes : (z : ℤ) → mag z < 2 ^ 63 → Ok z ≡ in64 z
in64_yes z h = sym (ap (λ (b : Bool). cond b (Ok z) (Err OutOfRange)) (lt-ltb (mag z) (2 ^ 63) h))

pub in64_no : (z : ℤ) → 2 ^ 63 ≤ mag z → Err OutOfRange ≡ in64 z
in64_no z h = sym (ap (λ (b : Bool). cond b (Ok z) (Err OutOfRange)) (le-ltb (mag z) (2 ^ 63) h))

-- -n, as the code makes it
pub negated_yes : (n : ℕ) → n ≤ 2 ^ 63 → Ok (neg_ℤ (pos n)) ≡ in64 (neg_ℤ (pos n))
negated_yes zero h = refl
negated_yes (suc n) h = in64_yes (negsuc n) (omega arith)

pub negated_no : (n : ℕ) → 2 ^ 63 < n → Err OutOfRange ≡ in64 (neg_ℤ (pos n))
negated_no zero h = absurd (go h)
  where
    go : 2 ^ 63 < 0 → ⊥
    go h = omega arith
negated_no (suc n) h = in64_no (negsuc n) (omega arith)

large_no : (s : Bool) (n : ℕ) → 2 ^ 64 ≤ n → Err OutOfRange ≡ in64 (with_sign s n)
large_no true n h = negated_no n (omega arith)
large_no false n h = in64_no (pos n) (omega arith)

-- ---- equal fractions leave nothing over together
mod_zero : (a b c d : ℕ) → 0 < b → a * d ≡ c * b → a % b ≡ 0 → c % d ≡ 0
mod_zero a b c d B e z = ap (λ (k : ℕ). k % d) c_is ∙ mul-mod_left (a / b) d
  where
    a_is : a / b * b ≡ a
    a_is = let s = div-add-mod' a b in omega arith

    c_is : c ≡ a / b * d
    c_is = sym (eq_of_mul-eq-mul_right b B (a / b * d) c (mul_right_comm (a / b) d b ∙ ap (λ (k : ℕ). k * d) a_is ∙ e))

same_mod : (a b c d : ℕ) → 0 < b → 0 < d → a * d ≡ c * b → eqb (a % b) 0 ≡ eqb (c % d) 0
same_mod a b c d B D e = eqb_iff (a % b) 0 (c % d) 0 (mod_zero a b c d B e) (mod_zero c d a b D (sym e))

-- the answer goes by any fraction that x is
by_value : (x : Float) (s : Bool) (a d : ℕ) → 0 < d → HasValue x s a d → whole_of x ≡ cond (eqb (a % d) 0) (in64 (with_sign s (a / d))) (Err Inexact)
unfolding whole_of
by_value nan s a d D v = absurd v
by_value (inf t) s a d D v = absurd v
by_value (fin t m e) s a d D v =
    (λ i. cond (same_mod (m * up e) (down e) a d (down_pos e) D v.1 i) (in64 (with_sign (v.0 i) (div_same (m * up e) (down e) a d (down_pos e) D v.1 i))) (Err Inexact))

-- ---- what `size_of` says, answered
module _ (x : Float) (F : T (fits binary64 x)) where
  by_size : field_of x < 2047 → whole_of x ≡ cond (eqb (size_of x % 2 ^ 1074) 0) (in64 (with_sign (sign_of x) (size_of x / 2 ^ 1074))) (Err Inexact)
  by_size h = by_value x (sign_of x) (size_of x) (2 ^ 1074) (pow_pos 1074) (value x F h)

  nothing_over : field_of x < 2047 → size_of x % 2 ^ 1074 ≡ 0 → whole_of x ≡ in64 (with_sign (sign_of x) (size_of x / 2 ^ 1074))
  nothing_over h z = by_size h ∙ ap (λ (b : Bool). cond b (in64 (with_sign (sign_of x) (size_of x / 2 ^ 1074))) (Err Inexact)) (eq-eqb (size_of x % 2 ^ 1074) 0 z)

  pub when_whole : field_of x < 2047 → (n : ℕ) → WholeSize (Ok n) (field_of x) (digits_of x) → in64 (with_sign (sign_of x) n) ≡ whole_of x
  unfolding SizeOf
  when_whole h n v =
      sym
      (nothing_over h (ap (λ (k : ℕ). k % 2 ^ 1074) (sym v) ∙ mul-mod_left n (2 ^ 1074))
      ∙ ap (λ (k : ℕ). in64 (with_sign (sign_of x) k)) (ap (λ (k : ℕ). k / 2 ^ 1074) (sym v) ∙ mul-div_cancel n (pow_pos 1074)))

  pub when_fraction : field_of x < 2047 → WholeSize (Err Inexact) (field_of x) (digits_of x) → Err Inexact ≡ whole_of x
  unfolding SizeOf
  when_fraction h v = sym (by_size h ∙ ap (λ (b : Bool). cond b (in64 (with_sign (sign_of x) (size_of x / 2 ^ 1074))) (Err Inexact)) (ne_eqb (size_of x % 2 ^ 1074) 0 v))

  pub when_large : field_of x < 2047 → WholeSize (Err OutOfRange) (field_of x) (digits_of x) → Err OutOfRange ≡ whole_of x
  unfolding SizeOf
  when_large h v = large_no (sign_of x) (size_of x / 2 ^ 1074) v.0 ∙ sym (nothing_over h v.1)

  pub when_refused : field_of x < 2047 → (r : Refusal) → WholeSize (Err r) (field_of x) (digits_of x) → Err r ≡ whole_of x
  unfolding SizeOf
  when_refused h Inexact v = when_fraction h v
  when_refused h OutOfRange v = when_large h v
  when_refused h r v = absurd v

pub when_infinite : (x : Float) → IsNotFinite x → Err NotFinite ≡ whole_of x
unfolding whole_of IsNotFinite
when_infinite nan v = refl
when_infinite (inf s) v = refl
when_infinite (fin s m e) v = absurd v

-- ---- what `size_of` computes
none : {A : Type 0} (n : ℕ) → suc n ≤ 0 → A
none n h = absurd (go h)
  where
    go : suc n ≤ 0 → ⊥
    go h = omega arith

pub large : (field t : ℕ) → 1087 ≤ field → WholeSize (Err OutOfRange) field t
unfolding SizeOf
large zero t h = none 1086 h
large (suc j) t h =
    let w = (2 ^ 52 + t) * 2 ^ (j - 1074) in
    let e : (2 ^ 52 + t) * 2 ^ j ≡ w * 2 ^ 1074 = ap (λ (k : ℕ). (2 ^ 52 + t) * k) (ap (λ (k : ℕ). 2 ^ k) (parts j h) ∙ pow-add 2 (j - 1074) 1074) ∙ sym (mul_assoc (2 ^ 52 + t) (2 ^ (j - 1074)) (2 ^ 1074)) in
    let q : (2 ^ 52 + t) * 2 ^ j / 2 ^ 1074 ≡ w = ap (λ (k : ℕ). k / 2 ^ 1074) e ∙ mul-div_cancel w (pow_pos 1074) in
    (subst (λ (k : ℕ). 2 ^ 64 ≤ k) (sym q) (le_trans (lit≤ {m = 2 ^ 64} {n = 2 ^ 52 * 2 ^ 12} tt) (mul-le-mul (more t) (pow_mono (far j h)))), ap (λ (k : ℕ). k % 2 ^ 1074) e ∙ mul-mod_left w (2 ^ 1074))
  where
    parts : (j : ℕ) → 1087 ≤ suc j → j ≡ j - 1074 + 1074
    parts j h = omega arith

    more : (t : ℕ) → 2 ^ 52 ≤ 2 ^ 52 + t
    more t = omega arith

    far : (j : ℕ) → 1087 ≤ suc j → 12 ≤ j - 1074
    far j h = omega arith

pub no_size : (field t : ℕ) → field + t ≡ 0 → WholeSize (Ok 0) field t
unfolding SizeOf
no_size field t e = sym (size_zero field t e)

pub under_one : (field t : ℕ) → field < 1023 → t < 2 ^ 52 → (field + t ≡ 0 → ⊥) → WholeSize (Err Inexact) field t
unfolding SizeOf
under_one field t h k n z = n (zero_size field t (sym (mod-eq_of_lt (size_lt field t 1021 k (less field h))) ∙ z))
  where
    less : (field : ℕ) → field < 1023 → field ≤ 1022
    less field h = omega arith

pub shifted_up : (field t : ℕ) → 1075 < field → field < 1087 → t < 2 ^ 52 → WholeSize (Ok ((t + 2 ^ 52) * 2 ^ (field - 1075) % 2 ^ 64)) field t
unfolding SizeOf
shifted_up zero t h k l = none 1075 h
shifted_up (suc j) t h k l =
    ap (λ (n : ℕ). n * 2 ^ 1074) (shl_exact 53 (suc j - 1075) 64 (leading_lt t l) (room j k))
    ∙ mul_assoc (t + 2 ^ 52) (2 ^ (suc j - 1075)) (2 ^ 1074)
    ∙ (λ i. leading_comm t i * (sym (pow-add 2 (suc j - 1075) 1074) ∙ ap (λ (n : ℕ). 2 ^ n) (sums j h)) i)
  where
    room : (j : ℕ) → suc j < 1087 → 53 + (suc j - 1075) ≤ 64
    room j h = omega arith

    sums : (j : ℕ) → 1075 < suc j → suc j - 1075 + 1074 ≡ j
    sums j h = omega arith

-- the shift down and up again
back_is : (t k : ℕ) → t < 2 ^ 52 → (t + 2 ^ 52) / 2 ^ k * 2 ^ k % 2 ^ 64 ≡ (t + 2 ^ 52) / 2 ^ k * 2 ^ k
back_is t k l = mod-eq_of_lt (lt_of_le_of_lt (div-mul-le_self (t + 2 ^ 52) (2 ^ k)) (lt_of_lt_of_le (leading_lt t l) (lit≤ tt)))

sums : (j : ℕ) → suc j ≤ 1075 → 1075 - suc j + j ≡ 1074
sums j h = omega arith

pub shifted_down : (field t : ℕ) → 1 ≤ field → field ≤ 1075 → t < 2 ^ 52 → (t + 2 ^ 52) / 2 ^ (1075 - field) * 2 ^ (1075 - field) % 2 ^ 64 ≡ t + 2 ^ 52 → WholeSize (Ok ((t + 2 ^ 52) / 2 ^ (1075 - field))) field t
unfolding SizeOf
shifted_down zero t h k l e = none 0 h
shifted_down (suc j) t h k l e =
    let s = 1075 - suc j in
    let q = t + 2 ^ 52 in
    ap (λ (n : ℕ). q / 2 ^ s * n) (ap (λ (n : ℕ). 2 ^ n) (sym (sums j k)) ∙ pow-add 2 s j)
    ∙ sym (mul_assoc (q / 2 ^ s) (2 ^ s) (2 ^ j))
    ∙ ap (λ (n : ℕ). n * 2 ^ j) (sym (back_is t s l) ∙ e ∙ leading_comm t)

pub left_over : (field t : ℕ) → 1 ≤ field → field ≤ 1075 → t < 2 ^ 52 → ((t + 2 ^ 52) / 2 ^ (1075 - field) * 2 ^ (1075 - field) % 2 ^ 64 ≡ t + 2 ^ 52 → ⊥) → WholeSize (Err Inexact) field t
unfolding SizeOf
left_over zero t h k l n z = none 0 h
left_over (suc j) t h k l n z =
    let s = 1075 - suc j in
    let q = t + 2 ^ 52 in
    let e : (2 ^ 52 + t) * 2 ^ j * 2 ^ s ≡ q * 2 ^ 1074 = mul_right_comm (2 ^ 52 + t) (2 ^ j) (2 ^ s) ∙ mul_assoc (2 ^ 52 + t) (2 ^ s) (2 ^ j) ∙ (λ i. sym (leading_comm t) i * (sym (pow-add 2 s j) ∙ ap (λ (n : ℕ). 2 ^ n) (sums j k)) i) in
    let r : q % 2 ^ s ≡ 0 = mod_zero ((2 ^ 52 + t) * 2 ^ j) (2 ^ 1074) q (2 ^ s) (pow_pos 1074) e z in
    n (back_is t s l ∙ exact (q / 2 ^ s * 2 ^ s) (q % 2 ^ s) q (div-add-mod' q (2 ^ s)) r)
  where
    exact : (x y a : ℕ) → x + y ≡ a → y ≡ 0 → x ≡ a
    exact x y a h k = omega arith
