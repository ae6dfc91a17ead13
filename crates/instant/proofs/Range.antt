-- The range: the years -9999 to 9999 of a calendar are the instants of an interval, which lies within five million days of 1970.
use mathlib.Core.Path.{◌≡◌, refl, sym, ap, ◌∙◌, subst}
use mathlib.Core.Bool.{Bool, true, false, not, ◌&&◌, and-true}
use Prim.Native.Nat.{ℕ, suc, ◌+◌, ◌-◌, ◌*◌, ◌/◌, ◌≤◌, ◌<◌}
use native.Mathlib.Omega.{arith}
use lib.Dec.{leb}
use lib.IntN.{ℤ, pos, negsuc}
use lib.Signed.{mag, le_z, lt_z}
use borrow.Author.Tests.{le-leb, lt-leb, leb-true, leb-false}
use Rattle.signed.specs.Bias.{unbiased}
use Rattle.signed.proofs.Tests.{test_is, both, and_parts}
use Rattle.signed.proofs.Order.{le_of_lt, lt_trans, le_trans}
use Rattle.signed.proofs.Integers.{le_z_not}
use Rattle.signed.proofs.Differences.{common, by_sign, sub_low, sub_high, sub_le, times_plus}
use Rattle.calendar.specs.declared.Calendar.{Calendar}
use Rattle.calendar.specs.Closed.{epoch_day, first_day, end_day}
use Rattle.calendar.proofs.Range.{wide, low_day, high_day}
use Rattle.calendar.proofs.Theorems as Theorems
use Rattle.instant.specs.Instant.{day_of, time_of, instant_at, in_range}
use Rattle.instant.specs.Closed.{first_instant, last_instant}
use Rattle.instant.proofs.Clock.{day_small}
use Rattle.instant.proofs.Theorems.{time_small, day_and_time}

-- of instants at times of day that rise, the order is that of the days
at_le : (x y : ℤ) (s r : ℕ) → s ≤ r → r < 86400000000 → le_z (instant_at x s) (instant_at y r) ≡ le_z x y
at_le x y s r h g =
    let k = common x y in
    (λ i. le_z (instant_at (sym k.is_left i) s) (instant_at (sym k.is_right i) r))
    ∙ ((λ i. le_z (times_plus k.left k.least 86400000000 s i) (times_plus k.right k.least 86400000000 r i))
    ∙ (sub_le (k.left * 86400000000 + s) (k.right * 86400000000 + r) (k.least * 86400000000)
    ∙ (same k.left k.right ∙ (sym (sub_le k.left k.right k.least) ∙ (λ i. le_z (k.is_left i) (k.is_right i))))))
  where
    same : (a b : ℕ) → leb (a * 86400000000 + s) (b * 86400000000 + r) ≡ leb a b
    same a b =
        test_is _ _
        (λ e. le-leb a b (omega (arith, leb-true (a * 86400000000 + s) (b * 86400000000 + r) e)))
        (λ e. lt-leb a b (omega (arith, leb-false (a * 86400000000 + s) (b * 86400000000 + r) e)))

-- of all integers, those past 64 bits too
pub range : (c : Calendar) (t : ℤ) → in_range c t ≡ (le_z (first_instant c) t && le_z t (last_instant c))
range c t =
    let s = time_small t in
    let first : le_z (low_day c) (day_of t) ≡ le_z (first_instant c) t = sym (at_le (low_day c) (day_of t) 0 (time_of t) (omega arith) s) ∙ ap (le_z (first_instant c)) (day_and_time t) in
    let last : le_z (day_of t) (high_day c) ≡ le_z t (last_instant c) = sym (at_le (day_of t) (high_day c) (time_of t) 86399999999 (omega arith) (omega arith)) ∙ ap (λ (z : ℤ). le_z z (last_instant c)) (day_and_time t) in
    Theorems.range c (day_of t) ∙ (λ i. first i && last i)

-- ---- from 4000000 days before 1970 to 2800000 days after it the instants of every calendar are of the range
abbrev pub lo : ℤ
lo = instant_at (negsuc 3999999) 0

abbrev pub hi : ℤ
hi = instant_at (pos 2800000) 0

first_le : (c : Calendar) → le_z (first_instant c) lo ≡ true
first_le c =
    at_le (low_day c) (negsuc 3999999) 0 0 (omega arith) (omega arith)
    ∙ (ap (λ (z : ℤ). le_z z (negsuc 3999999)) (sub_low (first_day c) (epoch_day c) (omega (arith, wide c))) ∙ le-leb 3999999 (epoch_day c - suc (first_day c)) (omega (arith, wide c)))

le_last : (c : Calendar) → le_z hi (last_instant c) ≡ true
le_last c =
    at_le (pos 2800000) (high_day c) 0 86399999999 (omega arith) (omega arith)
    ∙ (ap (le_z (pos 2800000)) (sub_high (end_day c - 1) (epoch_day c) (omega (arith, wide c))) ∙ le-leb 2800000 (end_day c - 1 - epoch_day c) (omega (arith, wide c)))

module _ (c : Calendar) (t : ℤ) where
  not_late : lt_z t hi ≡ true → le_z t (last_instant c) ≡ true
  not_late h = le_trans t hi (last_instant c) (le_of_lt t hi h) (le_last c)

  not_early : lt_z t lo ≡ false → le_z (first_instant c) t ≡ true
  not_early h = le_trans (first_instant c) lo t (first_le c) (le_z_not lo t ∙ ap not h)

  pub early : lt_z t lo ≡ true → in_range c t ≡ le_z (first_instant c) t
  early h = range c t ∙ (ap (λ (b : Bool). le_z (first_instant c) t && b) (not_late (lt_trans t lo hi h refl)) ∙ and-true (le_z (first_instant c) t))

  pub middle : lt_z t lo ≡ false → lt_z t hi ≡ true → in_range c t ≡ true
  middle h g = range c t ∙ both (le_z (first_instant c) t) (le_z t (last_instant c)) (not_early h) (not_late g)

  pub late : lt_z t lo ≡ false → in_range c t ≡ le_z t (last_instant c)
  late h = range c t ∙ ap (λ (b : Bool). b && le_z t (last_instant c)) (not_early h)

-- an instant between two of the range is of the range
pub between : (c : Calendar) (a t b : ℤ) → le_z a t ≡ true → le_z t b ≡ true → in_range c a ≡ true → in_range c b ≡ true → in_range c t ≡ true
between c a t b h g p q =
    let lo = first_instant c in
    let hi = last_instant c in
    let v = (and_parts (le_z lo a) (le_z a hi) (sym (range c a) ∙ p)).0 in
    let w = (and_parts (le_z lo b) (le_z b hi) (sym (range c b) ∙ q)).1 in
    range c t ∙ both (le_z lo t) (le_z t hi) (le_trans lo a t v h) (le_trans t b hi g w)

-- the range lies within five million days of 1970
pub small : (c : Calendar) (t : ℤ) → in_range c t ≡ true → mag t < 432000000000000000
unfolding day_of
small c (pos n) h = omega (arith, day_small c (pos (n / 86400000000)) h)
small c (negsuc n) h = omega (arith, day_small c (negsuc (n / 86400000000)) h)

-- the same of an instant with its bias of 2^63
pub near : (c : Calendar) (t : ℤ) (k : ℕ) → unbiased k ≡ t → in_range c t ≡ true → (8646911284551352320 ≤ k) × (k < 9799832789158199296)
near c t k e h =
    by_sign (λ (z : ℤ). mag z < 432000000000000000 → (8646911284551352320 ≤ k) × (k < 9799832789158199296)) k 9223372036854775808 (λ g m. (omega arith, omega arith)) (λ g m. (omega arith, omega arith))
    (subst (λ (z : ℤ). mag z < 432000000000000000) (sym e) (small c t h))
