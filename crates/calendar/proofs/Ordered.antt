-- The order of dates: field by field, as a relation, and any two dates compared.
use mathlib.Core.Path.{◌≡◌, refl, sym, ap, ◌∙◌}
use mathlib.Core.Bool.{Bool, true, false, not, ◌&&◌, ◌||◌, or-true, true≢false, false≢true}
use Prim.Native.Nat.{ℕ, suc, ◌+◌, ◌<◌, ◌≤◌}
use native.Mathlib.Omega.{arith}
use native.Mathlib.Decide.{dec_le}
use lib.Dec.{ltb, eqb}
use lib.IntN.{ℤ, pos, negsuc, sub_ℕ}
use lib.Signed.{lt_z}
use borrow.Author.Tests.{lt-ltb, ltb-true, eqb-true, eq-eqb}
use Rattle.signed.proofs.Tests.{to_false, both, and_parts}
use Rattle.signed.proofs.Order.{lt_trans, lt_irrefl}
use Rattle.signed.proofs.Differences.{Common, common, sub_lt}
use Rattle.calendar.specs.Calendar.{has_year_zero, year_after, date}
use Rattle.calendar.specs.Order.{same_year, earlier, same_date}
use Rattle.calendar.specs.declared.Calendar.{Calendar}
use Rattle.calendar.specs.declared.Date.{Date}
use Rattle.calendar.proofs.YearZero as YearZero

pub date_eq : {p q : Date} → p.year ≡ q.year → p.month ≡ q.month → p.day ≡ q.day → p ≡ q
date_eq a b c = λ i. record { year = a i; month = b i; day = c i }

-- ---- years

pub same_year_lem : (y : ℤ) → same_year y y ≡ true
same_year_lem (pos n) = eq-eqb n n refl
same_year_lem (negsuc n) = eq-eqb n n refl

pub year_eq : (a b : ℤ) → same_year a b ≡ true → a ≡ b
year_eq (pos m) (pos n) h = ap pos (eqb-true m n h)
year_eq (pos m) (negsuc n) h = absurd (false≢true h)
year_eq (negsuc m) (pos n) h = absurd (false≢true h)
year_eq (negsuc m) (negsuc n) h = ap negsuc (eqb-true m n h)

pub year_later : (c : Calendar) (y : ℤ) → lt_z y (year_after c y) ≡ true
unfolding year_after
year_later c y = YearZero.later (has_year_zero c) y

-- ---- the three ways to be earlier

pub data Before (x y : Date) : Type 0 where
  by_year : lt_z x.year y.year ≡ true → Before x y
  by_month : x.year ≡ y.year → x.month < y.month → Before x y
  by_day : x.year ≡ y.year → x.month ≡ y.month → x.day < y.day → Before x y

pub before_of : (x y : Date) → earlier x y ≡ true → Before x y
unfolding earlier
before_of x y h = go (lt_z x.year y.year) (same_year x.year y.year) (ltb x.month y.month) (eqb x.month y.month) (ltb x.day y.day) refl refl refl refl refl h
  where
    go : (a b c d e : Bool) → lt_z x.year y.year ≡ a → same_year x.year y.year ≡ b → ltb x.month y.month ≡ c → eqb x.month y.month ≡ d → ltb x.day y.day ≡ e → (a || (b && (c || (d && e)))) ≡ true → Before x y
    go true b c d e p q r s t g = by_year p
    go false true true d e p q r s t g = by_month (year_eq x.year y.year q) (ltb-true x.month y.month r)
    go false true false true true p q r s t g = by_day (year_eq x.year y.year q) (eqb-true x.month y.month s) (ltb-true x.day y.day t)
    go false true false true false p q r s t g = absurd (false≢true g)
    go false true false false e p q r s t g = absurd (false≢true g)
    go false false c d e p q r s t g = absurd (false≢true g)

pub earlier_of : (x y : Date) → Before x y → earlier x y ≡ true
unfolding earlier
earlier_of x y (by_year h) = rw h
earlier_of x y (by_month e h) = rw (e, same_year_lem y.year, lt-ltb x.month y.month h) (or-true (lt_z y.year y.year))
earlier_of x y (by_day e f h) = rw (e, same_year_lem y.year, f, eq-eqb y.month y.month refl, lt-ltb x.day y.day h, or-true (ltb y.month y.month)) (or-true (lt_z y.year y.year))

pub before_trans : (x y z : Date) → Before x y → Before y z → Before x z
before_trans x y z (by_year a) (by_year b) = by_year (lt_trans x.year y.year z.year a b)
before_trans x y z (by_year a) (by_month e b) = by_year (ap (lt_z x.year) (sym e) ∙ a)
before_trans x y z (by_year a) (by_day e f b) = by_year (ap (lt_z x.year) (sym e) ∙ a)
before_trans x y z (by_month e a) (by_year b) = by_year (ap (λ (w : ℤ). lt_z w z.year) e ∙ b)
before_trans x y z (by_month e a) (by_month g b) = by_month (e ∙ g) (omega arith)
before_trans x y z (by_month e a) (by_day g f b) = by_month (e ∙ g) (omega arith)
before_trans x y z (by_day e f a) (by_year b) = by_year (ap (λ (w : ℤ). lt_z w z.year) e ∙ b)
before_trans x y z (by_day e f a) (by_month g b) = by_month (e ∙ g) (omega arith)
before_trans x y z (by_day e f a) (by_day g h b) = by_day (e ∙ g) (f ∙ h) (omega arith)

pub not_before : (x : Date) → Before x x → ⊥
not_before x (by_year h) = true≢false (sym h ∙ lt_irrefl x.year)
not_before x (by_month e h) = omega arith
not_before x (by_day e f h) = omega arith

pub not_earlier : (x y : Date) → (Before x y → ⊥) → earlier x y ≡ false
not_earlier x y f = to_false (earlier x y) (λ h. f (before_of x y h))

-- ---- any two dates compared

data Years (a b : ℤ) : Type 0 where
  less : lt_z a b ≡ true → Years a b
  same : a ≡ b → Years a b
  more : lt_z b a ≡ true → Years a b

years : (a b : ℤ) → Years a b
years a b = go (dec_le (suc k.left) k.right) (dec_le (suc k.right) k.left)
  where
    k : Common a b
    k = common a b

    go : Dec (suc k.left ≤ k.right) → Dec (suc k.right ≤ k.left) → Years a b
    go (yes h) g = less ((λ i. lt_z (sym k.is_left i) (sym k.is_right i)) ∙ (sub_lt k.left k.right k.least ∙ lt-ltb k.left k.right h))
    go (no h) (yes g) = more ((λ i. lt_z (sym k.is_right i) (sym k.is_left i)) ∙ (sub_lt k.right k.left k.least ∙ lt-ltb k.right k.left g))
    go (no h) (no g) = same (sym k.is_left ∙ (ap (λ (n : ℕ). sub_ℕ n k.least) (omega arith) ∙ k.is_right))

pub data Comparison (x y : Date) : Type 0 where
  earlier_than : Before x y → Comparison x y
  same_as : x ≡ y → Comparison x y
  later_than : Before y x → Comparison x y

pub compare : (x y : Date) → Comparison x y
compare x y = go (years x.year y.year)
  where
    go : Years x.year y.year → Comparison x y
    go (less h) = earlier_than (by_year h)
    go (more h) = later_than (by_year h)
    go (same e) =
        elim (dec_le (suc x.month) y.month) [
          | yes h ↦ earlier_than (by_month e h)
          | no h ↦ elim (dec_le (suc y.month) x.month) [
            | yes g ↦ later_than (by_month (sym e) g)
            | no g ↦ elim (dec_le (suc x.day) y.day) [
              | yes d ↦ earlier_than (by_day e (omega arith) d)
              | no d ↦ elim (dec_le (suc y.day) x.day) [
                | yes f ↦ later_than (by_day (sym e) (omega arith) f)
                | no f ↦ same_as (date_eq e (omega arith) (omega arith))
              ]
            ]
          ]
        ]

-- a date that is not later than another comes before what the other comes before, and what comes before it before the other
pub le_before : (x y z : Date) → (Before y x → ⊥) → Before y z → Before x z
le_before x y z f h = go (compare x y)
  where
    go : Comparison x y → Before x z
    go (earlier_than g) = before_trans x y z g h
    go (same_as e) = rw e h
    go (later_than g) = absurd (f g)

pub before_le : (x y z : Date) → Before x y → (Before z y → ⊥) → Before x z
before_le x y z h f = go (compare y z)
  where
    go : Comparison y z → Before x z
    go (earlier_than g) = before_trans x y z h g
    go (same_as e) = rw e at h
    go (later_than g) = absurd (f g)

pub before? : (x y : Date) → Dec (Before x y)
before? x y = go (earlier x y) refl
  where
    go : (t : Bool) → earlier x y ≡ t → Dec (Before x y)
    go true e = yes (before_of x y e)
    go false e = no (λ h. true≢false (sym (earlier_of x y h) ∙ e))

-- ---- the test for the same date

pub same_of : (x y : Date) → same_date x y ≡ true → x ≡ y
same_of x y h =
    let p = and_parts (same_year x.year y.year) (eqb x.month y.month && eqb x.day y.day) h in
    let q = and_parts (eqb x.month y.month) (eqb x.day y.day) p.1 in
    date_eq (year_eq x.year y.year p.0) (eqb-true x.month y.month q.0) (eqb-true x.day y.day q.1)

pub same_self : (x : Date) → same_date x x ≡ true
same_self x =
    both (same_year x.year x.year) (eqb x.month x.month && eqb x.day x.day) (same_year_lem x.year)
    (both (eqb x.month x.month) (eqb x.day x.day) (eq-eqb x.month x.month refl) (eq-eqb x.day x.day refl))

pub not_same : (x y : Date) → (x ≡ y → ⊥) → same_date x y ≡ false
not_same x y f = to_false (same_date x y) (λ h. f (same_of x y h))

-- ---- between two days of a month

-- w lies in month m of year y, after day a and before day b
pub record InMonth (y : ℤ) (m a b : ℕ) (w : Date) : Type 0 where
  pub year : y ≡ w.year
  pub month : m ≡ w.month
  pub after : a < w.day
  pub before : w.day < b

-- no year is less than itself
pub clash : (a b : ℤ) → lt_z a b ≡ true → a ≡ b → ⊥
clash a b h e = true≢false (sym h ∙ (ap (lt_z a) (sym e) ∙ lt_irrefl a))

pub in_month : (y : ℤ) (m a b : ℕ) (w : Date) → Before (date y m a) w → Before w (date y m b) → InMonth y m a b w
in_month y m a b w (by_day e f p) (by_day g h q) = record { year = e; month = f; after = p; before = q }
in_month y m a b w (by_year p) (by_year q) = absurd (clash y y (lt_trans y w.year y p q) refl)
in_month y m a b w (by_year p) (by_month e q) = absurd (clash y w.year p (sym e))
in_month y m a b w (by_year p) (by_day e f q) = absurd (clash y w.year p (sym e))
in_month y m a b w (by_month e p) (by_year q) = absurd (clash w.year y q (sym e))
in_month y m a b w (by_month e p) (by_month f q) = absurd (omega arith)
in_month y m a b w (by_month e p) (by_day f g q) = absurd (omega arith)
in_month y m a b w (by_day e g p) (by_year q) = absurd (clash w.year y q (sym e))
in_month y m a b w (by_day e g p) (by_month f q) = absurd (omega arith)

-- not after a day of a month is before the day after it, as it is written
pub not_after : (y : ℤ) (m d : ℕ) (x : Date) → not (earlier (date y m d) x) ≡ earlier x (date y m (d + 1))
not_after y m d x = go (compare x (date y m d))
  where
    l : Date
    l = date y m d

    below : (Before l x → ⊥) → Before x (date y m (d + 1)) → not (earlier l x) ≡ earlier x (date y m (d + 1))
    below f h = ap not (not_earlier l x f) ∙ sym (earlier_of x (date y m (d + 1)) h)

    next : Before l (date y m (d + 1))
    next = by_day refl refl (omega arith)

    go : Comparison x l → not (earlier l x) ≡ earlier x (date y m (d + 1))
    go (earlier_than h) = below (λ g. not_before x (before_trans x l x h g)) (before_trans x l (date y m (d + 1)) h next)
    go (same_as e) = below (λ g. not_before l (rw e at g)) (rw e next)
    go (later_than h) = ap not (earlier_of l x h) ∙ sym (not_earlier x (date y m (d + 1)) (λ g. let w = in_month y m d (d + 1) x h g in omega (arith, w.after, w.before)))
