-- The names of years by their count from -10000, with or without a year 0.
use mathlib.Core.Path.{◌≡◌, refl, sym, ap, ◌∙◌, subst}
use mathlib.Core.Bool.{Bool, true, false, not, ◌&&◌, ◌||◌}
use Prim.Native.Nat.{ℕ, zero, suc, ◌+◌, ◌-◌, ◌%◌, ◌<◌, ◌≤◌}
use native.Mathlib.Omega.{arith}
use lib.Dec.{leb, ltb, eqb}
use lib.IntN.{ℤ, pos, negsuc, sub_ℕ}
use lib.Signed.{lt_z}
use borrow.Author.Tests.{le-leb, lt-leb, leb-true, leb-false, ne_eqb, lt-ltb, le-ltb, ltb-true, ltb-false}
use Rattle.signed.proofs.Tests.{test_is, zero_test}
use Rattle.signed.proofs.Differences.{by_sign, sub_low, sub_high, suc_of, sub_suc, sub_le, sub_lt, same_diff}
use Rattle.calendar.specs.Plain.{Plain, kind_by, kind, counted, divides, leap_gregorian, of_leap, next_year, skip_after, is_year, lacks_year}
use Rattle.calendar.specs.Calendar.{has_year_zero, year_after, in_years}
use Rattle.calendar.specs.Closed.{kind_at, leap, year_at}
pub use Rattle.calendar.specs.Closed.{first_year}
use Rattle.calendar.specs.declared.Calendar.{Calendar}
use Rattle.calendar.specs.declared.rule.Rule.{Rule}

-- ---- the names of years

pub year_low : (y : ℕ) → y ≤ 10000 → year_at false y ≡ negsuc (10000 - y)
year_low y h = rw (le-leb y 10000 h) (sub_low y 10001 (omega arith) ∙ ap negsuc (omega arith))

pub year_high : (y : ℕ) → 10000 < y → year_at false y ≡ pos (y - 10000)
year_high y h = rw (lt-leb y 10000 h) (sub_high y 10000 (omega arith))

-- cases on the sign, without a year 0
pub by_year {ℓ} : (P : ℤ → Type ℓ) (y : ℕ) → (y ≤ 10000 → P (negsuc (10000 - y))) → (10000 < y → P (pos (y - 10000))) → P (year_at false y)
by_year P y f g = go (leb y 10000) refl
  where
    go : (t : Bool) → leb y 10000 ≡ t → P (year_at false y)
    go true e = subst P (sym (year_low y (leb-true y 10000 e))) (f (leb-true y 10000 e))
    go false e = subst P (sym (year_high y (leb-false y 10000 e))) (g (leb-false y 10000 e))

skip_neg : (k y : ℕ) → y + k ≡ 10000 → skip_after (negsuc k) ≡ year_at false (suc y)
skip_neg zero y e = sym (year_high (suc y) (omega arith) ∙ ap pos (omega arith))
skip_neg (suc k) y e = sym (year_low (suc y) (omega arith) ∙ ap negsuc (omega arith))

pub after_at : (z : Bool) (y : ℕ) → next_year z (year_at z y) ≡ year_at z (suc y)
after_at true y = sub_suc y 10000
after_at false y =
    by_year (λ (w : ℤ). skip_after w ≡ year_at false (suc y)) y
    (λ h. skip_neg (10000 - y) y (omega arith))
    (λ h. ap pos (omega arith) ∙ sym (year_high (suc y) (omega arith)))

pub year_after_lem : (c : Calendar) (y : ℕ) → year_after c (year_at (has_year_zero c) y) ≡ year_at (has_year_zero c) (suc y)
unfolding year_after
year_after_lem c y = after_at (has_year_zero c) y

pub there_at : (z : Bool) (y : ℕ) → lacks_year z (year_at z y) ≡ false
there_at true y = refl
there_at false y = by_year (λ (w : ℤ). is_year 0 w ≡ false) y (λ h. refl) (λ h. ne_eqb (y - 10000) 0 (λ e. omega arith))

pub year_there : (c : Calendar) (y : ℕ) → lacks_year (has_year_zero c) (year_at (has_year_zero c) y) ≡ false
year_there c y = there_at (has_year_zero c) y

-- names are in the order of the counts
names_lt : (a b : ℕ) → lt_z (year_at false a) (year_at false b) ≡ ltb a b
names_lt a b =
    by_year (λ (w : ℤ). lt_z w (year_at false b) ≡ ltb a b) a
    (λ h. by_year (λ (w : ℤ). lt_z (negsuc (10000 - a)) w ≡ ltb a b) b
    (λ g. test_is _ _ (λ e. lt-ltb a b (omega (arith, ltb-true (10000 - b) (10000 - a) e))) (λ e. le-ltb a b (omega (arith, ltb-false (10000 - b) (10000 - a) e))))
    (λ g. sym (lt-ltb a b (omega arith))))
    (λ h. by_year (λ (w : ℤ). lt_z (pos (a - 10000)) w ≡ ltb a b) b
    (λ g. sym (le-ltb a b (omega arith)))
    (λ g. test_is _ _ (λ e. lt-ltb a b (omega (arith, ltb-true (a - 10000) (b - 10000) e))) (λ e. le-ltb a b (omega (arith, ltb-false (a - 10000) (b - 10000) e)))))

pub name_lt : (z : Bool) (a b : ℕ) → lt_z (year_at z a) (year_at z b) ≡ ltb a b
name_lt true a b = sub_lt a b 10000
name_lt false a b = names_lt a b

pub first_low : (z : Bool) → 1 ≤ first_year z
first_low true = omega arith
first_low false = omega arith

-- the years -9999 to 9999
pub year_in : (z : Bool) (y : ℕ) → in_years (year_at z y) ≡ (leb (first_year z) y && leb y 19999)
year_in true y = λ i. sub_le 1 y 10000 i && sub_le y 19999 10000 i
year_in false y = by_year (λ (w : ℤ). in_years w ≡ (leb 2 y && leb y 19999)) y low high
  where
    low : y ≤ 10000 → in_years (negsuc (10000 - y)) ≡ (leb 2 y && leb y 19999)
    low h =
        let p : leb (10000 - y) 9998 ≡ leb 2 y = test_is _ _ (λ e. le-leb 2 y (omega (arith, leb-true (10000 - y) 9998 e))) (λ e. lt-leb 2 y (omega (arith, leb-false (10000 - y) 9998 e))) in
        λ i. p i && sym (le-leb y 19999 (omega arith)) i

    high : 10000 < y → in_years (pos (y - 10000)) ≡ (leb 2 y && leb y 19999)
    high h =
        let p : leb (y - 10000) 9999 ≡ leb y 19999 = test_is _ _ (λ e. le-leb y 19999 (omega (arith, leb-true (y - 10000) 9999 e))) (λ e. lt-leb y 19999 (omega (arith, leb-false (y - 10000) 9999 e))) in
        λ i. sym (le-leb 2 y (omega arith)) i && p i

-- ---- leap years by their remainder by 400

-- the year n - b, which differs from y by a multiple of 400
module _ (n b y : ℕ) (h : n % 400 ≡ (y + b) % 400) where
  divides_at : (k : ℕ) → (n < b → eqb (suc (b - suc n) % k) 0 ≡ eqb (y % k) 0) → (b ≤ n → eqb ((n - b) % k) 0 ≡ eqb (y % k) 0) → divides k (sub_ℕ n b) ≡ eqb (y % k) 0
  divides_at k f g = by_sign (λ (z : ℤ). divides k z ≡ eqb (y % k) 0) n b f g

  div_4 : divides 4 (sub_ℕ n b) ≡ eqb (y % 4) 0
  div_4 = divides_at 4 (λ l. zero_test (suc (b - suc n) % 4) (y % 4) (λ e. omega arith) (λ e. omega arith)) (λ l. zero_test ((n - b) % 4) (y % 4) (λ e. omega arith) (λ e. omega arith))

  div_100 : divides 100 (sub_ℕ n b) ≡ eqb (y % 100) 0
  div_100 = divides_at 100 (λ l. zero_test (suc (b - suc n) % 100) (y % 100) (λ e. omega arith) (λ e. omega arith)) (λ l. zero_test ((n - b) % 100) (y % 100) (λ e. omega arith) (λ e. omega arith))

  div_400 : divides 400 (sub_ℕ n b) ≡ eqb (y % 400) 0
  div_400 = divides_at 400 (λ l. zero_test (suc (b - suc n) % 400) (y % 400) (λ e. omega arith) (λ e. omega arith)) (λ l. zero_test ((n - b) % 400) (y % 400) (λ e. omega arith) (λ e. omega arith))

  pub gregorian_leap : leap_gregorian (sub_ℕ n b) ≡ leap y
  gregorian_leap = λ i. (div_4 i && not (div_100 i)) || div_400 i

-- a year's count is its name in the calendar that has a year 0
counted_at : (z : Bool) (y : ℕ) → counted z (year_at z y) ≡ year_at true y
counted_at true y = refl
counted_at false y =
    by_year (λ (w : ℤ). counted false w ≡ year_at true y) y
    (λ h. suc_of (10000 - y) ∙ same_diff 0 (10000 - y) y 10000 (omega arith))
    (λ h. sym (sub_high y 10000 (omega arith)))

kinds_by : (r : Rule) (y : ℕ) → kind_by r (year_at true y) ≡ kind_at r y
unfolding kind_at
kinds_by Rule.Gregorian y = ap of_leap (gregorian_leap y 10000 y (omega arith))
kinds_by Rule.Julian y = ap of_leap (div_4 y 10000 y (omega arith))
kinds_by Rule.Common y = refl
kinds_by Rule.Leap y = refl
kinds_by Rule.Thirty y = refl

-- the kind of a year
pub kinds : (p : Plain) (y : ℕ) → kind p (year_at p.zero y) ≡ kind_at p.rule y
unfolding kind
kinds p y = ap (kind_by p.rule) (counted_at p.zero y) ∙ kinds_by p.rule y
