-- Months by computed tests: each rule about a month or a day of the year is one test over all of them, and a law that hands out its rows.
use mathlib.Core.Path.{◌≡◌, refl, subst}
use mathlib.Core.Bool.{Bool, true, ◌&&◌, cond}
use Prim.Native.Nat.{ℕ, zero, suc, ◌+◌, ◌-◌, ◌*◌, ◌/◌, ◌%◌, ◌<◌, ◌≤◌}
use native.Mathlib.Omega.{arith}
use native.Mathlib.Decide.{dec_le}
use lib.Dec.{ltb, eqb}
use borrow.Author.Tests.{ltb-true, eqb-true}
use Rattle.signed.proofs.Tests.{and_parts}
use Rattle.calendar.specs.Plain.{month_days}
use Rattle.calendar.specs.Closed.{month_start, month_from_march, day_in_month}

-- a test over the numbers below n
unfoldable pub all : (ℕ → Bool) → ℕ → Bool
all p zero = true
all p (suc n) = p n && all p n

all_at : (p : ℕ → Bool) (n : ℕ) → all p n ≡ true → (i : ℕ) → i < n → p i ≡ true
unfolding all
all_at p zero h i g = absurd (omega arith)
all_at p (suc n) h i g =
    let w = and_parts (p n) (all p n) h in
    elim (dec_le (suc i) n) [
      | yes l ↦ all_at p n w.1 i l
      | no l ↦ let e : n ≡ i = omega arith in subst (λ (j : ℕ). p j ≡ true) e w.0
    ]

-- a law of every kind of year
by_kind : (P : ℕ → Type 0) → P 0 → P 1 → P 2 → (k : ℕ) → k < 3 → P k
by_kind P a b c zero h = a
by_kind P a b c (suc zero) h = b
by_kind P a b c (suc (suc zero)) h = c
by_kind P a b c (suc (suc (suc k))) h = absurd (omega arith)

-- a test of every month of every kind of year
pub each_month : (p : ℕ → ℕ → Bool) → all (p 0) 12 ≡ true → all (p 1) 12 ≡ true → all (p 2) 12 ≡ true → (k m : ℕ) → k < 3 → m < 12 → p k m ≡ true
each_month p a b c k m h g = all_at (p k) 12 (by_kind (λ (j : ℕ). all (p j) 12 ≡ true) a b c k h) m g

-- ---- each month has from 28 to 31 days

bounded : ℕ → ℕ → Bool
bounded k m = ltb 27 (month_days k m) && ltb (month_days k m) 32

pub month_days_lem : (k m : ℕ) → k < 3 → m < 12 → (27 < month_days k m) × (month_days k m < 32)
unfolding all bounded month_days
month_days_lem k m h g =
    let w = and_parts (ltb 27 (month_days k m)) (ltb (month_days k m) 32) (each_month bounded refl refl refl k m h g) in
    (ltb-true 27 (month_days k m) w.0, ltb-true (month_days k m) 32 w.1)

-- ---- the days before a month, without a table

abbrev pub month_start_of : ℕ → ℕ → ℕ
month_start_of k m = cond (eqb k 2) (30 * m) ((367 * m + 5) / 12 - cond (ltb m 2) 0 (2 - k))

started : ℕ → ℕ → Bool
started k m = eqb (month_start_of k m) (month_start k m)

pub month_start_lem : (k m : ℕ) → k < 3 → m < 12 → month_start_of k m ≡ month_start k m
unfolding all started month_start month_days
month_start_lem k m h g = eqb-true (month_start_of k m) (month_start k m) (each_month started refl refl refl k m h g)

-- ---- the month of a day

-- day i of month m is day d of a year of kind k
pub record DayOfMonth (k m i d : ℕ) : Type 0 where
  pub month : m < 12
  pub day : i < month_days k m
  pub counted : month_start k m + i ≡ d

held : ℕ → ℕ → ℕ → ℕ → Bool
held k m i d = ltb m 12 && (ltb i (month_days k m) && eqb (month_start k m + i) d)

held_true : (k m i d : ℕ) → held k m i d ≡ true → DayOfMonth k m i d
unfolding held
held_true k m i d h =
    let w = and_parts (ltb m 12) (ltb i (month_days k m) && eqb (month_start k m + i) d) h in
    let v = and_parts (ltb i (month_days k m)) (eqb (month_start k m + i) d) w.1 in
    record { month = ltb-true m 12 w.0; day = ltb-true i (month_days k m) v.0; counted = eqb-true (month_start k m + i) d v.1 }

-- a law of the kinds of year that are not of 360 days
by_leap : (P : ℕ → Type 0) → P 0 → P 1 → (k : ℕ) → k < 2 → P k
by_leap P a b zero h = a
by_leap P a b (suc zero) h = b
by_leap P a b (suc (suc k)) h = absurd (omega arith)

-- from March to December
before_january : ℕ → ℕ → Bool
before_january k d = held k (month_from_march d + 2) (day_in_month d) (59 + k + d)

pub march_on : (k d : ℕ) → k < 2 → d < 306 → DayOfMonth k (month_from_march d + 2) (day_in_month d) (59 + k + d)
unfolding all before_january held month_start month_days
march_on k d h g = held_true k _ _ _ (all_at (before_january k) 306 (by_leap (λ (j : ℕ). all (before_january j) 306 ≡ true) refl refl k h) d g)

-- January and February
from_january : ℕ → ℕ → Bool
from_january k d = held k (month_from_march (306 + d) - 10) (day_in_month (306 + d)) d

pub january_on : (k d : ℕ) → k < 2 → d < 59 + k → DayOfMonth k (month_from_march (306 + d) - 10) (day_in_month (306 + d)) d
unfolding all from_january held month_start month_days
january_on k d h g = held_true k _ _ _ (all_at (from_january k) (59 + k) (by_leap (λ (j : ℕ). all (from_january j) (59 + j) ≡ true) refl refl k h) d g)

-- twelve months of thirty days
of_thirty_lem : ℕ → Bool
of_thirty_lem d = held 2 (d / 30) (d % 30) d

pub thirty_on : (d : ℕ) → d < 360 → DayOfMonth 2 (d / 30) (d % 30) d
unfolding all of_thirty_lem held month_start month_days
thirty_on d g = held_true 2 _ _ _ (all_at of_thirty_lem 360 refl d g)

-- a year that is not of 360 days
pub year_days : (k : ℕ) → k < 2 → month_start k 12 ≡ 365 + k
unfolding month_start month_days
year_days = by_leap (λ (k : ℕ). month_start k 12 ≡ 365 + k) refl refl

-- a year has at most 366 days
pub year_short : (k : ℕ) → k < 3 → month_start k 12 ≤ 366
unfolding month_start month_days
year_short = by_kind (λ (k : ℕ). month_start k 12 ≤ 366) (omega arith) (omega arith) (omega arith)

-- the months before a month have at most 31 days each
pub month_room : (k m : ℕ) → k < 3 → m ≤ 12 → month_start k m ≤ 31 * m
unfolding month_start
month_room k zero h g = omega arith
month_room k (suc m) h g = omega (arith, month_room k m h (omega arith), month_days_lem k m h g)
