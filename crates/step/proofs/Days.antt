-- The day that a step keeps: it exists, and it is the asked day or the next below it that exists, which is the last of its month or the last
-- day before a cutover.
use mathlib.Core.Path.{◌≡◌, refl, sym, ap, ◌∙◌, subst}
use mathlib.Core.Bool.{Bool, true, false, cond}
use Prim.Native.Nat.{ℕ, zero, suc, ◌+◌, ◌-◌, ◌<◌, ◌≤◌}
use native.Mathlib.Omega.{arith}
use native.Mathlib.Nat.{add-zero, add-suc}
use lib.IntN.{ℤ}
use Rattle.calendar.specs.Calendar.{row_of, exists, date, has_year_zero}
use Rattle.calendar.specs.declared.Calendar.{Calendar}
use Rattle.calendar.proofs.Months.{Month, Below, DaysBelow, few, first_there, below_day, days_below}
use Rattle.step.specs.Steps.{YearMonth, down_to, steps_down}

module _ (c : Calendar) (y : ℤ) (m : ℕ) where
  -- a day that exists is kept
  pub here : (d : ℕ) → exists c (date y m d) ≡ true → down_to c y m d ≡ d
  unfolding down_to
  here zero h = refl
  here (suc d) h = rw h

  -- a day that does not exist is passed
  below : (d : ℕ) → exists c (date y m (suc d)) ≡ false → down_to c y m (suc d) ≡ down_to c y m d
  unfolding down_to
  below d h = rw h

  pub passing : (d : ℕ) → 0 < d → exists c (date y m d) ≡ false → down_to c y m (d - 1) ≡ down_to c y m d
  passing zero h e = absurd (omega arith)
  passing (suc d) h e = let p : suc d - 1 ≡ d = omega arith in ap (down_to c y m) p ∙ sym (below d e)

  passed : (a n : ℕ) → ((k : ℕ) → a < k → k ≤ a + n → exists c (date y m k) ≡ false) → down_to c y m (a + n) ≡ down_to c y m a
  passed a zero h = rw add-zero refl
  passed a (suc n) h = ap (down_to c y m) (add-suc a n) ∙ (below (a + n) (h (suc (a + n)) (omega arith) (omega arith)) ∙ passed a n (λ k p q. h k p (omega arith)))

  -- the days that are passed lie between the asked day and the one that is kept
  pub passed_days : (d : ℕ) → steps_down c y m d + down_to c y m d ≡ d
  unfolding down_to steps_down
  passed_days zero = refl
  passed_days (suc d) = go (exists c (date y m (suc d))) (passed_days d)
    where
      go : (t : Bool) → steps_down c y m d + down_to c y m d ≡ d → cond t 0 (suc (steps_down c y m d)) + cond t (suc d) (down_to c y m d) ≡ suc d
      go true h = omega arith
      go false h = omega (arith, h)

  -- no day from above a up to d exists, and a does
  pub down_to_lem : (a d : ℕ) → a ≤ d → exists c (date y m a) ≡ true → ((k : ℕ) → a < k → k ≤ d → exists c (date y m k) ≡ false) → down_to c y m d ≡ a
  down_to_lem a d l h f =
      let e : a + (d - a) ≡ d = omega arith in
      ap (down_to c y m) (sym e) ∙ (passed a (d - a) (λ k p q. f k p (omega arith)) ∙ here a h)

-- a month of the calendar
abbrev pub IsMonth : Calendar → YearMonth → Type 0
IsMonth c p = Month (has_year_zero c) p.year p.month

-- which day is kept
pub data Kept (c : Calendar) (y : ℤ) (m d : ℕ) : ℕ → Type 0 where
  asked : exists c (date y m d) ≡ true → Kept c y m d d
  next_below : (b : Below (row_of c) y m d) → Kept c y m d b.day

module _ (c : Calendar) (y : ℤ) (m : ℕ) (p : Month (has_year_zero c) y m) where
  -- the first of a month exists, so a day is found
  pub kept_there : (d : ℕ) → 1 ≤ d → exists c (date y m (down_to c y m d)) ≡ true
  kept_there zero h = absurd (omega arith)
  kept_there (suc zero) h = let f = first_there c y m p in ap (λ (k : ℕ). exists c (date y m k)) (here c y m 1 f) ∙ f
  kept_there (suc (suc d)) h = go (exists c (date y m (suc (suc d)))) refl (kept_there (suc d) (omega arith))
    where
      go : (t : Bool) → exists c (date y m (suc (suc d))) ≡ t → exists c (date y m (down_to c y m (suc d))) ≡ true → exists c (date y m (down_to c y m (suc (suc d)))) ≡ true
      go true e g = ap (λ (k : ℕ). exists c (date y m k)) (here c y m (suc (suc d)) e) ∙ e
      go false e g = ap (λ (k : ℕ). exists c (date y m k)) (below c y m (suc d) e) ∙ g

  pub kept : (d : ℕ) → 1 ≤ d → Kept c y m d (down_to c y m d)
  unfolding exists
  kept d h = go (exists c (date y m d)) refl
    where
      go : (t : Bool) → exists c (date y m d) ≡ t → Kept c y m d (down_to c y m d)
      go true e = subst (Kept c y m d) (sym (here c y m d e)) (asked e)
      go false e =
          let b = below_day c y m p d h e in
          subst (Kept c y m d) (sym (down_to_lem c y m b.day d (omega (arith, b.less)) b.there b.none)) (next_below b)

  -- of the days that are passed none exists
  pub passed_none : (d : ℕ) → 1 ≤ d → (k : ℕ) → down_to c y m d < k → k ≤ d → exists c (date y m k) ≡ false
  unfolding exists
  passed_none d h k = go (down_to c y m d) (kept d h)
    where
      go : (g : ℕ) → Kept c y m d g → g < k → k ≤ d → exists c (date y m k) ≡ false
      go g (asked e) a b = absurd (omega arith)
      go g (next_below n) a b = n.none k a b

  -- and they are few
  pub passed_few : (d : ℕ) → 1 ≤ d → d ≤ 31 → DaysBelow c y m (steps_down c y m d)
  passed_few d low high = subst (DaysBelow c y m) (omega (arith, passed_days c y m d)) (go (down_to c y m d) (kept d low))
    where
      go : (g : ℕ) → Kept c y m d g → DaysBelow c y m (d - g)
      go g (asked e) = few (omega arith)
      go g (next_below b) = days_below y m d low high c p b
