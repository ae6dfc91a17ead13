-- Stepping from place 0 0 0 of a rule: the place after n steps is the one place with n days before it.
use mathlib.Core.Path.{◌≡◌, refl, sym, ap, ◌∙◌, subst}
use mathlib.Core.Bool.{Bool, true, false, cond}
use Prim.Native.Nat.{ℕ, zero, suc, ◌+◌, ◌-◌, ◌*◌, ◌%◌, ◌<◌, ◌≤◌, ◌^◌}
use native.Mathlib.Omega.{arith}
use native.Mathlib.Nat.{add-zero, add-suc, le_refl, le_trans}
use native.Mathlib.Numerals.{add-one}
use native.Mathlib.Decide.{dec_le}
use lib.Dec.{ltb, eqb}
use borrow.Author.Tests.{ltb-true, ltb-false}
use Rattle.calendar.specs.Plain.{month_days}
use Rattle.calendar.specs.Closed.{kind_at, leap, month_start, year_start, place_at, count, month_from_march, day_in_month, from_march, of_thirty, place_of, unpacked_place}
use Rattle.calendar.specs.declared.rule.Rule.{Rule}
use Rattle.calendar.specs.declared.rule.YearDay.{YearDay}
use Rattle.calendar.specs.declared.place.Place.{Place}
use Rattle.calendar.proofs.Years.{YearSplit, year_day_lem, year_law, year_zero, year_least, kind_low, of_leap_low, thirty_days}
use Rattle.calendar.proofs.Tables.{DayOfMonth, month_days_lem, march_on, january_on, thirty_on, year_days}

-- ---- a sequence that does not fall

grows : (f : ℕ → ℕ) → ((n : ℕ) → f n ≤ f (suc n)) → (a k : ℕ) → f a ≤ f (a + k)
grows f h a zero = rw add-zero (le_refl (f a))
grows f h a (suc k) = rw add-suc (le_trans (grows f h a k) (h (a + k)))

pub grows_to : (f : ℕ → ℕ) → ((n : ℕ) → f n ≤ f (suc n)) → (a b : ℕ) → a ≤ b → f a ≤ f b
grows_to f h a b g = subst (λ (n : ℕ). f a ≤ f n) (omega arith) (grows f h a (b - a))

-- the one step of the sequence that holds n
pub bracket : (f : ℕ → ℕ) → ((n : ℕ) → f n ≤ f (suc n)) → (n a b : ℕ) → f a ≤ n → n < f (suc a) → f b ≤ n → n < f (suc b) → a ≡ b
bracket f h n a b p q s t = go (dec_le (suc a) b) (dec_le (suc b) a)
  where
    go : Dec (suc a ≤ b) → Dec (suc b ≤ a) → a ≡ b
    go (yes u) v = omega (arith, grows_to f h (suc a) b u)
    go (no u) (yes v) = omega (arith, grows_to f h (suc b) a v)
    go (no u) (no v) = omega arith

-- ---- months

pub month_end : (k m : ℕ) → month_start k (suc m) ≡ month_start k m + month_days k m
unfolding month_start
month_end k m = refl

pub month_first : (k : ℕ) → month_start k 0 ≡ 0
unfolding month_start
month_first k = refl

pub month_grows : (k m : ℕ) → month_start k m ≤ month_start k (suc m)
month_grows k m = omega (arith, month_end k m)

pub year_grows : (r : Rule) (y : ℕ) → year_start r y ≤ year_start r (suc y)
year_grows r y = omega (arith, year_law r y)

-- a day of a year lies before the year's end
in_year : (k m i : ℕ) → m < 12 → i < month_days k m → month_start k m + i < month_start k 12
in_year k m i h g = omega (arith, grows_to (month_start k) (month_grows k) (suc m) 12 h, month_end k m)

-- ---- a place and its number of days: two places with the same number are one

-- a place that is a day
pub record Proper (r : Rule) (p : Place) : Type 0 where
  pub month : p.m < 12
  pub day : p.i < month_days (kind_at r p.y) p.m

-- p is the place of day n
pub record Split (r : Rule) (n : ℕ) (p : Place) : Type 0 where
  pub proper : Proper r p
  pub counted : count r p ≡ n

pub place_eq : {p q : Place} → p.y ≡ q.y → p.m ≡ q.m → p.i ≡ q.i → p ≡ q
place_eq a b c = λ i. record { y = a i; m = b i; i = c i }

module _ (r : Rule) where
  pub within_year : (p : Place) → Proper r p → (year_start r p.y ≤ count r p) × (count r p < year_start r (suc p.y))
  unfolding count
  within_year p h = omega (arith, year_law r p.y, in_year (kind_at r p.y) p.m p.i h.month h.day)

  pub same_place : (p q : Place) → Proper r p → Proper r q → count r p ≡ count r q → p ≡ q
  unfolding count
  same_place p q h g e =
      let n = count r p in
      let ey : p.y ≡ q.y = bracket (year_start r) (year_grows r) n p.y q.y (within_year p h).0 (within_year p h).1 (omega (arith, within_year q g)) (omega (arith, within_year q g)) in
      let k = kind_at r p.y in
      let f : q.i < month_days k q.m = subst (λ (y : ℕ). q.i < month_days (kind_at r y) q.m) (sym ey) g.day in
      let e' : year_start r p.y + month_start k p.m + p.i ≡ year_start r p.y + month_start k q.m + q.i = e ∙ ap (λ (y : ℕ). year_start r y + month_start (kind_at r y) q.m + q.i) (sym ey) in
      let em : p.m ≡ q.m = bracket (month_start k) (month_grows k) (month_start k p.m + p.i) p.m q.m (omega arith) (omega (arith, month_end k p.m, h.day)) (omega arith) (omega (arith, month_end k q.m, f)) in
      place_eq ey em (omega (arith, ap (month_start k) em))

-- ---- one step, and N steps

unfoldable pub step_place : Rule → Place → Place
step_place r p =
    cond (ltb (p.i + 1) (month_days (kind_at r p.y) p.m))
    (place_at p.y p.m (p.i + 1))
    (cond (ltb (p.m + 1) 12) (place_at p.y (p.m + 1) 0) (place_at (suc p.y) 0 0))

Stepped : Rule → Place → Place → Type 0
Stepped r p q = Proper r q × (count r q ≡ suc (count r p))

step_by : (r : Rule) (p : Place) → Proper r p → (a b : Bool) → ltb (p.i + 1) (month_days (kind_at r p.y) p.m) ≡ a → ltb (p.m + 1) 12 ≡ b
    → Stepped r p (cond a (place_at p.y p.m (p.i + 1)) (cond b (place_at p.y (p.m + 1) 0) (place_at (suc p.y) 0 0)))
unfolding Stepped count
step_by r p h true b e f = (record { month = h.month; day = ltb-true _ _ e }, omega arith)
step_by r p h false true e f =
    let m = ltb-true _ _ f in (
      record { month = m; day = omega (arith, month_days_lem (kind_at r p.y) (p.m + 1) (kind_low r p.y) m) },
      omega (arith, h.day, ltb-false (p.i + 1) (month_days (kind_at r p.y) p.m) e, month_end (kind_at r p.y) p.m, ap (month_start (kind_at r p.y)) (add-one p.m)),
    )
step_by r p h false false e f =
    let m : p.m ≡ 11 = omega (arith, h.month, ltb-false (p.m + 1) 12 f) in (
      record { month = omega arith; day = omega (arith, month_days_lem (kind_at r (suc p.y)) 0 (kind_low r (suc p.y)) (omega arith)) },
      omega (arith, h.day, ltb-false (p.i + 1) (month_days (kind_at r p.y) p.m) e, month_end (kind_at r p.y) p.m, ap (λ (x : ℕ). month_start (kind_at r p.y) (suc x)) m, month_first (kind_at r (suc p.y)), year_law r p.y),
    )

stepped : (r : Rule) (p : Place) → Proper r p → Stepped r p (step_place r p)
unfolding step_place
stepped r p h = step_by r p h _ _ refl refl

-- the place after n steps
unfoldable pub at : Rule → ℕ → Place
at r zero = place_at 0 0 0
at r (suc n) = step_place r (at r n)

pub at_step : (r : Rule) (n : ℕ) → at r (suc n) ≡ step_place r (at r n)
unfolding at
at_step r n = refl

at_facts : (r : Rule) (n : ℕ) → Proper r (at r n) × (count r (at r n) ≡ n)
unfolding at count Stepped
at_facts r zero = (record { month = omega arith; day = omega (arith, month_days_lem (kind_at r 0) 0 (kind_low r 0) (omega arith)) }, omega (arith, year_zero r, month_first (kind_at r 0)))
at_facts r (suc n) =
    let h = at_facts r n in
    let s = stepped r (at r n) h.0 in
    (s.0, s.1 ∙ ap suc h.1)

pub at_proper : (r : Rule) (n : ℕ) → Proper r (at r n)
at_proper r n = (at_facts r n).0

pub at_count : (r : Rule) (n : ℕ) → count r (at r n) ≡ n
at_count r n = (at_facts r n).1

-- a place that has n days before it is the place after n steps
pub at_is : (r : Rule) (p : Place) (n : ℕ) → Proper r p → count r p ≡ n → at r n ≡ p
at_is r p n h e = same_place r (at r n) p (at_proper r n) h (at_count r n ∙ sym e)

-- ---- the year of a place, from its number

pub year_lt : (r : Rule) (n y : ℕ) → n < year_start r y → (at r n).y < y
year_lt r n y h =
    elim (dec_le y (at r n).y) [
      | yes g ↦ omega (arith, grows_to (year_start r) (year_grows r) y (at r n).y g, (within_year r (at r n) (at_proper r n)).0, at_count r n)
      | no g ↦ omega arith
    ]

pub year_ge : (r : Rule) (n y : ℕ) → year_start r y ≤ n → y ≤ (at r n).y
year_ge r n y h =
    elim (dec_le y (at r n).y) [
      | yes g ↦ g
      | no g ↦ omega (arith, grows_to (year_start r) (year_grows r) (suc (at r n).y) y (omega arith), (within_year r (at r n) (at_proper r n)).1, at_count r n)
    ]

-- ---- the place of a day from its year

-- day e of year y, as day i of month m
split_year : (r : Rule) (n y m i e : ℕ) → DayOfMonth (kind_at r y) m i e → year_start r y + e ≡ n → Split r n (place_at y m i)
unfolding count
split_year r n y m i e h g = record { proper = record { month = h.month; day = h.day }; counted = omega (arith, h.counted) }

-- a day of a year that begins with March, of a rule without years of 360 days
pub split_march : (r : Rule) → ((y : ℕ) → kind_at r y < 2) → (n : ℕ) (t : YearDay) → YearSplit r (n + 306) t → Split r n (from_march t)
split_march r u n t s = go _ refl t.y refl
  where
    go : (b : Bool) → ltb t.d 306 ≡ b → (y : ℕ) → t.y ≡ y → Split r n (place_at (t.y - cond b 1 0) (month_from_march t.d + 12 * cond b 1 0 - 10) (day_in_month t.d))
    go true e zero f = absurd (omega (arith, ltb-true t.d 306 e, s.counted, ap (year_start r) f, year_zero r))
    go true e (suc y) f =
        let d = t.d in
        let is = split_year r n y _ _ _ (march_on (kind_at r y) d (u y) (ltb-true d 306 e)) (omega (arith, s.counted, ap (year_start r) f, year_law r y, year_days (kind_at r y) (u y))) in
        subst (Split r n) (place_eq (omega arith) (omega arith) refl) is
    go false e y f =
        let d = t.d in
        let k = kind_at r t.y in
        let g : 306 + (d - 306) ≡ d = omega (arith, ltb-false d 306 e) in
        let is = split_year r n t.y _ _ _ (january_on k (d - 306) (u t.y) (omega (arith, s.inside, year_days k (u t.y), ltb-false d 306 e))) (omega (arith, s.counted, ltb-false d 306 e)) in
        subst (Split r n) (place_eq (omega arith) (omega arith) (ap day_in_month g)) is

-- a day of a year of 360 days
pub split_thirty : (n : ℕ) (t : YearDay) → YearSplit Rule.Thirty n t → Split Rule.Thirty n (of_thirty t)
unfolding kind_at
split_thirty n t s = split_year Rule.Thirty n t.y _ _ _ (thirty_on t.d (omega (arith, s.inside, thirty_days))) s.counted

pub place_split : (r : Rule) (n : ℕ) → Split r n (place_of r n)
unfolding kind_at
place_split Rule.Gregorian n = split_march Rule.Gregorian (λ y. of_leap_low (leap y)) n _ (year_day_lem Rule.Gregorian (n + 306))
place_split Rule.Julian n = split_march Rule.Julian (λ y. of_leap_low (eqb (y % 4) 0)) n _ (year_day_lem Rule.Julian (n + 306))
place_split Rule.Common n = split_march Rule.Common (λ y. omega arith) n _ (year_day_lem Rule.Common (n + 306))
place_split Rule.Leap n = split_march Rule.Leap (λ y. omega arith) n _ (year_day_lem Rule.Leap (n + 306))
place_split Rule.Thirty n = split_thirty n _ (year_day_lem Rule.Thirty n)

pub place_at_lem : (r : Rule) (n : ℕ) → place_of r n ≡ at r n
place_at_lem r n = let s = place_split r n in sym (at_is r (place_of r n) n s.proper s.counted)

-- the numbers of the place of a day that is not far are small
pub place_small : (r : Rule) (n : ℕ) → n < 2 ^ 30 → ((place_of r n).y < 2 ^ 31) × (((place_of r n).m < 12) × ((place_of r n).i < 31))
unfolding count
place_small r n h =
    let p = place_of r n in
    let s = place_split r n in
    (omega (arith, s.counted, year_least r p.y), (s.proper.month, omega (arith, s.proper.day, month_days_lem (kind_at r p.y) p.m (kind_low r p.y) s.proper.month)))

-- a place as one number, and read back from it
abbrev pub packed_place : Place → ℕ
packed_place p = 512 * p.y + 32 * p.m + p.i

pub unpacked_place_lem : (p : Place) → p.m < 12 → p.i < 31 → unpacked_place (packed_place p) ≡ p
unpacked_place_lem p h g = place_eq (omega arith) (omega arith) (omega arith)
