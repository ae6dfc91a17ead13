-- Moments: each second of each day comes once, and n seconds after the beginning of 1972 comes the moment whose days, seconds and leap seconds
-- make n.
use mathlib.Core.Path.{◌≡◌, refl, sym, ap, ◌∙◌}
use mathlib.Core.Bool.{Bool, true, false, cond}
use mathlib.Core.List.{List}
use Prim.Native.Nat.{ℕ, zero, suc, ◌+◌, ◌-◌, ◌*◌, ◌/◌, ◌%◌, ◌<◌, ◌≤◌}
use native.Mathlib.Omega.{arith}
use native.Mathlib.Decide.{dec_le}
use borrow.Author.Tests.{lt-ltb, le-ltb, eq-eqb}
use Rattle.leap_seconds.specs.Leaps.{Leap, leaps}
use Rattle.leap_seconds.specs.Utc.{is_leap_day, day_seconds, moment, next_second, moment_at}
use Rattle.leap_seconds.specs.Closed.{day_at, HoldsOn}
use Rattle.leap_seconds.specs.declared.Moment.{Moment}
use Rattle.leap_seconds.proofs.Listed.{Listed, rising}
use Rattle.leap_seconds.proofs.OnDays.{DayEnd, leap, plain, day_end, first_holds, holds_order, leap_test}

pub day_seconds_lem : (l : List Leap) (d : ℕ) → (86400 ≤ day_seconds l d) × (day_seconds l d ≤ 86401)
day_seconds_lem l d = go (is_leap_day l d)
  where
    go : (t : Bool) → (86400 ≤ cond t 86401 86400) × (cond t 86401 86400 ≤ 86401)
    go true = (omega arith, omega arith)
    go false = (omega arith, omega arith)

module _ (s : List ℕ) (l : Listed s) where
  -- second q of day d, on which record j holds
  pub record InDay (d q j : ℕ) : Type 0 where
    pub holds : HoldsOn s d j
    pub low : 730 ≤ d
    pub within : q < day_seconds (leaps s) d

  -- from a moment to the beginning of the next day
  pub record Left (d q j k : ℕ) : Type 0 where
    pub holds : HoldsOn s (suc d) k
    pub sum : q + j < 86400 + k
    pub whole : q + 1 ≡ day_seconds (leaps s) d → q + j + 1 ≡ 86400 + k

  pub left : (d q j : ℕ) → InDay d q j → (k : ℕ) × Left d q j k
  left d q j i = go (day_end s l d j i.low i.holds)
    where
      go : DayEnd s l d j → (k : ℕ) × Left d q j k
      go (leap y h) =
          let e : day_seconds (leaps s) d ≡ 86401 = rw y in
          (suc j, record { holds = h; sum = omega (arith, i.within); whole = λ f. omega arith })
      go (plain y h) =
          let e : day_seconds (leaps s) d ≡ 86400 = rw y in
          (j, record { holds = h; sum = omega (arith, i.within); whole = λ f. omega arith })

  -- a moment of a later day is later
  pub later_day : (d q j d' q' j' : ℕ) → InDay d q j → InDay d' q' j' → d < d' → d * 86400 + q + j < d' * 86400 + q' + j'
  later_day d q j d' q' j' a b h =
      let t = left d q j a in
      omega (arith, t.1.sum, holds_order s l (suc d) d' t.0 j' t.1.holds b.holds h)

  -- two moments at one time are one
  pub one_moment : (d q j d' q' j' : ℕ) → InDay d q j → InDay d' q' j' → d * 86400 + q + j ≡ d' * 86400 + q' + j' → (d ≡ d') × (q ≡ q')
  one_moment d q j d' q' j' a b e =
      elim (dec_le (suc d) d') [
        | yes h ↦ absurd (omega (arith, later_day d q j d' q' j' a b h))
        | no h ↦ elim (dec_le (suc d') d) [
          | yes g ↦ absurd (omega (arith, later_day d' q' j' d q j b a g))
          | no g ↦
              let f : d ≡ d' = omega arith in
              (f, omega (arith, holds_order s l d d' j j' a.holds b.holds (omega arith), holds_order s l d' d j' j b.holds a.holds (omega arith)))
        ]
      ]

  -- ---- second by second

  pub record Reached (m : Moment) (n : ℕ) : Type 0 where
    pub day : ℕ
    pub second : ℕ
    pub leaps_before : ℕ
    pub in_day : InDay day second leaps_before
    pub is : m ≡ moment day second
    pub sum : day * 86400 + second + leaps_before ≡ n + 63072000

  next_is : (d q j n : ℕ) → InDay d q j → d * 86400 + q + j ≡ n + 63072000 → Reached (next_second (leaps s) (moment d q)) (suc n)
  unfolding next_second
  next_is d q j n a e =
      elim (dec_le (suc (suc q)) (day_seconds (leaps s) d)) [
        | yes h ↦ record { day = d; second = suc q; leaps_before = j; in_day = record { holds = a.holds; low = a.low; within = h }; is = rw (lt-ltb (suc q) (day_seconds (leaps s) d) h); sum = omega arith }
        | no h ↦
            let t = left d q j a in
            let w = t.1.whole (omega (arith, a.within)) in
            record { day = suc d; second = 0; leaps_before = t.0; in_day = record { holds = t.1.holds; low = omega (arith, a.low); within = omega (arith, (day_seconds_lem (leaps s) (suc d)).0) }; is = rw (le-ltb (suc q) (day_seconds (leaps s) d) (omega arith)); sum = omega arith }
      ]

  pub reached : (n : ℕ) → Reached (moment_at (leaps s) n) n
  unfolding moment_at
  reached zero = record { day = 730; second = 0; leaps_before = 0; in_day = record { holds = first_holds s l; low = omega arith; within = omega (arith, (day_seconds_lem (leaps s) 730).0) }; is = refl; sum = omega arith }
  reached (suc n) =
      let r = reached n in
      let t = next_is r.day r.second r.leaps_before n r.in_day r.sum in
      record { day = t.day; second = t.second; leaps_before = t.leaps_before; in_day = t.in_day; is = ap (next_second (leaps s)) r.is ∙ t.is; sum = t.sum }

  pub moment_is : (d q j n : ℕ) → InDay d q j → d * 86400 + q + j ≡ n + 63072000 → moment_at (leaps s) n ≡ moment d q
  moment_is d q j n a e =
      let r = reached n in
      let o = one_moment r.day r.second r.leaps_before d q j r.in_day a (omega (arith, r.sum)) in
      r.is ∙ (λ i. moment (o.0 i) (o.1 i))

  pub moment_small : (n : ℕ) → ((moment_at (leaps s) n).day * 86400 ≤ n + 63072000) × ((moment_at (leaps s) n).second ≤ 86400)
  moment_small n =
      let r = reached n in
      let d = ap (λ (m : Moment). m.day) r.is in
      let q = ap (λ (m : Moment). m.second) r.is in
      (omega (arith, r.sum), omega (arith, r.in_day.within, (day_seconds_lem (leaps s) r.day).1))

  -- ---- the moment of a time. t counts seconds from 1970 on, with the leap seconds since 1972, and record i holds on day t / 86400 of days
  -- without leap seconds

  module _ (t i : ℕ) (low : 63072000 ≤ t) (h : HoldsOn s (t / 86400) i) where
    enough : i < 64
    enough = omega (arith, h.inside, l.few)

    -- record i has begun
    pub begun : day_at s i ≤ (t - i) / 86400 → InDay ((t - i) / 86400) ((t - i) % 86400) i
    begun g = record { holds = record { inside = h.inside; from = g; until = λ f. omega (arith, h.until f) }; low = omega (arith, l.first, rising s l 0 i (omega arith) h.inside); within = omega (arith, (day_seconds_lem (leaps s) ((t - i) / 86400)).0) }

    module _ (g : (t - i) / 86400 < day_at s i) where
      pub not_first : 1 ≤ i
      not_first = by_place i refl
        where
          by_place : (k : ℕ) → i ≡ k → 1 ≤ i
          by_place zero e = absurd (omega (arith, h.from))
          by_place (suc k) e = omega arith

      -- the record before it holds on a day before its own
      before : (d : ℕ) → d < day_at s i → day_at s i ≤ suc d → HoldsOn s d (i - 1)
      before d a b =
          let e : suc (i - 1) ≡ i = omega (arith, not_first) in
          let f : day_at s (suc (i - 1)) ≡ day_at s i = ap (day_at s) e in
          record { inside = omega (arith, h.inside); from = omega (arith, l.later (i - 1) (omega (arith, h.inside))); until = λ u. omega arith }

      low_before : (d : ℕ) → HoldsOn s d (i - 1) → 730 ≤ d
      low_before d b = omega (arith, l.first, rising s l 0 (i - 1) (omega arith) b.inside, b.from)

      -- its day is the next, and has not begun
      pub before_it : (t - i + 1) / 86400 < day_at s i → InDay ((t - i + 1) / 86400) ((t - i + 1) % 86400) (i - 1)
      before_it a =
          let d = (t - i + 1) / 86400 in
          let held = before d a (omega (arith, h.from, enough)) in
          record { holds = held; low = low_before d held; within = omega (arith, (day_seconds_lem (leaps s) d).0) }

      -- it begins after the leap second
      pub leap_second : day_at s i ≤ (t - i + 1) / 86400 → InDay (day_at s i - 1) 86400 (i - 1)
      leap_second a =
          let d = day_at s i - 1 in
          let next : suc d ≡ day_at s i = omega (arith, g) in
          let held = before d (omega arith) (omega arith) in
          let held_next : HoldsOn s (suc d) i = record { inside = h.inside; from = omega arith; until = λ u. omega (arith, l.later i u) } in
          let is : is_leap_day (leaps s) d ≡ true = sym (leap_test s l d i (low_before d held) held_next) ∙ eq-eqb (day_at s i) (suc d) (sym next) in
          let seconds : day_seconds (leaps s) d ≡ 86401 = rw is in
          record { holds = held; low = low_before d held; within = omega arith }
