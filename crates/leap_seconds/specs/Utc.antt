-- UTC by a list of leap seconds: days of 86,400 seconds, and of 86,401 where the next day is a record's, the first record left out.
use Rattle.std.specs.Prelude.{Bool, false, ◌||◌, cond, List, [], ◌∷◌, ℕ, zero, suc, ltb, ℤ, pos}
use Rattle.std.specs.Int.Signed.{le_z}
use Rattle.leap_seconds.specs.Leaps.{Leap, is_natural}
use Rattle.leap_seconds.specs.declared.Moment.{Moment}

-- the count on day d is that of the last record not after it; k is the count before the records
unfoldable pub count_from : ℤ → List Leap → ℤ → ℤ
count_from k [] d = k
count_from k (r ∷ rs) d = cond (le_z r.day d) (count_from r.count rs d) k

unfoldable pub count_on : List Leap → ℤ → ℤ
count_on [] d = pos 0
count_on (r ∷ rs) d = count_from r.count rs d

-- some record has the property p, and some record after the first
unfoldable pub some_leap : (Leap → Bool) → List Leap → Bool
some_leap p [] = false
some_leap p (r ∷ rs) = p r || some_leap p rs

unfoldable pub some_later : (Leap → Bool) → List Leap → Bool
some_later p [] = false
some_later p (r ∷ rs) = some_leap p rs

-- day d ends with a leap second: the next day is a record's, and not the first record's
unfoldable pub is_leap_day : List Leap → ℕ → Bool
is_leap_day l d = some_later (λ (r : Leap). is_natural r.day (suc d)) l

abbrev pub day_seconds : List Leap → ℕ → ℕ
day_seconds l d = cond (is_leap_day l d) 86401 86400

-- ---- seconds, one after another

-- a second of a day: days are counted from 1970-01-01 and seconds from 0, so that second 86,400 is 23:59:60
abbrev pub moment : ℕ → ℕ → Moment
moment d s = record { day = d; second = s }

-- the next second of the day, or the first of the next day
unfoldable pub next_second : List Leap → Moment → Moment
next_second l m = cond (ltb (suc m.second) (day_seconds l m.day)) (moment m.day (suc m.second)) (moment (suc m.day) 0)

-- n seconds after the beginning of 1972-01-01, which is day 730
unfoldable pub moment_at : List Leap → ℕ → Moment
moment_at l zero = moment 730 0
moment_at l (suc n) = next_second l (moment_at l n)
