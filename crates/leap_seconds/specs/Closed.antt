-- What only inner functions compute: numbers of the list by their place, and the record that holds on a day.
use Rattle.std.specs.Prelude.{◌≡◌, List, ℕ, suc, ◌*◌, ◌/◌, ◌≤◌, ◌<◌, pos, length}
use Rattle.leap_seconds.specs.Leaps.{Leap, word_at}
use Rattle.leap_seconds.specs.Utc.{count_on}

-- the day of record i of a good list, where no number has a sign
abbrev pub day_at : List ℕ → ℕ → ℕ
day_at s i = word_at s (16 * i)

-- record j holds on day d: it is the last that is not after it
pub record HoldsOn (s : List ℕ) (d j : ℕ) : Type 0 where
  pub inside : j < length s / 16
  pub from : day_at s j ≤ d
  pub until : suc j < length s / 16 → d < day_at s (suc j)

-- k is the count on day d
pub record CountIs (l : List Leap) (d k : ℕ) : Type 0 where
  pub is : count_on l (pos d) ≡ pos k
  pub small : k ≤ 73
