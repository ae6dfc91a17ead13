-- `LeapList::holding` meets its contract: the first record is not after the day.
use Rattle.std.proofs.Common.{◌≡◌, ℕ, List, suc, zero, ◌<◌, ◌≤◌, ap, arith}
use Rattle.leap_seconds.specs.Closed.{day_at}
use Rattle.leap_seconds.proofs.Listed.{listed}
use Rattle.leap_seconds.proofs.LeapList.holding.Goals as goal

-- the last record that was asked is later than the day, and it is not the first
second_is_later : (s : List ℕ) (d n i : ℕ) → day_at s 0 ≤ d → 1 < n → i ≤ 1 → (i < n → d < day_at s i) → d < day_at s 1
second_is_later s d n zero f h e later = absurd (omega (arith, later))
second_is_later s d n (suc i) f h e later = let k : suc i ≡ 1 = omega arith in omega (arith, later, ap (day_at s) k)

pub returns : goal.returns
returns c =
    let l = listed c.args.self.bytes.now c.args.self.good in
    record { inside = omega (arith, l.some); from = omega (arith, l.first); until = λ h. second_is_later c.args.self.bytes.now c.args.day _ c.loop-i.i (omega (arith, l.first)) h (omega arith) c.loop-i.invariant }
