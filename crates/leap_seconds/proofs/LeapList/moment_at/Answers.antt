-- `LeapList::moment_at` meets its contract.
use mathlib.Core.Path.{sym, ap, ◌∙◌}
use mathlib.Core.List.{List}
use Prim.Native.Nat.{ℕ, ◌+◌, ◌-◌, ◌/◌, ◌%◌, ◌<◌}
use native.Mathlib.Omega.{arith}
use Rattle.leap_seconds.specs.Utc.{moment}
use Rattle.leap_seconds.specs.Closed.{day_at}
use Rattle.leap_seconds.proofs.Listed.{Listed, listed}
use Rattle.leap_seconds.proofs.Moments.{InDay, begun, not_first, before_it, leap_second, moment_is}
use Rattle.leap_seconds.proofs.LeapList.moment_at.Goals as goal
use Rattle.leap_seconds.proofs.LeapList.moment_at.Goals.{After-day-day}

module _ (c : After-day-day) where
  abbrev s : List ℕ
  s = c.args.self.bytes.now

  abbrev n : ℕ
  n = c.args.n

  abbrev t : ℕ
  t = n + 63072000

  abbrev i : ℕ
  i = c.holding-i.result

  l : Listed s
  l = listed s c.args.self.good

  few : i < 64
  few = omega (arith, l.few, c.holding-i.ensures.inside)

pub overflow_sub-v : goal.overflow_sub-v
overflow_sub-v c = omega (arith, few c)

pub returns-then-day-v : goal.returns-then-day-v
returns-then-day-v c =
    let w = (goal.at.returns-then-day-v c).After-day-day in
    c.plain_moment.ensures
    ∙ sym (moment_is (s w) (l w) ((t w - i w) / 86400) ((t w - i w) % 86400) (i w) (n w)
    (begun (s w) (l w) (t w) (i w) (omega arith) w.holding-i.ensures (omega (arith, w.day-day.ensures, c.if-day-v.true)))
    (omega (arith, few w)))

pub returns-then-day-v-2 : goal.returns-then-day-v-2
returns-then-day-v-2 c =
    let w = (goal.at.returns-then-day-v-2 c).After-day-day in
    let late : (t w - i w) / 86400 < day_at (s w) (i w) = omega (arith, w.day-day.ensures, c.if-day-v.false) in
    let at : InDay (s w) (l w) (day_at (s w) (i w) - 1) 86400 (i w - 1) = leap_second (s w) (l w) (t w) (i w) (omega arith) w.holding-i.ensures late (omega (arith, w.day-day.ensures, c.if-day-v-2.true)) in
    let first = not_first (s w) (l w) (t w) (i w) (omega arith) w.holding-i.ensures late in
    ap (λ (d : ℕ). moment (d - 1) 86400) w.day-day.ensures
    ∙ sym (moment_is (s w) (l w) (day_at (s w) (i w) - 1) 86400 (i w - 1) (n w) at (omega (arith, few w, w.day-day.ensures, c.if-day-v-2.true, at.low)))

pub returns : goal.returns
returns c =
    let w = (goal.at.returns c).After-day-day in
    let late : (t w - i w) / 86400 < day_at (s w) (i w) = omega (arith, w.day-day.ensures, c.if-day-v.false) in
    let v = t w - i w + 1 in
    let first = not_first (s w) (l w) (t w) (i w) (omega arith) w.holding-i.ensures late in
    c.plain_moment-2.ensures
    ∙ sym (moment_is (s w) (l w) (v / 86400) (v % 86400) (i w - 1) (n w)
    (before_it (s w) (l w) (t w) (i w) (omega arith) w.holding-i.ensures late (omega (arith, w.day-day.ensures, c.if-day-v-2.false)))
    (omega (arith, few w)))
