-- `LeapList::is_leap_day` meets its contract.
use mathlib.Core.Path.{◌∙◌, subst}
use Prim.Native.Nat.{ℕ}
use native.Mathlib.Omega.{arith}
use lib.Dec.{eqb}
use native.Mathlib.Numerals.{add-one}
use Rattle.leap_seconds.specs.Closed.{HoldsOn}
use Rattle.leap_seconds.proofs.Listed.{listed, listed_small}
use Rattle.leap_seconds.proofs.OnDays.{after_first, not_listed, leap_test}
use Rattle.leap_seconds.proofs.LeapList.is_leap_day.Goals as goal
use Rattle.leap_seconds.proofs.LeapList.is_leap_day.Goals.{then-day-lt730-via-then-day-lt730, then-day-lt730-via-else-day-lt730+then-day}

pub returns-then-day-lt730 : goal.returns-then-day-lt730
returns-then-day-lt730 c =
    let s = c.args.self.bytes.now in
    let l = listed s c.args.self.good in
    elim c.then-day-lt730.branch [
      | then-day-lt730-via-then-day-lt730 w ↦ not_listed s l c.args.day (λ k f g e. omega (arith, after_first s l k f g))
      | then-day-lt730-via-else-day-lt730+then-day w ↦ not_listed s l c.args.day (λ k f g e. omega (arith, listed_small s l k g))
    ]

pub returns : goal.returns
returns c =
    let h = c in
    let b = c in
    let s = b.args.self.bytes.now in
    let d = b.args.day in
    let j = h.holding-i.result in
    (λ i. eqb (c.day.ensures i) (add-one d i))
    ∙ leap_test s (listed s b.args.self.good) d j h.if-day-lt730.false (subst (λ (n : ℕ). HoldsOn s n j) (add-one d) h.holding-i.ensures)
