-- `calendar::ordinal::early_day` meets its contract.
use Rattle.std.specs.Prelude.{Some, None}
use mathlib.Core.Path.{◌≡◌, sym, ap, ◌∙◌}
use mathlib.Core.Bool.{Bool, ◌&&◌, cond}
use Prim.Native.Nat.{ℕ, ◌+◌, ◌-◌}
use native.Mathlib.Omega.{arith}
use lib.Dec.{ltb}
use borrow.Author.Tests.{ltb-true}
use Rattle.calendar.specs.Plain.{month_days}
use Rattle.calendar.specs.Calendar.{row_of}
use Rattle.calendar.specs.Closed.{CountedRow, kind_at, count, counts, lag, late_from, row_epoch, early_day}
use Rattle.calendar.specs.declared.Calendar.{Calendar}
use Rattle.calendar.specs.declared.place.Place.{Place}
use Rattle.calendar.specs.declared.rule.Rule.{Rule}
use Rattle.calendar.proofs.Years.{year_least}
use Rattle.calendar.proofs.Days.{late_small}
use Rattle.calendar.proofs.Rows.{cutover}
use Rattle.calendar.proofs.ordinal.early_day.Goals as goal
use Rattle.calendar.proofs.ordinal.early_day.Goals.{After-is_early_day, After-is_proper}

module _ (w : Calendar) (p : Place) where
  abbrev k : CountedRow
  k = counts w

  abbrev has : Bool
  has = ltb p.i (month_days (kind_at k.early p.y) p.m)

  abbrev day : ℕ
  day = count k.early p - lag k

  -- what the two tests settle
  settled : (a b : Bool) → has ≡ a → ltb day (late_from k) ≡ b → cond (a && b) (Some (day + (9223372036854775808 - row_epoch k))) None ≡ early_day k p
  unfolding early_day
  settled a b e f = λ i. cond (sym e i && sym f i) (Some (day + (9223372036854775808 - row_epoch k))) None

  lacking : has ≡ Bool.false → None ≡ early_day k p
  lacking e = settled Bool.false (ltb day (late_from k)) e (λ i. ltb day (late_from k))

is_proper : (b : After-is_proper) {t : Bool} → b.is_proper.result ≡ t → has b.args.c b.args.p ≡ t
is_proper b h =
    let q = b.args.p in
    ap (λ (r : Rule). ltb q.i (month_days (kind_at r q.y) q.m)) (sym b.rule_of-early.ensures) ∙ (sym b.is_proper.ensures ∙ h)

pub returns-then-not-is_proper : goal.returns-then-not-is_proper
returns-then-not-is_proper c =
    let b = (goal.at.returns-then-not-is_proper c).After-is_proper in
    lacking c.args.c c.args.p (is_proper b c.if-not-is_proper.true)

pub overflow_sub-n : goal.overflow_sub-n
unfolding count
overflow_sub-n c =
    omega (arith, c.lag_of.ensures, c.days_before.ensures, year_least c.rule_of-early.result c.args.p.y, c.requires.0, (cutover c.args.c).lag_small)

-- the day that is found, and whether it is early
module _ (l : After-is_early_day) where
  day_is : l.days_before.result - l.lag_of.result ≡ day l.args.c l.args.p
  day_is = λ i. (l.days_before.ensures ∙ ap (λ (r : Rule). count r l.args.p) l.rule_of-early.ensures) i - l.lag_of.ensures i

  early : {t : Bool} → l.is_early_day.result ≡ t → ltb (day l.args.c l.args.p) (late_from (counts l.args.c)) ≡ t
  early h = ap (λ (n : ℕ). ltb n (late_from (counts l.args.c))) (sym day_is) ∙ (sym l.is_early_day.ensures ∙ h)

pub overflow_add-result : goal.overflow_add-result
overflow_add-result c =
    let l = (goal.at.overflow_add-result c).After-is_early_day in
    let a = c.args in
    record { fits = omega (arith, c.origin.ensures, day_is l, ltb-true (day a.c a.p) (late_from (counts a.c)) (early l c.if-not-is_early_day.false), late_small (row_of a.c) (cutover a.c)) }

pub returns : goal.returns
returns c =
    let l = (goal.at.returns c).After-is_early_day in
    let there = is_proper (goal.at.returns c).After-is_proper c.if-not-is_proper.false in
    (λ i. Some (day_is l i + c.origin.ensures i)) ∙ settled c.args.c c.args.p Bool.true Bool.true there (early l c.if-not-is_early_day.false)

pub returns-then-not-is_early_day : goal.returns-then-not-is_early_day
returns-then-not-is_early_day c =
    let l = (goal.at.returns-then-not-is_early_day c).After-is_early_day in
    settled c.args.c c.args.p Bool.true Bool.false (is_proper (goal.at.returns-then-not-is_early_day c).After-is_proper c.if-not-is_proper.false) (early l c.if-not-is_early_day.true)
