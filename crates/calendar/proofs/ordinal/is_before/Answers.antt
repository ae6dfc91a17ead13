-- `calendar::ordinal::is_before` meets its contract.
use Rattle.calendar.proofs.Counting.{by_other_year, by_month_before, by_month_after, by_day_test}
use Rattle.calendar.proofs.ordinal.is_before.Goals as goal

pub returns-then-y-p : goal.returns-then-y-p
returns-then-y-p c = let a = c.args in by_other_year a.y a.month a.day a.p c.if-y-p.true

pub returns-then-m-p : goal.returns-then-m-p
returns-then-m-p c = let a = c.args in by_month_before a.y a.month a.day a.p c.if-y-p.false c.if-m-p.true

pub returns-then-p-m : goal.returns-then-p-m
returns-then-p-m c = let a = c.args in by_month_after a.y a.month a.day a.p c.if-y-p.false c.if-p-m.true

pub returns : goal.returns
returns c =
    let l = c in
    let e = c in
    let a = e.args in
    by_day_test a.y a.month a.day a.p e.if-y-p.false e.if-m-p.false l.if-p-m.false
