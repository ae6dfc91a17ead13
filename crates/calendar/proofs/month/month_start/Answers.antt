-- `calendar::month::month_start` meets its contract.
use mathlib.Core.Path.{◌≡◌, sym, ◌∙◌}
use Prim.Native.Nat.{◌+◌, ◌-◌, ◌*◌, ◌/◌}
use borrow.Author.Tests.{eq-eqb, ne_eqb}
use Rattle.calendar.proofs.Tables.{month_start_lem, month_start_of}
use Rattle.calendar.proofs.month.month_start.Goals as goal

pub returns-then-j-eq2 : goal.returns-then-j-eq2
returns-then-j-eq2 c =
    let k = c.args.k in
    let m = c.args.m in
    let e : month_start_of k m ≡ 30 * m = rw (eq-eqb k 2 c.if-j-eq2.true) in
    sym e ∙ month_start_lem k m c.requires.0 c.requires.1

pub returns : goal.returns
returns c =
    let k = c.args.k in
    let m = c.args.m in
    let e : month_start_of k m ≡ (367 * m + 5) / 12 - c.short_days.result = rw (ne_eqb k 2 c.if-j-eq2.false, c.short_days.ensures) in
    sym e ∙ month_start_lem k m c.requires.0 c.requires.1
