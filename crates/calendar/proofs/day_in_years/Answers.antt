-- `calendar::day_in_years` meets its contract.
use mathlib.Core.Path.{sym, ap, ◌∙◌}
use Prim.Native.Nat.{ℕ, ◌+◌, ◌-◌}
use native.Mathlib.Omega.{arith}
use lib.Dec.{leb, ltb}
use Rattle.calendar.proofs.Range.{small}
use Rattle.calendar.proofs.Answering.{years_early, years_middle, years_late}
use Rattle.calendar.proofs.day_in_years.Goals as goal

pub overflow_add-result : goal.overflow_add-result
overflow_add-result c =
    let o = c in
    omega (arith, small o.args.c, o.origin.ensures, c.first_day.ensures)

pub returns-then-k : goal.returns-then-k
returns-then-k c =
    let o = c in
    let a = o.args in
    ap (λ (f : ℕ). leb (o.origin.result + f) a.k) c.first_day.ensures
    ∙ years_early a.c a.k o.origin.result o.origin.ensures (omega (arith, o.if-k.true))

pub returns-then-k-2 : goal.returns-then-k-2
returns-then-k-2 c =
    let a = c.args in
    sym (years_middle a.c a.k (omega (arith, c.if-k.false)) (omega (arith, c.if-k-2.true)))

pub returns : goal.returns
returns c =
    let o = c in
    let a = o.args in
    ap (λ (e : ℕ). ltb (a.k - o.origin-2.result) e) c.end_day.ensures
    ∙ years_late a.c a.k o.origin-2.result o.origin-2.ensures (omega (arith, o.if-k-2.false))
