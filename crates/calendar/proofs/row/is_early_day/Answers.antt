-- `calendar::row::is_early_day` meets its contract.
use mathlib.Core.Path.{◌≡◌, sym, ap, ◌∙◌}
use mathlib.Core.Bool.{Bool, true, false, cond}
use Prim.Native.Nat.{ℕ, zero, suc, ◌+◌, ◌≤◌, ◌<◌}
use native.Mathlib.Omega.{arith}
use lib.Dec.{ltb}
use borrow.Author.Tests.{lt-ltb, le-ltb}
use Rattle.calendar.specs.Calendar.{days_used}
use Rattle.calendar.specs.Closed.{counts, late_from}
use Rattle.calendar.specs.Cutover.{allowed_after}
use Rattle.calendar.specs.declared.Calendar.{Calendar}
use Rattle.calendar.proofs.Rows.{late_from_lem}
use Rattle.calendar.proofs.row.is_early_day.Goals as goal
use Rattle.calendar.proofs.row.is_early_day.Goals.{In-Standard}

-- no cutover after the one that is carried is used
within : (k : ℕ) → days_used k ≤ k
within zero = omega arith
within (suc k) = go (allowed_after (suc k))
  where
    go : (t : Bool) → cond t (suc k) zero ≤ suc k
    go true = omega arith
    go false = omega arith

-- after the first cutover, and before the one that is carried, a day is early where that is allowed
between : (k n : ℕ) → 4230526 ≤ n → n < 4230526 + k → allowed_after k ≡ ltb n (4230526 + days_used k)
between zero n h g = absurd (omega arith)
between (suc k) n h g = go (allowed_after (suc k))
  where
    go : (t : Bool) → t ≡ ltb n (4230526 + cond t (suc k) zero)
    go true = sym (lt-ltb n (4230526 + suc k) g)
    go false = sym (le-ltb n (4230526 + zero) (omega arith))

-- `standard` is late from its cutover on
from : (e : In-Standard) → late_from (counts e.args.c) ≡ 4230526 + days_used e.in-Standard.k
from e = ap (λ (x : Calendar). late_from (counts x)) e.in-Standard.is ∙ late_from_lem e.in-Standard.k

pub returns-then-n-lt-FIRST : goal.returns-then-n-lt-FIRST
returns-then-n-lt-FIRST c =
    lt-ltb c.args.n 4230526 c.if-n-lt-FIRST.true ∙ sym (lt-ltb c.args.n (late_from (counts c.args.c)) (omega (arith, from (goal.at.returns-then-n-lt-FIRST c).In-Standard, c.if-n-lt-FIRST.true)))

-- from the cutover that is carried on, whether it is allowed or not
pub returns-else-n-k : goal.returns-else-n-k
returns-else-n-k c =
    let e = (goal.at.returns-else-n-k c).In-Standard in
    le-ltb c.args.n _ c.if-n-k.false ∙ sym (le-ltb c.args.n (late_from (counts c.args.c)) (omega (arith, from e, within e.in-Standard.k, c.if-n-k.false)))

-- between the first and that
pub returns-then-n-k : goal.returns-then-n-k
returns-then-n-k c =
    let e = (goal.at.returns-then-n-k c).In-Standard in
    c.is_allowed.ensures ∙ (between e.in-Standard.k c.args.n c.if-n-lt-FIRST.false c.if-n-k.true ∙ ap (ltb c.args.n) (sym (from e)))
