-- `calendar::place::days_before` meets its contract.
use mathlib.Core.Path.{ap}
use Prim.Native.Nat.{ℕ, ◌+◌, ◌*◌, ◌<◌, ◌≤◌}
use native.Mathlib.Omega.{arith}
use Rattle.calendar.specs.Closed.{month_start, count}
use Rattle.calendar.proofs.Years.{year_most, kind_low}
use Rattle.calendar.proofs.Tables.{month_room}
use Rattle.calendar.proofs.place.days_before.Goals as goal
use Rattle.calendar.proofs.place.days_before.Goals.{After-month_start}

small : (c : After-month_start) → (c.year_start.result ≤ 366 * c.args.p.y + 2) × (c.month_start.result < 400)
small c =
    let s = c in
    let k = c.kind_of_year-k in (
      omega (arith, c.year_start.ensures, year_most s.args.r s.args.p.y),
      omega (arith, c.month_start.ensures, s.requires.1.0, month_room k.result s.args.p.m (rw k.ensures (kind_low s.args.r s.args.p.y)) (omega (arith, s.requires.1.0))),
    )

pub month_start-requires : goal.month_start-requires
month_start-requires c = let s = c in (rw c.kind_of_year-k.ensures (kind_low s.args.r s.args.p.y), s.requires.1.0)

pub overflow_add-result : goal.overflow_add-result
overflow_add-result c = record { fits = omega (arith, small c, c.requires) }

pub overflow_add-result-2 : goal.overflow_add-result-2
overflow_add-result-2 c = record { fits = omega (arith, small (goal.at.overflow_add-result-2 c).After-month_start, c.requires) }

pub returns : goal.returns
unfolding count
returns c =
    let m = c in
    let s = c in
    omega (arith, m.year_start.ensures, m.month_start.ensures, ap (λ (k : ℕ). month_start k s.args.p.m) m.kind_of_year-k.ensures)
