-- `calendar::first_day` meets its contract.
use mathlib.Core.Path.{◌≡◌, ap, ◌∙◌}
use Prim.Native.Nat.{◌≤◌}
use native.Mathlib.Omega.{arith}
use Rattle.calendar.specs.Closed.{year_start, counts, lag, first_year, row_start}
use Rattle.calendar.specs.declared.Calendar.{Calendar}
use Rattle.calendar.proofs.Years.{year_least}
use Rattle.calendar.proofs.Range.{first_two}
use Rattle.calendar.proofs.Rows.{cutover}
use Rattle.calendar.specs.declared.row.Parts.{Parts}
use Rattle.calendar.proofs.first_day.Goals as goal
use Rattle.calendar.proofs.first_day.Goals.{After-lag_of}

start : (c : After-lag_of) → let x = counts c.args.c in c.year_start.result ≡ year_start x.early (first_year x.zero)
start c =
    let y = c in
    let r = y.parts_of-r in
    c.year_start.ensures ∙ (ap (year_start r.result.early) y.first_year.ensures ∙ ap (λ (k : Parts). year_start k.early (first_year k.zero)) r.ensures)

-- the lag is less than a year
room : (x : Calendar) → lag (counts x) ≤ year_start (counts x).early (first_year (counts x).zero)
room x = let z = (counts x).zero in omega (arith, (cutover x).lag_small, first_two z, year_least (counts x).early (first_year z))

pub overflow_sub-result : goal.overflow_sub-result
overflow_sub-result c = omega (arith, start c, room c.args.c, c.lag_of.ensures)

pub returns : goal.returns
unfolding row_start
returns c = omega (arith, start c, c.lag_of.ensures)
