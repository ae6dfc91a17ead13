-- `calendar::place_in_years` meets its contract.
use mathlib.Core.Path.{subst}
use Prim.Native.Nat.{◌-◌, ◌<◌, ◌≤◌}
use native.Mathlib.Omega.{arith}
use lib.IntN.{ℤ}
use Rattle.calendar.specs.Closed.{end_day, PlaceOfDay}
use Rattle.calendar.proofs.Range.{small}
use Rattle.calendar.proofs.Answering.{years_inside, place_is}
use Rattle.calendar.proofs.place_in_years.Goals as goal
use Rattle.calendar.proofs.place_in_years.Goals.{After-origin}

inside : (c : After-origin) → (c.origin.result ≤ c.args.k) × (c.args.k - c.origin.result < end_day c.args.c)
inside c = years_inside c.args.c c.args.k c.origin.result c.origin.ensures c.requires

pub overflow_sub-k : goal.overflow_sub-k
overflow_sub-k c = (inside c).0

pub packed_place-requires : goal.packed_place-requires
packed_place-requires c = omega (arith, (inside c).1, small c.args.c)

pub returns : goal.returns
returns c =
    let o = (goal.at.returns c).After-origin in
    let s = c in
    subst (λ (z : ℤ). PlaceOfDay s.args.c z c.packed_place.result) (place_is s.args.c s.args.k o.origin.result o.origin.ensures (inside o).0) c.packed_place.ensures
