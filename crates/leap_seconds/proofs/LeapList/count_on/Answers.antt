-- `LeapList::count_on` meets its contract.
use mathlib.Core.Path.{◌≡◌, subst}
use Prim.Native.Nat.{◌+◌}
use native.Mathlib.Omega.{arith}
use Rattle.leap_seconds.specs.Leaps.{leaps}
use Rattle.leap_seconds.specs.Closed.{CountIs}
use Rattle.leap_seconds.proofs.Listed.{listed}
use Rattle.leap_seconds.proofs.OnDays.{count_is}
use Rattle.leap_seconds.proofs.LeapList.count_on.Goals as goal

pub returns : goal.returns
returns c =
    let b = c in
    let s = b.args.self.bytes.now in
    let j = c.holding.result in
    let e : 10 + j ≡ j + 10 = omega arith in
    subst (CountIs (leaps s) b.args.day) e (count_is s (listed s b.args.self.good) b.args.day j c.holding.ensures)
