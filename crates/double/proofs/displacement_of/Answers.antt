-- `double::displacement_of` meets its contract. proofs/Values.antt goes from the pattern to the definition.
use mathlib.Core.Path.{subst}
use Prim.Native.Nat.{ℕ, ◌+◌, ◌<◌, ◌≤◌}
use lib.Dec.{T}
use lib.Ieee.{binary64, fits}
use borrow.Author.Rules.{rules}
use Rattle.double.specs.declared.Pattern.{Pattern}
use Rattle.double.proofs.Bits.{field_of, digits_of, given_field}
use Rattle.double.proofs.Scaling.{large}
use Rattle.double.proofs.Values.{large_is, counted}
use Rattle.double.proofs.displacement_of.Goals as goal
use Rattle.double.proofs.displacement_of.Goals.{In_ok-p}

finite_field : (c : In_ok-p) → field_of c.args.x < 2047
finite_field c = subst (λ (k : Pattern). k.field < 2047) c.in_ok-p.ensures.0 c.in_ok-p.ensures.1

pub returns-then-scale-p : goal.returns-then-scale-p
returns-then-scale-p c =
    let held : T (fits binary64 c.args.x) = search rules in
    let o = (goal.at.returns-then-scale-p c).In_ok-p in
    large_is c.args.x held c.args.scale.micros (finite_field o)
    (large c.args.scale (field_of c.args.x) (digits_of c.args.x) (subst (λ (n : ℕ). 1021 + c.args.scale.shift ≤ n) (given_field c.args.x c.in_ok-p.p c.in_ok-p.ensures.0) c.if-scale-p.true))

pub returns : goal.returns
returns c =
    let held : T (fits binary64 c.args.x) = search rules in
    (counted c.args.x held c.args.scale.micros (finite_field (goal.at.returns c).In_ok-p) c.in_ok-p.p c.in_ok-p.ensures.0 c.displacement.result c.displacement.ensures, c.displacement.ensures.small)
