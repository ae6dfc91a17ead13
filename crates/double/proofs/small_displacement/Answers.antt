-- `double::small_displacement` meets its contract. proofs/Values.antt goes from the pattern to the definition.
use Prim.Native.Nat.{◌+◌, ◌<◌}
use native.Mathlib.Decide.{dec_lt}
use native.Mathlib.Omega.{arith}
use borrow.Author.Rules.{rules}
use lib.Dec.{T}
use lib.Ieee.{binary64, fits}
use Rattle.double.proofs.Bits.{field_of, digits_of, given_field}
use Rattle.double.proofs.Scaling.{large}
use Rattle.double.proofs.Values.{small_number, small_field, small_is, counted}
use Rattle.double.proofs.small_displacement.Goals as goal

pub of-requires : goal.of-requires
of-requires c = small_number c.args.scale.micros c.args.x c.requires

-- the field is not too large
pub displacement-requires : goal.displacement-requires
displacement-requires c =
    let held : T (fits binary64 c.args.x) = search rules in
    let f = given_field c.args.x c.of.result c.of.ensures in
    let near : c.of.result.field < 1021 + c.args.scale.shift =
    elim (dec_lt c.of.result.field (1021 + c.args.scale.shift)) [
      | yes h ↦ h
      | no h ↦ absurd (omega (arith, large c.args.scale (field_of c.args.x) (digits_of c.args.x) (omega (arith, f)), small_is c.args.x held c.args.scale.micros (small_field c.args.x held c.args.scale.micros c.requires) c.requires))
    ]
    in
    near

pub returns : goal.returns
returns c =
    let held : T (fits binary64 c.args.x) = search rules in
    (counted c.args.x held c.args.scale.micros (small_field c.args.x held c.args.scale.micros c.requires) c.of.result c.of.ensures c.displacement.result c.displacement.ensures, c.displacement.ensures.small)
