-- `double::Pattern::of_finite` meets its contract.
use mathlib.Core.Path.{refl, sym, ◌∙◌}
use lib.Dec.{T}
use lib.Ieee.{binary64, fits}
use borrow.Author.Rules.{rules}
use Rattle.double.proofs.Bits.{given_field, nan_is_none}
use Rattle.double.proofs.Values.{infinite}
use Rattle.double.proofs.Pattern.of_finite.Goals as goal

pub returns-then-is_nan : goal.returns-then-is_nan
returns-then-is_nan c = (refl, nan_is_none c.args.x (sym c.if-is_nan.true ∙ c.is_nan.ensures.value))

pub returns-then-p-eq2047 : goal.returns-then-p-eq2047
returns-then-p-eq2047 c =
    let held : T (fits binary64 c.args.x) = search rules in
    (refl, infinite c.args.x held (sym (given_field c.args.x c.of-p.result c.of-p.ensures) ∙ c.if-p-eq2047.true))
