-- `double::Pattern::displacement` meets its contract. proofs/Scaling.antt has the bound.
use mathlib.Core.Path.{sym, ap, ◌∙◌, subst}
use Prim.Native.Nat.{◌≤◌, ◌^◌}
use native.Mathlib.Nat.{lt_of_le_of_lt, le_trans, le_of_eq}
use lib.Dec.{lit≤}
use lib.IntN.{ℤ}
use lib.Signed.{mag}
use mir.Syntax.{w64}
use mir.ValLaws.{to_z-of_z}
use Rattle.signed.specs.Sign.{with_sign}
use Rattle.double.proofs.Scaling.{bounded}
use Rattle.double.proofs.Values.{signed_le}
use Rattle.double.proofs.Pattern.displacement.Goals as goal
use Rattle.double.proofs.Pattern.displacement.Goals.{After-scaled_size-r}

count_le : (c : After-scaled_size-r) → c.scaled_size-r.result.count ≤ 2 ^ 62
count_le c =
    le_trans (le_of_eq c.scaled_size-r.ensures.nearest) (bounded c.args.scale c.args.self.field c.args.self.digits c.args.self.short c.requires)

pub signed_size-requires : goal.signed_size-requires
signed_size-requires c = lt_of_le_of_lt (count_le c) (lit≤ tt)

pub returns : goal.returns
returns c =
    let r = (goal.at.returns c).After-scaled_size-r in
    let p = r.args.self in
    let e = to_z-of_z w64 c.signed_size.result (record { sfits = c.signed_size.type_inv }) ∙ c.signed_size.ensures in
    record {
      count = e ∙ ap (with_sign p.negative) r.scaled_size-r.ensures.nearest;
      exact = r.scaled_size-r.ensures.exactly;
      small = subst (λ (z : ℤ). mag z ≤ 2 ^ 62) (sym e) (le_trans (signed_le p.negative r.scaled_size-r.result.count) (count_le r));
    }
