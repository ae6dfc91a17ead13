-- `double::whole::whole_of` meets its contract. proofs/WholeSize.antt goes from the fields to the definition.
use Rattle.std.specs.Prelude.{Ok, Err}
use mathlib.Core.Path.{ap, ◌∙◌, subst}
use Prim.Native.Nat.{◌<◌}
use native.Mathlib.Omega.{arith}
use Rattle.std.proofs.lemmas.Grind.{common_steps}
use lib.Dec.{T}
use lib.Ieee.{binary64, fits}
use borrow.Author.Rules.{rules}
use Rattle.double.specs.declared.Pattern.{Pattern}
use Rattle.signed.specs.Sign.{with_sign}
use Rattle.double.specs.Whole.{in64}
use Rattle.double.specs.Fields.{WholeSize}
use Rattle.double.proofs.Bits.{field_of}
use Rattle.double.proofs.WholeSize.{when_whole, when_refused, when_infinite}
use Rattle.double.proofs.whole.whole_of.Goals as goal
use Rattle.double.proofs.whole.whole_of.Goals.{In_ok-p}

finite_field : (c : In_ok-p) → field_of c.args.x < 2047
finite_field c = subst (λ (k : Pattern). k.field < 2047) c.in_ok-p.ensures.0 c.in_ok-p.ensures.1

pub returns-in_err-p : goal.returns-in_err-p
returns-in_err-p c =
    let e = c.in_err-p.ensures.0 in
    let f = when_infinite c.args.x c.in_err-p.ensures.1 in
    grind (arith, common_steps, e, f)

pub returns-in_err-size_of : goal.returns-in_err-size_of
returns-in_err-size_of c =
    let held : T (fits binary64 c.args.x) = search rules in
    let o = (goal.at.returns-in_err-size_of c).In_ok-p in
    let e = when_refused c.args.x held (finite_field o) _ (subst (λ (k : Pattern). WholeSize (Err c.in_err-size_of.field-0.0) k.field k.digits) o.in_ok-p.ensures.0 c.in_err-size_of.ensures) in
    grind (arith, common_steps, e)

pub returns : goal.returns
returns c =
    let held : T (fits binary64 c.args.x) = search rules in
    let o = (goal.at.returns c).In_ok-p in
    let n = c.in_ok-size_of.field-0 in
    c.with_sign.ensures ∙ (ap (λ (t : Pattern). in64 (with_sign t.negative n)) o.in_ok-p.ensures.0 ∙ when_whole c.args.x held (finite_field o) n (subst (λ (k : Pattern). WholeSize (Ok n) k.field k.digits) o.in_ok-p.ensures.0 c.in_ok-size_of.ensures))
