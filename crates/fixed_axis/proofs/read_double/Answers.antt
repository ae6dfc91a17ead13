-- `fixed_axis::read_double` meets its contract. proofs/Doubles.antt goes from the displacement to the definition.
use mathlib.Core.Path.{◌≡◌, ap, ◌∙◌, subst}
use Rattle.std.specs.Prelude.{Result, Ok, Err}
use Prim.Native.Nat.{ℕ, ◌<◌, ◌^◌}
use native.Mathlib.Omega.{arith}
use Rattle.std.proofs.lemmas.Grind.{common_steps}
use lib.IntN.{ℤ}
use lib.Signed.{mag}
use mir.Syntax.{w64}
use mir.Val.{SFits}
use borrow.Author.Rules.{rules}
use Rattle.axis_types.specs.Lengths.{length_of}
use Rattle.instant.proofs.Range.{small}
use Rattle.double.specs.declared.Displacement.{Displacement}
use Rattle.double.specs.Displacement.{DisplacementAnswerOf}
use Rattle.refusal.specs.declared.Refusal.{Refusal}
use Rattle.fixed_axis.specs.Fixed.{reading_at}
use Rattle.fixed_axis.proofs.Displacements.{sum_fits, sum_is}
use Rattle.fixed_axis.proofs.Doubles.{displaced, refused}
use Rattle.fixed_axis.proofs.read_double.Goals as goal
use Rattle.fixed_axis.proofs.read_double.Goals.{After-displacement_of}

-- what `displacement_of` says
module _ (c : After-displacement_of) where
  said : (r : Result Displacement Refusal) → c.displacement_of.result ≡ r → DisplacementAnswerOf r (length_of c.args.p) c.args.x
  said r e = subst (λ (P : ℕ). DisplacementAnswerOf r P c.args.x) c.scale_of.ensures (subst (λ (k : Result Displacement Refusal). DisplacementAnswerOf k c.scale_of.result.micros c.args.x) e c.displacement_of.ensures)

  near : mag c.args.reference < 2 ^ 59
  near = omega (arith, small c.args.c c.args.reference c.requires)

pub returns-in_err-d : goal.returns-in_err-d
returns-in_err-d c =
    let e = refused c.args.c c.args.p c.args.reference c.requires c.args.x _ (said (goal.at.returns-in_err-d c).After-displacement_of (Err c.in_err-d.field-0.0) c.in_err-d.was) in
    grind (arith, common_steps, e)

pub overflow_add-reference : goal.overflow_add-reference
overflow_add-reference c =
    let q = (goal.at.overflow_add-reference c).After-displacement_of in
    let d = c.in_ok-d.d in
    let fits : SFits w64 d.count = search rules in
    sum_fits c.args.reference d.count c.ranges.reference fits (near q) (said q (Ok d) c.in_ok-d.was).1

pub returns : goal.returns
returns c =
    let q = (goal.at.returns c).After-displacement_of in
    let s = c.args in
    let d = c.in_ok-d.d in
    let fits : SFits w64 d.count = search rules in
    let told = said q (Ok d) c.in_ok-d.was in
    c.reading_at.ensures
    ∙ (ap (λ (z : ℤ). reading_at s.c z d.exact) (sum_is s.reference d.count c.ranges.reference fits (near q) told.1)
    ∙ displaced s.c s.p s.reference d s.x told.0)
