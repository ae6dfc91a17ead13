-- `fixed_axis::write_instant` meets its contract. proofs/Writing.antt has the quotient.
use Rattle.std.specs.Prelude.{Ok, Err, ℤ}
use mathlib.Core.Path.{◌≡◌, sym, ap, ◌∙◌}
use mathlib.Core.Bool.{Bool, cond}
use Prim.Native.Nat.{ℕ, ◌/◌, ◌%◌}
use lib.Dec.{eqb}
use lib.IntN.{◌-ℤ◌}
use lib.Signed.{lt_z}
use mir.Syntax.{w64}
use mir.Val.{to_z, of_z}
use mir.ValLaws.{to_z-of_z}
use borrow.Author.Tests.{eq-eqb, ne_eqb}
use Rattle.refusal.specs.declared.Refusal.TheVariants.{Inexact}
use Rattle.signed.specs.Sign.{with_sign}
use Rattle.fixed_axis.specs.Fixed.{in_periods, write_instant}
use Rattle.fixed_axis.proofs.Writing.{periods}
use Rattle.fixed_axis.proofs.write_instant.Goals as goal
use Rattle.fixed_axis.proofs.write_instant.Goals.{After-abs_diff-size}

module _ (c : After-abs_diff-size) where
  abbrev P : ℕ
  P = c.microseconds-micros.result

  abbrev size : ℕ
  size = c.abs_diff-size.result

  abbrev t : ℤ
  t = to_z w64 (of_z w64 c.args.t)

  abbrev R : ℤ
  R = to_z w64 (of_z w64 c.args.reference)

  -- the answer, once the remainder is tested
  settled : {b : Bool} → eqb (size % P) 0 ≡ b → cond b (Ok (with_sign (lt_z t R) (size / P))) (Err Inexact) ≡ write_instant c.args.p c.args.reference c.args.t
  settled e =
      ap (λ (b : Bool). cond b (Ok (with_sign (lt_z t R) (size / P))) (Err Inexact)) (sym e)
      ∙ (ap (λ (n : ℕ). cond (eqb (n % P) 0) (Ok (with_sign (lt_z t R) (n / P))) (Err Inexact)) c.abs_diff-size.ensures
      ∙ (sym (periods P t R)
      ∙ (λ i. in_periods (to_z-of_z w64 c.args.t c.ranges.t i -ℤ to_z-of_z w64 c.args.reference c.ranges.reference i) (c.microseconds-micros.ensures i))))

pub returns-then-size-micros-eq0 : goal.returns-then-size-micros-eq0
returns-then-size-micros-eq0 c =
    let d = (goal.at.returns-then-size-micros-eq0 c).After-abs_diff-size in
    ap Ok (to_z-of_z w64 c.signed_size.result (record { sfits = c.signed_size.type_inv }) ∙ c.signed_size.ensures)
    ∙ settled d (eq-eqb (size d % P d) 0 c.if-size-micros-eq0.true)

pub returns-else-size-micros-eq0 : goal.returns-else-size-micros-eq0
returns-else-size-micros-eq0 c = let d = (goal.at.returns-else-size-micros-eq0 c).After-abs_diff-size in settled d (ne_eqb (size d % P d) 0 c.if-size-micros-eq0.false)
