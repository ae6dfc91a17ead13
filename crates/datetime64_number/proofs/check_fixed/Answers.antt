-- `datetime64_number::check_fixed` meets its contract: proofs/Units.antt.
use Rattle.std.specs.Prelude.{Err}
use mathlib.Core.Path.{◌≡◌, sym, ap, ◌∙◌, subst}
use mathlib.Core.Bool.{Bool, cond}
use mir.Syntax.{w64}
use mir.ValLaws.{to_z-of_z}
use borrow.Author.Tests.{eq-eqb, ne_eqb}
use Rattle.signed.specs.Bias.{biased}
use Rattle.axis_types.specs.Reading.{refusal_of}
use Rattle.refusal.specs.declared.Refusal.TheVariants.{OutOfRange, Inexact}
use Rattle.ratio.specs.Multiples.{IsMultiple}
use Rattle.datetime64_number.specs.Numbers.{read_number}
use Rattle.datetime64_number.proofs.Ratios.{unread}
use Rattle.datetime64_number.proofs.Units.{not_a_time, multiple_read, other_read}
use Rattle.datetime64_number.proofs.check_fixed.Goals as goal
use Rattle.datetime64_number.proofs.check_fixed.Goals.{Else-n-eqminus9223372036854775808}

pub returns-then-has : goal.returns-then-has
returns-then-has c =
    let a = c.args in
    let e = ap biased (to_z-of_z w64 a.n c.ranges.n) in
    sym (ap refusal_of (multiple_read a.unit a.ratio c.requires a.n c.ranges.n (subst (IsMultiple a.ratio) e (c.has.ensures.found c.if-has.true))))

pub returns-then-n-eqminus9223372036854775808 : goal.returns-then-n-eqminus9223372036854775808
returns-then-n-eqminus9223372036854775808 c = sym (ap refusal_of (not_a_time c.args.unit c.args.n c.ranges.n c.if-n-eqminus9223372036854775808.true))

-- what is refused is told by the step
refused : (b : Else-n-eqminus9223372036854775808) → read_number b.args.unit b.args.n ≡ Err (unread b.args.ratio.from)
refused b =
    let a = b.args in
    let e = ap biased (to_z-of_z w64 a.n b.ranges.n) in
    other_read a.unit a.ratio b.requires a.n b.ranges.n b.if-n-eqminus9223372036854775808.false (λ m. b.has.ensures.missed b.if-has.false (subst (IsMultiple a.ratio) (sym e) m))

pub returns-then-ratio-eq1 : goal.returns-then-ratio-eq1
returns-then-ratio-eq1 c =
    let b = (goal.at.returns-then-ratio-eq1 c).Else-n-eqminus9223372036854775808 in
    sym (ap refusal_of (refused b ∙ ap (λ (t : Bool). Err (cond t OutOfRange Inexact)) (eq-eqb b.args.ratio.from 1 c.if-ratio-eq1.true)))

pub returns : goal.returns
returns c =
    let b = (goal.at.returns c).Else-n-eqminus9223372036854775808 in
    sym (ap refusal_of (refused b ∙ ap (λ (t : Bool). Err (cond t OutOfRange Inexact)) (ne_eqb b.args.ratio.from 1 c.if-ratio-eq1.false)))
