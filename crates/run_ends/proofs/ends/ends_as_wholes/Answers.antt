-- `run_ends::ends::ends_as_wholes` meets its contract: proofs/Pass.antt, with the whole numbers that the offsets are.
use Rattle.std.specs.Prelude.{Result, Ok, Err, Some, None, is_ok}
use Rattle.std.specs.Result.{result_ok}
use Rattle.std.proofs.lemmas.Option.{none-some, same_Some}
use mathlib.Core.Path.{◌≡◌, refl, sym, ap, ◌∙◌}
use mathlib.Core.Bool.{true, false}
use lib.IntN.{ℤ}
use lib.Signed.{lt_z}
use mir.Syntax.{w64}
use mir.Val.{SFits}
use mir.ValLaws.{to_z-of_z}
use Rattle.refusal.specs.declared.Refusal.{Refusal}
use Rattle.run_ends.specs.Ends.{whole_number, lesser, greater}
use Rattle.run_ends.proofs.Pass.{goes_on, stops, ends}
use borrow.Author.Rules.{rules}
use Rattle.run_ends.proofs.ends.ends_as_wholes.Goals as goal

is_one : (w : Result ℤ Refusal) (n : ℤ) → result_ok w ≡ Some n → (is_ok w ≡ true) × (whole_number w ≡ n)
is_one (Ok m) n e = (refl, same_Some m n e)
is_one (Err r) n e = absurd (none-some n e)

is_none : (w : Result ℤ Refusal) → result_ok w ≡ None → is_ok w ≡ false
is_none (Ok m) e = absurd (none-some m (sym e))
is_none (Err r) e = refl

pub returns-in_err-ok : goal.returns-in_err-ok
returns-in_err-ok g c =
    let whole = g.E.Element.whole in
    let none = is_none _ (ap result_ok (sym c.whole.ensures) ∙ (sym c.ok.ensures.value ∙ c.in_err-ok.was)) in
    c.from_residual.ensures ∙ rw (stops _ _ _ _ c.args.source.now c.x-item.result c.loop-x.invariant c.loop-x-test.true (ap (λ x. is_ok (whole x)) (sym c.x-item.is) ∙ none))

pub loop-x-preserved : goal.loop-x-preserved
loop-x-preserved g c =
    let l = c.loop-x in
    let whole = g.E.Element.whole in
    let n = c.in_ok-ok.field-0 in
    let one = is_one _ n (ap result_ok (sym c.whole.ensures) ∙ (sym c.ok.ensures.value ∙ c.in_ok-ok.was)) in
    let fit : SFits w64 n = search rules in
    let crossed = to_z-of_z w64 n fit ∙ (sym one.1 ∙ ap (λ x. whole_number (whole x)) c.x-item.is) in
    goes_on _ _ _ _ c.args.source.now c.x-item.result l.invariant c.loop-x-test.true (ap (λ x. is_ok (whole x)) (sym c.x-item.is) ∙ one.0)
    (c.with-ends.ensures.least ∙ ap (λ (z : ℤ). lesser lt_z z l.ends.least) crossed)
    (c.with-ends.ensures.greatest ∙ ap (λ (z : ℤ). greater lt_z z l.ends.greatest) crossed)

pub returns : goal.returns
returns g c =
    let e = ends _ _ _ _ c.args.source.now c.loop-x.invariant c.loop-x-test.false in
    rw e.all (λ j. Some (record { least = e.least j; greatest = e.greatest j }))
