-- `runs::checks::first_refused` meets its contract: proofs/Passes.antt.
use mathlib.Core.Path.{sym, ap, ◌∙◌}
use Rattle.axis_types.specs.Reading.{refusal_of}
use Rattle.runs.proofs.Passes.{checking_on, checking_stops, checking_ends, told_alone}
use Rattle.runs.proofs.checks.first_refused.Goals as goal

pub returns-in-Err : goal.returns-in-Err
returns-in-Err g c =
    let item = c.index-source-place in
    let told = ap (λ x. refusal_of (g.E.Element.read c.args.axis x)) (sym item.is) ∙ told_alone _ _ c.read_on.ensures.1 c.in-Err.is in
    checking_stops item.result c.loop-place.invariant c.loop-place-test.true told

pub loop-place-preserved : goal.loop-place-preserved
loop-place-preserved g c =
    let item = c.index-source-place in
    let told = ap (λ x. refusal_of (g.E.Element.read c.args.axis x)) (sym item.is) ∙ told_alone _ _ c.read_on.ensures.1 c.in_default.is in
    checking_on item.result c.loop-place.invariant c.loop-place-test.true told

pub returns : goal.returns
returns g c = checking_ends c.loop-place.invariant c.loop-place-test.false
