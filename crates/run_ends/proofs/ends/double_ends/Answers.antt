-- `run_ends::ends::double_ends` meets its contract: proofs/Pass.antt.
use Rattle.std.specs.Prelude.{Some}
use mathlib.Core.Path.{sym, ap, ◌∙◌}
use mathlib.Core.Bool.{not}
use lib.Ieee.{nan}
use Rattle.run_ends.proofs.Pass.{goes_on, stops, ends}
use Rattle.run_ends.proofs.ends.double_ends.Goals as goal

pub returns-then-is_nan : goal.returns-then-is_nan
returns-then-is_nan c = rw (stops _ _ _ _ c.args.source.now nan c.loop-x.invariant c.loop-x-test.true (ap not (sym c.is_nan.ensures.value ∙ c.if-is_nan.true)))

pub loop-x-preserved : goal.loop-x-preserved
loop-x-preserved c =
    goes_on _ _ _ _ c.args.source.now nan c.loop-x.invariant c.loop-x-test.true (ap not (sym c.is_nan.ensures.value ∙ c.if-is_nan.false)) c.with-ends.ensures.least c.with-ends.ensures.greatest

pub returns : goal.returns
returns c =
    let e = ends _ _ _ _ c.args.source.now c.loop-x.invariant c.loop-x-test.false in
    rw e.all (λ j. Some (record { least = e.least j; greatest = e.greatest j }))
