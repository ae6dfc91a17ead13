-- `runs::writes::write_nearest` meets its contract: proofs/Passes.antt.
use mathlib.Core.Path.{◌≡◌, refl, sym, ap, ◌∙◌}
use mathlib.Core.Bool.{Bool, true, false, not, cond}
use lib.Ieee.{nan}
use mir.Syntax.{w64}
use mir.Val.{SFits, bool_byte}
use Rattle.axis_types.specs.Reading.{instant_of}
use Rattle.runs.specs.Run.{mark_of}
use Rattle.runs.proofs.Passes.{writing_starts, writing_read, writing_on, writing_ends, counting_starts, counting_on}
use borrow.Author.Rules.{rules}
use Rattle.runs.proofs.writes.write_nearest.Goals as goal

-- 1 for an instant that is not exact
counted : (exact : Bool) → bool_byte (not exact) ≡ cond exact 0 1
counted true = refl
counted false = refl

pub loop-place-init : goal.loop-place-init
loop-place-init c = (c.scale_of-scale.ensures, (writing_starts c.requires.room c.requires.read, counting_starts))

pub nearest_instant-instant-requires-clause-read : goal.nearest_instant-instant-requires-clause-read
nearest_instant-instant-requires-clause-read c = writing_read nan c.loop-place.invariant.1.0 c.loop-place-test.true

pub loop-place-preserved : goal.loop-place-preserved
loop-place-preserved c =
    let e = c.nearest_instant-instant.ensures in
    let v = c.loop-place.invariant in
    let h = c.loop-place-test.true in
    let f : SFits w64 c.nearest_instant-instant.result.0 = search rules in
    (v.0, (writing_on nan v.1.0 h f (sym (ap instant_of e)), counting_on nan v.1.1 h (c.from-rounded.ensures ∙ (counted c.nearest_instant-instant.result.1 ∙ sym (ap mark_of e)))))

pub returns-clause-written : goal.returns-clause-written
returns-clause-written c = writing_ends c.loop-place.invariant.1.0 c.loop-place-test.false
