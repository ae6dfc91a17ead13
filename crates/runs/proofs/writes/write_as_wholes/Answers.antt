-- `runs::writes::write_as_wholes` meets its contract: proofs/Passes.antt.
use mathlib.Core.Path.{sym, ap, ◌∙◌}
use Rattle.axis_types.specs.Reading.{instant_of, is_read}
use Rattle.runs.specs.Passes.{Begins}
use Rattle.runs.proofs.Passes.{read_at, written_all}
use Rattle.runs.proofs.writes.write_as_wholes.Goals as goal

pub write_each-requires-clause-callable : goal.write_each-requires-clause-callable
write_each-requires-clause-callable g c =
    λ k d h. let r = read_at _ d c.args.source.now k c.requires.read h in (sym c.step_on.ensures ∙ c.in-Time.is, ap is_read (c.requires.wholes _ r) ∙ r)

pub write_each-requires-in-Date-clause-callable : goal.write_each-requires-in-Date-clause-callable
write_each-requires-in-Date-clause-callable g c =
    let begins : Begins c.args.on.axis c.in-Date.part c.start_on-start.result = record { good = c.args.on.good; step = sym c.step_on.ensures ∙ c.in-Date.is; start = c.start_on-start.ensures } in
    λ k d h. let r = read_at _ d c.args.source.now k c.requires.read h in (begins, ap is_read (c.requires.wholes _ r) ∙ r)

pub returns-in-Time : goal.returns-in-Time
returns-in-Time g c =
    written_all _ (g.E.Element.read c.args.on.axis) (λ x t r p. p ∙ ap instant_of (c.requires.wholes x r)) c.args.source.now c.args.destination.now _ c.requires.read c.write_each.ensures

pub returns-in-Date : goal.returns-in-Date
returns-in-Date g c =
    written_all _ (g.E.Element.read c.args.on.axis) (λ x t r p. p ∙ ap instant_of (c.requires.wholes x r)) c.args.source.now c.args.destination.now _ c.requires.read c.write_each-in-Date.ensures
