-- `run_ends::read_as_wholes` meets its contract: proofs/Between.antt.
use mathlib.Core.Path.{sym, ◌∙◌}
use Rattle.run_ends.proofs.Between.{whole_doubles_by_ends}
use Rattle.run_ends.proofs.read_as_wholes.Goals as goal

pub returns-in-Some : goal.returns-in-Some
returns-in-Some c = λ h. whole_doubles_by_ends c.args.axis c.requires c.args.source.now c.in-Some.wholes (sym c.ends_as_wholes.ensures ∙ c.in-Some.is) (sym c.ends_read.ensures ∙ h)
