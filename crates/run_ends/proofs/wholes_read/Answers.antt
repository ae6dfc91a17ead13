-- `run_ends::wholes_read` meets its contract: proofs/Between.antt.
use mathlib.Core.Path.{sym, ◌∙◌}
use Rattle.run_ends.proofs.Between.{wholes_by_ends}
use Rattle.run_ends.proofs.wholes_read.Goals as goal

pub returns : goal.returns
returns c = λ h. wholes_by_ends c.args.axis c.args.source.now c.whole_ends.result (sym c.whole_ends.ensures) (sym c.ends_read.ensures ∙ h)
