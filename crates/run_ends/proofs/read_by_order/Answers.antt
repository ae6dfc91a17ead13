-- `run_ends::read_by_order` meets its contract: proofs/Between.antt.
use mathlib.Core.Path.{sym, ◌∙◌}
use Rattle.run_ends.proofs.Between.{doubles_by_ends}
use Rattle.run_ends.proofs.read_by_order.Goals as goal

pub returns-in-Some : goal.returns-in-Some
returns-in-Some c = λ h. doubles_by_ends c.args.axis c.args.source.now c.in-Some.ends c.requires (sym c.double_ends.ensures ∙ c.in-Some.is) (sym c.ends_read.ensures ∙ h)
