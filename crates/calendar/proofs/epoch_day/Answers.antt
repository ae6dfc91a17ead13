-- `calendar::epoch_day` meets its contract.
use mathlib.Core.Path.{ap, ◌∙◌}
use Rattle.calendar.specs.Closed.{year_start, row_epoch}
use Rattle.calendar.specs.declared.row.Parts.{Parts}
use Rattle.calendar.proofs.epoch_day.Goals as goal

pub returns : goal.returns
unfolding row_epoch
returns c = c.year_start.ensures ∙ ap (λ (k : Parts). year_start k.late 11970) c.parts_of-r.ensures
