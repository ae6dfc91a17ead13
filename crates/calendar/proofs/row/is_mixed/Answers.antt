-- `calendar::row::is_mixed` meets its contract.
use mathlib.Core.Path.{sym, ap, ◌∙◌}
use Rattle.calendar.specs.Calendar.{days_used}
use Rattle.calendar.specs.Closed.{counts, mixed}
use Rattle.calendar.specs.declared.Calendar.{Calendar}
use Rattle.calendar.proofs.Cutovers.{standard_mixed}
use Rattle.calendar.proofs.row.is_mixed.Goals as goal

pub returns-in-Standard : goal.returns-in-Standard
returns-in-Standard c = sym (ap (λ (x : Calendar). mixed (counts x)) c.in-Standard.is ∙ standard_mixed (days_used c.in-Standard.field-0))
