-- `calendar::rule::year_start` meets its contract.
use mathlib.Core.Path.{sym, ap, ◌∙◌}
use Rattle.calendar.specs.Closed.{year_start}
use Rattle.calendar.specs.declared.rule.Rule.{Rule}
use Rattle.calendar.proofs.Years.{centuries}
use Rattle.calendar.proofs.rule.year_start.Goals as goal

pub returns-in-Gregorian : goal.returns-in-Gregorian
unfolding year_start
returns-in-Gregorian c = let y = c.args.y in centuries y ∙ ap (λ (x : Rule). year_start x y) (sym c.in-Gregorian.is)

pub returns-in-Julian : goal.returns-in-Julian
unfolding year_start
returns-in-Julian c = ap (λ (x : Rule). year_start x c.args.y) (sym c.in-Julian.is)

pub returns-in-Common : goal.returns-in-Common
unfolding year_start
returns-in-Common c = ap (λ (x : Rule). year_start x c.args.y) (sym c.in-Common.is)

pub returns-in-Leap : goal.returns-in-Leap
unfolding year_start
returns-in-Leap c = ap (λ (x : Rule). year_start x c.args.y) (sym c.in-Leap.is)

pub returns-in-Thirty : goal.returns-in-Thirty
unfolding year_start
returns-in-Thirty c = ap (λ (x : Rule). year_start x c.args.y) (sym c.in-Thirty.is)
