-- `axis::check_axis` meets its contract.
use mathlib.Core.Path.{◌≡◌, sym, ap, ◌∙◌}
use mir.Syntax.{w64}
use mir.Val.{SFits}
use mir.ValLaws.{to_z-of_z}
use Rattle.instant.specs.Instant.{in_range}
use Rattle.axis.proofs.Laws.{good_in, past_out}
use borrow.Author.Rules.{rules}
use Rattle.axis.proofs.check_axis.Goals as goal
use Rattle.axis.proofs.check_axis.Goals.{After-in_range}

tested : (r : After-in_range) → let a = r.args.axis in r.in_range.result ≡ in_range a.calendar a.reference
tested r =
    let a = r.args.axis in
    let f : SFits w64 a.reference = search rules in
    r.in_range.ensures ∙ ap (in_range a.calendar) (to_z-of_z w64 a.reference f)

pub returns-then-in_range : goal.returns-then-in_range
returns-then-in_range c = good_in c.args.axis (sym (tested (goal.at.returns-then-in_range c).After-in_range) ∙ c.if-in_range.true)

pub returns : goal.returns
returns c = past_out c.args.axis (sym (tested (goal.at.returns c).After-in_range) ∙ c.if-in_range.false)
