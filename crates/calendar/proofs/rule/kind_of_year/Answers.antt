-- `calendar::rule::kind_of_year` meets its contract.
use mathlib.Core.Path.{sym, ap, ◌∙◌}
use Rattle.calendar.specs.Closed.{kind_at}
use Rattle.calendar.specs.declared.rule.Rule.{Rule}
use Rattle.calendar.proofs.Years.{kind_400, kind_100, kind_4, kind_other, kind_julian_4, kind_julian_other}
use Rattle.calendar.proofs.rule.kind_of_year.Goals as goal

pub returns-then-y-eq0 : goal.returns-then-y-eq0
returns-then-y-eq0 c = let y = c.args.y in sym (ap (λ (x : Rule). kind_at x y) c.in-Gregorian.is ∙ kind_400 y c.if-y-eq0.true)

pub returns-then-y-eq0-2 : goal.returns-then-y-eq0-2
returns-then-y-eq0-2 c = let y = c.args.y in sym (ap (λ (x : Rule). kind_at x y) c.in-Gregorian.is ∙ kind_100 y c.if-y-eq0.false c.if-y-eq0-2.true)

pub returns-then-y-eq0-3 : goal.returns-then-y-eq0-3
returns-then-y-eq0-3 c = let y = c.args.y in sym (ap (λ (x : Rule). kind_at x y) c.in-Gregorian.is ∙ kind_4 y c.if-y-eq0-2.false c.if-y-eq0-3.true)

pub returns-in-Gregorian : goal.returns-in-Gregorian
returns-in-Gregorian c = let y = c.args.y in sym (ap (λ (x : Rule). kind_at x y) c.in-Gregorian.is ∙ kind_other y c.if-y-eq0.false c.if-y-eq0-3.false)

pub returns-then-y-eq0-4 : goal.returns-then-y-eq0-4
returns-then-y-eq0-4 c = let y = c.args.y in sym (ap (λ (x : Rule). kind_at x y) c.in-Julian.is ∙ kind_julian_4 y c.if-y-eq0-4.true)

pub returns-in-Julian : goal.returns-in-Julian
returns-in-Julian c = let y = c.args.y in sym (ap (λ (x : Rule). kind_at x y) c.in-Julian.is ∙ kind_julian_other y c.if-y-eq0-4.false)

pub returns-in-Common : goal.returns-in-Common
unfolding kind_at
returns-in-Common c = ap (λ (x : Rule). kind_at x c.args.y) (sym c.in-Common.is)

pub returns-in-Leap : goal.returns-in-Leap
unfolding kind_at
returns-in-Leap c = ap (λ (x : Rule). kind_at x c.args.y) (sym c.in-Leap.is)

pub returns-in-Thirty : goal.returns-in-Thirty
unfolding kind_at
returns-in-Thirty c = ap (λ (x : Rule). kind_at x c.args.y) (sym c.in-Thirty.is)
