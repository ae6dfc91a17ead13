-- `calendar::day_of_date` meets its contract.
use Rattle.std.specs.Prelude.{Ok, Err}
use mathlib.Core.Path.{ap, ◌∙◌}
use mathlib.Core.Bool.{true}
use lib.IntN.{ℤ}
use mir.Syntax.{w64}
use mir.Val.{SFits}
use mir.ValLaws.{to_z-of_z}
use Rattle.signed.proofs.Tests.{and_parts}
use Rattle.calendar.specs.Calendar.{in_years, exists}
use Rattle.calendar.proofs.Answering.{day_refused, date_there}
use borrow.Author.Rules.{rules}
use Rattle.calendar.proofs.day_of_date.Goals as goal

pub returns-in-Some : goal.returns-in-Some
returns-in-Some c =
    let a = c.args in
    let z : ℤ = c.in-Some.n in
    let w = c.in-Some.ensures in
    let b = and_parts (in_years a.x.year) (exists a.c a.x) w.0 in
    let f : SFits w64 z = search rules in
    ap Ok (to_z-of_z w64 z f) ∙ date_there a.c a.x z b.0 b.1 w.1

pub returns-in-None : goal.returns-in-None
returns-in-None c =
    let a = c.args in
    let w = c.in-None.ensures in
    ap Err c.refusal_with.ensures ∙ day_refused true a.c a.x w
