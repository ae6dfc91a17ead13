-- `calendar::found_day` meets its contract.
use Rattle.std.specs.Prelude.{None}
use Rattle.std.proofs.lemmas.Grind.{common_steps}
use native.Mathlib.Omega.{arith}
use mathlib.Core.Path.{◌≡◌, sym, ap, ◌∙◌, subst}
use mathlib.Core.Bool.{Bool}
use mir.Syntax.{w64}
use mir.Val.{SFits}
use Rattle.signed.specs.Bias.{unbiased}
use Rattle.signed.proofs.Tests.{right_out}
use Rattle.signed.proofs.Machine.{crossed}
use Rattle.calendar.specs.Calendar.{in_years, exists}
use Rattle.calendar.specs.Closed.{Found}
use Rattle.calendar.proofs.Existing.{not_there}
use Rattle.calendar.proofs.Counted.{no_count}
use borrow.Author.Rules.{rules}
use Rattle.calendar.proofs.found_day.Goals as goal
use Rattle.calendar.proofs.found_day.Goals.{After-in_years}

-- the year, from its number biased by 2^63, and whether it lies in the years
year_is : (y : After-in_years) → unbiased y.biased-k.result ≡ y.args.x.year
year_is y =
    let r = y.args.x.year in
    let f : SFits w64 r = search rules in
    crossed r y.biased-k.result f y.biased-k.ensures

in_years_is : (y : After-in_years) {t : Bool} → y.in_years.result ≡ t → in_years y.args.x.year ≡ t
in_years_is y h = ap in_years (sym (year_is y)) ∙ (sym y.in_years.ensures ∙ h)

pub returns-in_err-y : goal.returns-in_err-y
returns-in_err-y c =
    let a = c.args in
    let y = (goal.at.returns-in_err-y c).After-in_years in
    let none : c.from_residual.result ≡ None = grind (arith, common_steps) in
    subst (Found a.c a.x) (sym none) (right_out (in_years a.x.year) (exists a.c a.x)
    (not_there a.c a.x
    (no_count a.c a.x c.biased-k.result (year_is y) (in_years_is y c.if-not-in_years.false) c.has_year_zero.result c.has_year_zero.ensures c.year_count.result c.year_count.ensures c.in_err-y.was)))
