-- `axis_text::read_units` meets its contract: each test settles one refusal, in their order.
use Rattle.std.specs.Prelude.{Option, Err}
use Rattle.std.proofs.lemmas.Grind.{common_steps}
use native.Mathlib.Omega.{arith}
use mathlib.Core.Path.{◌≡◌, sym, ap, ◌∙◌}
use Rattle.units_text.specs.UnitsRule.{units}
use Rattle.units_text.specs.declared.Units.{Units}
use Rattle.units_text.proofs.Texts.{units_value, units_back}
use Rattle.named_text.specs.Texts.{by_value}
use Rattle.named_text.proofs.Laws.{text_refused, text_read}
use Rattle.axis_text.specs.Units.{axis_of, read_units}
use Rattle.axis_text.proofs.read_units.Goals as goal
use Rattle.axis_text.proofs.read_units.Goals.{After-read_units}

-- what the call says of the text, in its calendar
module _ (d : After-read_units) where
  read : (o : Option Units) → d.read_units.result ≡ o → by_value Err (axis_of d.in_ok-calendar.calendar) (units_value o) ≡ read_units d.args.name.now d.args.x d.args.text.now
  unfolding read_units
  read o e =
      text_read Err units axis_of _ _ _ _ _ (sym d.in_ok-calendar.was ∙ d.text_calendar.ensures)
      (units_back _ d.read_units.result d.read_units.ensures ∙ ap units_value e)

pub returns-in_err-calendar : goal.returns-in_err-calendar
unfolding read_units
returns-in_err-calendar c = let e = text_refused Err units axis_of c.args.name.now c.args.x c.args.text.now _ (sym c.in_err-calendar.was ∙ c.text_calendar.ensures) in grind (arith, common_steps, e)

pub returns-in_default : goal.returns-in_default
returns-in_default c = read (goal.at.returns-in_default c).After-read_units _ c.in_default.is

pub returns : goal.returns
returns c = c.axis_of.ensures ∙ read (goal.at.returns c).After-read_units _ c.in-Some.is
