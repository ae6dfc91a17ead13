-- `units_text::read_units` meets its contract: the units text ends where the text does.
use Rattle.std.proofs.Common.{sym, ap, ◌∙◌}
use Rattle.grammar.proofs.Steps.{read_no, read_part, read_all}
use Rattle.units_text.specs.Answers.{units_answer}
use Rattle.units_text.specs.UnitsRule.{units}
use Rattle.units_text.proofs.Steps.{units_mode, units_period, units_is}
use Rattle.units_text.proofs.read_units.Goals as goal

pub returns-in_err-mode : goal.returns-in_err-mode
returns-in_err-mode c = c.from_residual.ensures ∙ sym (ap units_answer (read_no units c.args.s.now (units_mode _ c.in_err-mode.ensures)))

pub returns-in_err-period : goal.returns-in_err-period
returns-in_err-period c = c.from_residual-in_err-period.ensures ∙ sym (ap units_answer (read_no units c.args.s.now (units_period _ _ _ c.in_ok-mode.ensures c.in_err-period.ensures)))

pub returns-in_err-reference : goal.returns-in_err-reference
returns-in_err-reference c =
    c.from_residual-in_err-reference.ensures
    ∙ sym (ap units_answer (read_no units c.args.s.now (units_is _ _ _ c.in_ok-mode.ensures _ _ _ c.in_ok-period.ensures c.in_err-reference.ensures)))

pub returns-then-e-s : goal.returns-then-e-s
returns-then-e-s c =
    sym (ap units_answer (read_part units c.args.s.now _ _ (units_is _ _ _ c.in_ok-mode.ensures _ _ _ c.in_ok-period.ensures c.in_ok-reference.ensures) c.if-e-s.true))

pub returns : goal.returns
returns c =
    sym (ap units_answer (read_all units c.args.s.now _ _ (units_is _ _ _ c.in_ok-mode.ensures _ _ _ c.in_ok-period.ensures c.in_ok-reference.ensures) c.if-e-s.false))
