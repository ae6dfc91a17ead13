-- `date_text::read_date` meets its contract: the date ends where the text does.
use Rattle.std.proofs.Common.{sym, ap, ◌∙◌}
use Rattle.grammar.proofs.Steps.{read_no, read_part, read_all}
use Rattle.date_text.specs.Answers.{written_answer}
use Rattle.date_text.specs.DateRule.{date_rule}
use Rattle.date_text.proofs.read_date.Goals as goal

pub returns-in_err-w : goal.returns-in_err-w
returns-in_err-w c = c.from_residual.ensures ∙ sym (ap written_answer (read_no date_rule c.args.s.now c.in_err-w.ensures))

pub returns-then-e-s : goal.returns-then-e-s
returns-then-e-s c = sym (ap written_answer (read_part date_rule c.args.s.now _ _ c.in_ok-w.ensures c.if-e-s.true))

pub returns : goal.returns
returns c = sym (ap written_answer (read_all date_rule c.args.s.now _ _ c.in_ok-w.ensures c.if-e-s.false))
