-- `datetime64_type::identifier::type_of` meets its contract: each test settles one part of the text.
use mathlib.Core.Path.{sym, ap, ◌∙◌}
use Rattle.datetime64_type.specs.Identifier.{type_answer}
use Rattle.datetime64_type.proofs.Parts.{text_short, order_unknown, unit_unknown, no_bracket, parts_read}
use Rattle.datetime64_type.proofs.identifier.type_of.Goals as goal

pub returns-then-n-lt6 : goal.returns-then-n-lt6
returns-then-n-lt6 c = sym (ap type_answer (text_short c.args.text.now c.if-n-lt6.true))

pub returns-in_err-order : goal.returns-in_err-order
returns-in_err-order c = c.from_residual.ensures ∙ sym (ap type_answer (order_unknown c.args.text.now c.in_err-order.ensures))

pub returns-in_err-unit : goal.returns-in_err-unit
returns-in_err-unit c = c.from_residual-in_err-unit.ensures ∙ sym (ap type_answer (unit_unknown c.args.text.now c.in_err-unit.ensures))

pub returns-then-text-end-ne93 : goal.returns-then-text-end-ne93
returns-then-text-end-ne93 c =
    sym (ap type_answer (no_bracket c.args.text.now c.if-text-end-ne93.true))

pub returns : goal.returns
returns c = sym (ap type_answer (parts_read c.args.text.now _ c.if-n-lt6.false c.in_ok-order.ensures c.in_ok-unit.ensures c.if-text-end-ne93.false))
