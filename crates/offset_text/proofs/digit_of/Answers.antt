-- `offset_text::digit_of` meets its contract.
use Rattle.std.proofs.Common.{arith, sym, ◌∙◌}
use Rattle.offset_text.proofs.Digits.{value_digit, value_letter, value_below, value_between, value_above}
use Rattle.offset_text.proofs.digit_of.Goals as goal

pub returns-in-48-to-57 : goal.returns-in-48-to-57
returns-in-48-to-57 c = sym (c.from.ensures ∙ value_digit c.args.b (omega arith) (omega arith))

pub returns-in-97-to-102 : goal.returns-in-97-to-102
returns-in-97-to-102 c = sym (rw c.from-in-97-to-102.ensures (value_letter c.args.b (omega arith) (omega arith)))

pub returns-in_default : goal.returns-in_default
returns-in_default c = sym (value_below c.args.b (omega arith))

pub returns-in_default-2 : goal.returns-in_default-2
returns-in_default-2 c = sym (value_between c.args.b (omega arith) (omega arith))

pub returns-in_default-3 : goal.returns-in_default-3
returns-in_default-3 c = sym (value_above c.args.b (omega arith))
