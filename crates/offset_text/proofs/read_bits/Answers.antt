-- `offset_text::read_bits` meets its contract: 16 ^ 16 is 2 ^ 64.
use Rattle.std.proofs.Common.{sym, ap, ◌∙◌, Some}
use Rattle.std.specs.Float.Ieee.{Float}
use Rattle.axis_types.specs.declared.Offset.{Offset}
use Rattle.offset_text.specs.OffsetRule.{offset_answer}
use Rattle.offset_text.proofs.Rule.{bits_other, bits_read}
use Rattle.offset_text.proofs.read_bits.Goals as goal

pub returns-then-s-ne16 : goal.returns-then-s-ne16
returns-then-s-ne16 c = sym (ap offset_answer (bits_other _ c.args.s.now c.if-s-ne16.true))

pub returns-in_err-n : goal.returns-in_err-n
returns-in_err-n c = c.from_residual.ensures ∙ sym (ap offset_answer (bits_read _ c.args.s.now c.if-s-ne16.false c.in_err-n.ensures))

pub returns : goal.returns
returns c =
    ap (λ (x : Float). Some (Offset.Double x)) c.double_of.ensures
    ∙ sym (ap offset_answer (bits_read _ c.args.s.now c.if-s-ne16.false c.in_ok-n.ensures))
