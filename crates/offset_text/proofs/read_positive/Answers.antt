-- `offset_text::read_positive` meets its contract.
use Rattle.std.proofs.Common.{sym, ap, ◌∙◌, Some, ℤ}
use Rattle.axis_types.specs.declared.Offset.{Offset}
use Rattle.offset_text.specs.OffsetRule.{offset_answer}
use Rattle.offset_text.proofs.Rule.{whole_none, whole_large, whole_is}
use Rattle.offset_text.proofs.Signs.{plus_large, plus_small, plus_is}
use Rattle.offset_text.proofs.read_positive.Goals as goal

pub returns-in_err-n : goal.returns-in_err-n
returns-in_err-n c = c.from_residual.ensures ∙ sym (ap offset_answer (whole_none _ _ c.args.s.now c.in_err-n.ensures))

pub returns-in_err-whole : goal.returns-in_err-whole
returns-in_err-whole c =
    c.from_residual-in_err-whole.ensures
    ∙ sym (ap offset_answer (whole_large _ _ c.args.s.now _ c.in_ok-n.ensures (plus_large _ c.in_err-whole.ensures)))

pub returns : goal.returns
returns c =
    let n = c.in_ok-n.n in
    let h = c.in_ok-whole.ensures in
    ap (λ (z : ℤ). Some (Offset.Whole z)) (plus_is n c.in_ok-whole.whole h.0 h.1)
    ∙ sym (ap offset_answer (whole_is _ _ c.args.s.now n c.in_ok-n.ensures (plus_small n h.0)))
