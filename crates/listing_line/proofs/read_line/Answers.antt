-- `listing_line::read_line` meets its contract: each test settles one refusal, in their order.
use mathlib.Core.Path.{◌≡◌, sym, ap, subst, ◌∙◌}
use Prim.Native.Nat.{◌+◌}
use lib.ListN.{length}
use Rattle.grammar.specs.Reader.{read}
use Rattle.offset_text.specs.OffsetRule.{offset}
use Rattle.axis_types.specs.declared.Offset.{Offset}
use Rattle.std.specs.Prelude.{Option}
use Rattle.offset_text.proofs.Texts.{offset_value, offset_back_lem}
use Rattle.listing_line.specs.Line.{with_offset, line_answer}
use Rattle.listing_line.specs.Closed.{part, BarsOf, Places}
use Rattle.listing_line.proofs.Answers.{long_line, short_line, parted_line}
use Rattle.listing_line.proofs.read_line.Goals as goal
use Rattle.listing_line.proofs.read_line.Goals.{After-read_offset}

pub returns-then-line-gt255 : goal.returns-then-line-gt255
returns-then-line-gt255 c = long_line c.args.line.now c.if-line-gt255.true

pub returns-in_default : goal.returns-in_default
returns-in_default c =
    let s = c.args.line.now in
    sym (subst (BarsOf s) c.in_default.is c.bars_of.ensures) ∙ short_line s c.if-line-gt255.false

-- the answer, by what the text of the offset is
settled : (d : After-read_offset) (o : Option Offset) → d.read_offset.result ≡ o
    → let s = d.args.line.now in let a = d.in-Some.a in let b = d.in-Some.b in
    with_offset (part 0 a s) (part (a + 1) b s) (offset_value o) ≡ line_answer s
settled d o e =
    let s = d.args.line.now in
    let a = d.in-Some.a in
    let b = d.in-Some.b in
    let p : Places s a b = subst (BarsOf s) d.in-Some.is d.bars_of.ensures in
    ap (with_offset (part 0 a s) (part (a + 1) b s)) (sym (offset_back_lem (read offset (part (b + 1) (length s) s)) d.read_offset.result d.read_offset.ensures ∙ ap offset_value e))
    ∙ parted_line s a b d.if-line-gt255.false p

pub returns-in_default-read_offset : goal.returns-in_default-read_offset
returns-in_default-read_offset c = settled (goal.at.returns-in_default-read_offset c).After-read_offset _ c.in_default-read_offset.is

pub returns : goal.returns
returns c = c.read_parts.ensures ∙ settled (goal.at.returns c).After-read_offset _ c.in-Some-read_offset.is
