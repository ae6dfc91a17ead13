-- `iso_text::read_iso` meets its contract: each test settles one refusal, in their order.
use Rattle.std.specs.Prelude.{Option, Err}
use Rattle.std.proofs.lemmas.Grind.{common_steps}
use native.Mathlib.Omega.{arith}
use mathlib.Core.Path.{◌≡◌, sym, ap, ◌∙◌}
use Rattle.date_text.specs.DateRule.{date_rule}
use Rattle.date_text.proofs.Texts.{written_value, written_back}
use Rattle.date_text.specs.declared.WrittenDate.{WrittenDate}
use Rattle.written_instant.specs.Instants.{written_instant}
use Rattle.named_text.specs.Texts.{by_value}
use Rattle.named_text.proofs.Laws.{text_refused, text_read}
use Rattle.iso_text.specs.Iso.{read_iso}
use Rattle.iso_text.proofs.read_iso.Goals as goal
use Rattle.iso_text.proofs.read_iso.Goals.{After-read_date}

-- what the call says of the text, in its calendar
module _ (d : After-read_date) where
  read : (o : Option WrittenDate) → d.read_date.result ≡ o → by_value Err (written_instant d.in_ok-c.c) (written_value o) ≡ read_iso d.args.name.now d.args.x d.args.text.now
  unfolding read_iso
  read o e =
      text_read Err date_rule written_instant _ _ _ _ _ (sym d.in_ok-c.was ∙ d.text_calendar.ensures)
      (written_back _ d.read_date.result d.read_date.ensures ∙ ap written_value e)

pub returns-in_err-c : goal.returns-in_err-c
unfolding read_iso
returns-in_err-c c = let e = text_refused Err date_rule written_instant c.args.name.now c.args.x c.args.text.now _ (sym c.in_err-c.was ∙ c.text_calendar.ensures) in grind (arith, common_steps, e)

pub returns-in_default : goal.returns-in_default
returns-in_default c = read (goal.at.returns-in_default c).After-read_date _ c.in_default.is

pub returns : goal.returns
returns c = c.written_instant.ensures ∙ read (goal.at.returns c).After-read_date _ c.in-Some.is
