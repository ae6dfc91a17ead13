-- `date_text::zone_name` meets its contract: each `return` is a step of the reader.
use mathlib.Core.Path.{refl, sym, ◌∙◌}
use lib.ListN.{drop}
use Rattle.grammar.specs.Grammar.{inside, within, every}
use Rattle.date_text.proofs.Steps.{name_z_lem, name_u, name_g}
use Rattle.date_text.proofs.zone_name.Goals as goal

pub utc_name-requires : goal.utc_name-requires
unfolding every within inside
utc_name-requires c = refl

pub returns-then-letter_at : goal.returns-then-letter_at
returns-then-letter_at c =
    let t = c in
    let a = t.args in
    name_z_lem (drop a.at a.s.now) (sym t.letter_at.ensures ∙ t.if-letter_at.true) ∙ c.utc_name.ensures

pub utc_name-requires-then-letter_at-2 : goal.utc_name-requires-then-letter_at-2
unfolding every within inside
utc_name-requires-then-letter_at-2 c = refl

pub returns-then-letter_at-2 : goal.returns-then-letter_at-2
returns-then-letter_at-2 c =
    let t = c in
    let e = c in
    let a = e.args in
    name_u (drop a.at a.s.now) (sym e.letter_at.ensures ∙ e.if-letter_at.false) (sym t.letter_at-2.ensures ∙ t.if-letter_at-2.true) ∙ c.utc_name-then-letter_at-2.ensures

pub utc_name-requires-2 : goal.utc_name-requires-2
unfolding every within inside
utc_name-requires-2 c = refl

pub returns : goal.returns
returns c =
    let t = c in
    let e = c in
    let a = e.args in
    name_g (drop a.at a.s.now) (sym e.letter_at.ensures ∙ e.if-letter_at.false) (sym t.letter_at-2.ensures ∙ t.if-letter_at-2.false) ∙ c.utc_name-2.ensures
