-- `units_text::period_at` meets its contract: the run of letters is what the reader takes.
use native.Mathlib.Omega.{arith}
use mathlib.Core.Path.{sym, ap, ◌∙◌, ◌≡◌}
use lib.ListN.{drop}
use Rattle.std.specs.Prelude.{Option as Answer}
use Rattle.grammar.specs.Grammar.{starts}
use Rattle.grammar.specs.Reader.{back, valued, scan, found}
use Rattle.grammar.specs.Rules.{bytes, span, any_of}
use Rattle.word_table.specs.Table.{lookup}
use Rattle.grammar.proofs.Classes.{front_every}
use Rattle.grammar.proofs.Places.{run_end, run_part, run_left}
use Rattle.grammar.proofs.Steps.{run_empty, run_no, run_is}
use Rattle.units_text.specs.Answers.{meaning_of}
use Rattle.units_text.specs.UnitsRule.{period_words, period_word}
use Rattle.axis_types.specs.declared.Period.{Period}
use Rattle.units_text.proofs.period_at.Goals as goal
use Rattle.units_text.proofs.period_at.Goals.{After-period_of}

-- the word, by what it means
meant : (d : After-period_of) (o : Answer Period) → d.period_of.result ≡ o
    → let a = d.args in
    scan period_word (drop a.at a.s.now) ≡ valued (meaning_of o) (back (span 97 122) (drop a.at a.s.now))
meant d o e =
    let a = d.args in
    run_is _ _ _ (drop a.at a.s.now) _ (ap (starts (any_of (bytes "dhmswy"))) (sym (run_part (span 97 122) a.s.now a.at d.run_end-e.result d.run_end-e.ensures)) ∙ sym d.starts_in.ensures ∙ d.if-starts_in.true)
    (ap (lookup period_words) (sym (run_part (span 97 122) a.s.now a.at d.run_end-e.result d.run_end-e.ensures)) ∙ d.period_of.ensures ∙ ap meaning_of e)

pub returns-then-e-at : goal.returns-then-e-at
returns-then-e-at c = let a = c.args in run_empty _ _ _ (drop a.at a.s.now) (omega arith)

pub returns-in_err-p : goal.returns-in_err-p
returns-in_err-p c = rw c.from_residual.ensures (meant (goal.at.returns-in_err-p c).After-period_of _ c.in_err-p.was)

pub returns-then-starts_in : goal.returns-then-starts_in
returns-then-starts_in c =
    let a = c.args in
    meant (goal.at.returns-then-starts_in c).After-period_of _ c.in_ok-p.was ∙ ap (found c.in_ok-p.p) (sym (run_left (span 97 122) a.s.now a.at c.run_end-e.result c.run_end-e.ensures))

pub returns : goal.returns
returns c =
    let a = c.args in
    run_no _ _ _ (drop a.at a.s.now) (ap (starts (any_of (bytes "dhmswy"))) (sym (run_part (span 97 122) a.s.now a.at c.run_end-e.result c.run_end-e.ensures)) ∙ sym c.starts_in.ensures ∙ c.if-starts_in.false)

pub slice_bounds-d-end : goal.slice_bounds-d-end
slice_bounds-d-end c = run_end (span 97 122) c.args.s.now c.args.at c.run_end-e.result c.run_end-e.ensures c.if-e-at.false

pub period_of-requires-clause-d_value : goal.period_of-requires-clause-d_value
period_of-requires-clause-d_value c = rw (run_part (span 97 122) c.args.s.now c.args.at c.run_end-e.result c.run_end-e.ensures) (front_every (span 97 122) (drop c.args.at c.args.s.now))
