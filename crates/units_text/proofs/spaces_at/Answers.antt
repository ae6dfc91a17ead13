-- `units_text::spaces_at` meets its contract: each `return` is a step of the reader.
use native.Mathlib.Omega.{arith}
use mathlib.Core.Path.{sym, ap, ◌∙◌}
use lib.ListN.{drop}
use Rattle.grammar.specs.Reader.{found}
use Rattle.grammar.specs.Rules.{span}
use Rattle.grammar.proofs.Places.{run_left}
use Rattle.grammar.proofs.Steps.{run_empty}
use Rattle.units_text.proofs.Steps.{spaces_is}
use Rattle.units_text.proofs.spaces_at.Goals as goal

pub returns-then-e-at : goal.returns-then-e-at
returns-then-e-at c = let a = c.args in run_empty _ _ _ (drop a.at a.s.now) (omega arith)

pub returns : goal.returns
returns c =
    let a = c.args in
    let e = c.run_end-e.result in
    spaces_is (drop a.at a.s.now) (omega arith) ∙ ap (found tt) (sym (run_left (span 32 32) a.s.now a.at e c.run_end-e.ensures))
