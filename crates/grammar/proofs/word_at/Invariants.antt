-- `grammar::word_at` meets its contract. The loop's invariant: the letters that are left, from the place reached, decide as the whole word does from the first place.
use Rattle.std.proofs.Common.{◌≡◌, drop}
use Rattle.grammar.specs.Reader.{scan}
use Rattle.grammar.specs.Rules.{spelled}
use Rattle.grammar.proofs.word_at.Given as goal

abbrev pub invariant-loop-capital : goal.invariant-loop-capital
invariant-loop-capital l = scan (spelled l.w) (drop l.at l.s) ≡ scan (spelled (drop l.capital-index l.w)) (drop l.end l.s)
