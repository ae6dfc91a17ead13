-- `grammar::decimal_of` meets its contract. The loop's invariant: with the digits that are left, the value so far makes the whole number.
-- So no value on the way is above that number, which is below a million.
use Rattle.std.proofs.Common.{◌≡◌, drop}
use Rattle.grammar.specs.Rules.{decimal}
use Rattle.grammar.proofs.decimal_of.Given as goal

abbrev pub invariant-loop-b : goal.invariant-loop-b
invariant-loop-b l = decimal l.v (drop l.b-index l.d) ≡ decimal 0 l.d
