-- `word_table::packed_of` meets its contract. The loop's invariant: with the bytes that are left, the value so far makes the whole number.
-- So no value on the way is above that number, which fits eight bytes.
use Rattle.std.proofs.Common.{◌≡◌, drop}
use Rattle.grammar.specs.Rules.{numeral}
use Rattle.word_table.specs.Packed.{packed}
use Rattle.word_table.proofs.packed_of.Given as goal

abbrev pub invariant-loop-b : goal.invariant-loop-b
invariant-loop-b l = numeral 256 0 l.v (drop l.b-index l.d) ≡ packed l.d
