-- CLOSED FORM: the first four bytes of an identifier as one word, as a private function compares them; proofs/Identifiers.antt joins it to
-- the rule. What the answers of private functions say of a word.
use Rattle.std.specs.Prelude.{List, [], ◌∷◌, Option as Answer}
use Rattle.std.proofs.Math.Option.{Option}
use Rattle.grammar.specs.Answers.{answered}
use Rattle.grammar.specs.Rules.{bytes}
use Rattle.word_table.specs.Table.{Row, row}
use Rattle.datetime64_type.specs.declared.ByteOrder.{ByteOrder}
use Rattle.datetime64_type.specs.declared.UnitCode.{UnitCode}

abbrev pub order_words : List (Row ByteOrder)
order_words = row (bytes "<M8[" ∷ []) ByteOrder.Little ∷ row (bytes ">M8[" ∷ []) ByteOrder.Big ∷ []

abbrev pub order_in : Answer ByteOrder → Option ByteOrder
order_in r = answered r

abbrev pub unit_in : Answer UnitCode → Option UnitCode
unit_in r = answered r
