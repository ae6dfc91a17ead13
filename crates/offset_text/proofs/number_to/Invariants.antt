-- `offset_text::number_to` meets its contract. The loop's invariant: with the digits that are left, the value so far makes the same number,
-- and it is below the power of the base that the digits so far can reach.
use Rattle.std.proofs.Common.{◌^◌, ◌<◌, ◌≡◌, drop}
use Rattle.offset_text.specs.Closed.{digits_from}
use Rattle.offset_text.proofs.number_to.Given as goal

abbrev pub invariant-loop-b : goal.invariant-loop-b
invariant-loop-b l = record { below : l.v < l.base ^ l.b-index; same : digits_from l.base l.v (drop l.b-index l.s) ≡ digits_from l.base 0 l.s }
