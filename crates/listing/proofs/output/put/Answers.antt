-- `listing::output::put` meets its contract: its room is enough for any line, so the line is not refused.
use Rattle.std.proofs.Common.{arith, ◌≡◌, length, true, ◌∙◌}
use Rattle.listing_line.specs.Line.{line_text}
use Rattle.listing_line.proofs.Theorems.{line_length, room_enough}
use Rattle.listing.proofs.output.put.Goals as goal

pub unwrap-requires : goal.unwrap-requires
unwrap-requires c =
    let enough = room_enough c.args.line.now c.args.room.now (omega (arith, c.requires)) in
    rw (c.answer.ensures.value ∙ enough) (λ i. true)

pub returns-clause-answered : goal.returns-clause-answered
returns-clause-answered c =
    let enough = room_enough c.args.line.now c.args.room.now (omega (arith, c.requires)) in
    let is = c.unwrap.ensures in
    let value = c.answer.ensures.value in
    let e : c.unwrap.result ≡ length (line_text c.args.line.now) = (cc) in
    let l = line_length c.args.line.now in
    (e, omega (arith, e, l.1))
