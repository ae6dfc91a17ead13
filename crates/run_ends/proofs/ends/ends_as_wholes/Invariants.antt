-- `run_ends::ends::ends_as_wholes` meets its contract: proofs/Pass.antt, with the whole numbers that the offsets are.
use Rattle.std.specs.Prelude.{is_ok}
use lib.IntN.{pos}
use lib.Signed.{lt_z}
use Rattle.run_ends.specs.Ends.{whole_number}
use Rattle.run_ends.proofs.Pass.{Passing}
use Rattle.run_ends.proofs.ends.ends_as_wholes.Given as goal

abbrev pub invariant-loop-x : goal.invariant-loop-x
invariant-loop-x g l =
    let whole = g.E.Element.whole in
    Passing (λ x. whole_number (whole x)) (λ x. is_ok (whole x)) lt_z (pos 0) l.source l.ends.least l.ends.greatest l.x-index
