-- `listing::feed`: each turn of the loop takes a line and its newline from what is left of the bytes.
use Rattle.std.proofs.Common.{length}
use Rattle.listing.proofs.feed.Given as goal

abbrev pub decreases-loop-end : goal.decreases-loop-end
decreases-loop-end g l = length l.rest
