-- `calendar::place::is_proper` meets its contract.
use Rattle.calendar.proofs.Years.{kind_low}
use Rattle.calendar.proofs.place.is_proper.Goals as goal

pub month_length-requires : goal.month_length-requires
month_length-requires c = let s = c in (rw c.kind_of_year.ensures (kind_low s.args.r s.args.p.y), s.requires)
