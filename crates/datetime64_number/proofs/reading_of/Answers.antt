-- `datetime64_number::reading_of` meets its contract.
use Rattle.datetime64_number.proofs.Years.{epoch_in}
use Rattle.datetime64_number.proofs.reading_of.Goals as goal

pub start_of-start-requires : goal.start_of-start-requires
start_of-start-requires c = epoch_in
