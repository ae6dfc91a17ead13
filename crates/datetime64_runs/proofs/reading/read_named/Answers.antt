-- `datetime64_runs::reading::read_named` meets its contract: the answer and the destination by what the run comes to.
use mathlib.Core.Path.{sym, ◌∙◌}
use lib.ListN.{length}
use Rattle.datetime64_runs.proofs.Checks.{passed}
use Rattle.datetime64_runs.proofs.reading.read_named.Goals as goal

pub write_instants-requires-clause-room : goal.write_instants-requires-clause-room
write_instants-requires-clause-room c = (passed c.in_ok-t.t c.args.bytes.now (length c.args.destination.now) (sym c.check_records.ensures ∙ c.in_ok-check_records.was)).fits

pub write_instants-requires-clause-read : goal.write_instants-requires-clause-read
write_instants-requires-clause-read c = (passed c.in_ok-t.t c.args.bytes.now (length c.args.destination.now) (sym c.check_records.ensures ∙ c.in_ok-check_records.was)).all_read
