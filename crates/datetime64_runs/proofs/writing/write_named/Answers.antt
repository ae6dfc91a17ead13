-- `datetime64_runs::writing::write_named` meets its contract: the answer and the room by what the run comes to.
use mathlib.Core.Path.{sym, ◌∙◌}
use lib.ListN.{length}
use Rattle.datetime64_runs.proofs.Checks.{held}
use Rattle.datetime64_runs.proofs.writing.write_named.Goals as goal

pub write_records-requires-clause-room : goal.write_records-requires-clause-room
write_records-requires-clause-room c = (held c.in_ok-t.t c.args.instants.now (length c.args.bytes.now) (sym c.check_instants.ensures ∙ c.in_ok-check_instants.was)).fits

pub write_records-requires-clause-written : goal.write_records-requires-clause-written
write_records-requires-clause-written c = (held c.in_ok-t.t c.args.instants.now (length c.args.bytes.now) (sym c.check_instants.ensures ∙ c.in_ok-check_instants.was)).all_written
