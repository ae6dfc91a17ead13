-- `datetime64_runs::writing::Writer::check_instants` meets its contract: proofs/Checks.antt.
use mathlib.Core.Path.{sym, ◌∙◌}
use native.Mathlib.Omega.{arith}
use Rattle.datetime64_runs.proofs.Checks.{short_bytes, each_instant}
use Rattle.datetime64_runs.proofs.writing.Writer.check_instants.Goals as goal

pub returns-then-room-instants : goal.returns-then-room-instants
returns-then-room-instants c = short_bytes c.args.self.t c.args.instants.now c.args.room (omega (arith, c.if-room-instants.true))

pub returns-then-surely_written : goal.returns-then-surely_written
returns-then-surely_written c = sym (c.surely_written.ensures c.if-surely_written.true) ∙ each_instant c.args.self.t c.args.instants.now c.args.room (omega (arith, c.if-room-instants.false))

pub returns : goal.returns
returns c = c.first_refused_instant.ensures ∙ each_instant c.args.self.t c.args.instants.now c.args.room (omega (arith, c.if-room-instants.false))
