use Rattle.std.proofs.Common.{sym}
use Rattle.datetime64_runs.proofs.Cuts.{numbers_count}
use Rattle.datetime64_runs.proofs.numbers.RecordsNumbers.count.Goals as goal

pub returns : goal.returns
returns c = sym (numbers_count c.args.self.order c.args.self.bytes.now)
