use Rattle.std.proofs.Common.{◌∙◌}
use mir.Syntax.{w64}
use mir.ValLaws.{to_z-of_z}
use Rattle.datetime64_runs.proofs.Cuts.{number_ends, number_is}
use Rattle.datetime64_runs.proofs.numbers.RecordsNumbers.at.Goals as goal

pub number_at-requires : goal.number_at-requires
number_at-requires c = number_ends c.args.self.order c.args.self.bytes.now c.args.i c.requires

pub returns : goal.returns
returns c =
    to_z-of_z w64 c.number_at.result (record { sfits = c.number_at.type_inv })
    ∙ (c.number_at.ensures ∙ number_is c.args.self.order c.args.self.bytes.now c.args.i c.requires)
