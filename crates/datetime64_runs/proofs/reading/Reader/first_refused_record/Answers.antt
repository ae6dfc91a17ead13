-- `datetime64_runs::reading::Reader::first_refused_record` meets its contract: proofs/Sure.antt.
use mathlib.Core.Path.{◌∙◌}
use Rattle.std.proofs.Common.{rules}
use lib.IntN.{ℤ}
use Rattle.axis_types.specs.Reading.{refusal_of}
use Rattle.datetime64_number.specs.Numbers.{read_number}
use Rattle.datetime64_runs.specs.Records.{record_number, records_in}
use Rattle.datetime64_runs.proofs.Sure.{mapped}
use Rattle.datetime64_runs.proofs.reading.Reader.first_refused_record.Goals as goal

pub returns : goal.returns
returns c =
    let t = c.args.self.t in
    let refusal = λ (n : ℤ). refusal_of (read_number t.unit n) in
    c.first_refused.ensures refusal (λ n r f p. search rules) ∙ mapped refusal (record_number t.order) (records_in c.args.bytes.now)
