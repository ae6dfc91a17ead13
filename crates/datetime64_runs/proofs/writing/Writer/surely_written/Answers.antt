-- `datetime64_runs::writing::Writer::surely_written` meets its contract: proofs/Sure.antt.
use mathlib.Core.Path.{subst}
use lib.IntN.{pos}
use lib.ListN.{get_or}
use Rattle.signed.specs.Bias.{biased}
use Rattle.datetime64_type.specs.Units.{unit_row_of}
use Rattle.datetime64_number.specs.Conversions.{Writes}
use Rattle.datetime64_number.proofs.Units.{written_good}
use Rattle.datetime64_runs.specs.Runs.{instant_refusal}
use Rattle.datetime64_runs.proofs.Sure.{none_refused}
use Rattle.datetime64_runs.proofs.writing.Writer.surely_written.Goals as goal

pub returns-then-all_between : goal.returns-then-all_between
returns-then-all_between c =
    let t = c.args.self.t in
    let ts = c.args.instants.now in
    let row = subst (Writes (unit_row_of t.unit)) c.in-Fixed.is c.args.self.writes in
    λ h.
    none_refused (instant_refusal t) (pos 0) ts
    (λ i g.
    let x = get_or ts i (pos 0) in
    let p = c.all_between.ensures c.if-all_between.true i g in
    written_good t.unit c.in-Fixed.ratio row x p.0 (c.bounds.ensures.all (biased x) p.1))

pub returns-else-ratio-eq1 : goal.returns-else-ratio-eq1
returns-else-ratio-eq1 c =
    let t = c.args.self.t in
    let ts = c.args.instants.now in
    let row = subst (Writes (unit_row_of t.unit)) c.in-Fixed.is c.args.self.writes in
    λ h.
    none_refused (instant_refusal t) (pos 0) ts
    (λ i g. let p = c.all_multiples.ensures h i g in written_good t.unit c.in-Fixed.ratio row (get_or ts i (pos 0)) p.0 p.1)
