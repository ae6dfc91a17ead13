-- `Ratio::exchanged` meets its contract: proofs/Places.antt.
use Rattle.std.proofs.Common.{sym, ap, ◌∙◌, subst, arith, w64}
use Rattle.std.proofs.lemmas.Int.{to_z-of_z}
use Rattle.signed.specs.Bias.{biased}
use Rattle.ratio.specs.Multiples.{IsMultiple}
use Rattle.ratio.proofs.Places.{exchange_fits}
use Rattle.ratio.proofs.Ratio.exchanged.Goals as goal
use Rattle.ratio.proofs.Ratio.exchanged.Goals.{After-biased}

-- the biased x is one of the multiples
known : (c : After-biased) → IsMultiple c.args.self c.biased.result
known c = subst (IsMultiple c.args.self) (sym (c.biased.ensures ∙ ap biased (to_z-of_z w64 c.args.x c.ranges.x))) c.requires

pub overflow_mul-n : goal.overflow_mul-n
overflow_mul-n c = omega (arith, exchange_fits c.args.self c.biased.result c.times_in-n.result c.times_in-n.ensures.found (known (goal.at.overflow_mul-n c).After-biased))

pub overflow_add-self : goal.overflow_add-self
overflow_add-self c = record { fits = exchange_fits c.args.self c.biased.result c.times_in-n.result c.times_in-n.ensures.found (known (goal.at.overflow_add-self c).After-biased) }
