-- `run_ends::ends::whole_ends` meets its contract: proofs/Between.antt.
use mathlib.Core.Path.{refl, ◌∙◌}
use Rattle.run_ends.proofs.Between.{wholes_have_ends}
use Rattle.run_ends.proofs.ends.whole_ends.Goals as goal

pub unwrap-requires : goal.unwrap-requires
unwrap-requires c = rw (c.ends_as_wholes.ensures ∙ wholes_have_ends c.args.source.now) refl
