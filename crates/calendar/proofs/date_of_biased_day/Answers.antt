-- `calendar::date_of_biased_day` meets its contract.
use Rattle.std.specs.Prelude.{Ok}
use mathlib.Core.Path.{sym, ap, ◌∙◌}
use Rattle.calendar.proofs.Answering.{in_range_lem, out_of_range}
use Rattle.signed.specs.Bias.{unbiased}
use Rattle.calendar.proofs.date_of_biased_day.Goals as goal

pub returns : goal.returns
returns c =
    ap Ok (c.date_of_packed.ensures ∙ c.place_in_years.ensures.dated)
    ∙ in_range_lem c.args.c (unbiased c.args.k) (sym c.day_in_years.ensures ∙ c.if-not-day_in_years.false)

pub returns-then-not-day_in_years : goal.returns-then-not-day_in_years
returns-then-not-day_in_years c = out_of_range c.args.c (unbiased c.args.k) (sym c.day_in_years.ensures ∙ c.if-not-day_in_years.true)
