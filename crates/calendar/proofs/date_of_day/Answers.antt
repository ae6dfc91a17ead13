-- `calendar::date_of_day` meets its contract.
use Rattle.std.specs.Prelude.{Ok}
use mathlib.Core.Path.{sym, ap, ◌∙◌}
use Rattle.calendar.proofs.Answering.{in_range_lem, out_of_range}
use Rattle.signed.specs.Bias.{unbiased}
use Rattle.signed.proofs.Machine.{crossed}
use Rattle.calendar.specs.Answers.{date_answer}
use Rattle.calendar.proofs.date_of_day.Goals as goal

pub returns : goal.returns
returns c =
    let a = c.args in
    let k = c.biased-k.result in
    ap Ok (c.date_of_packed.ensures ∙ c.place_in_years.ensures.dated)
    ∙ (in_range_lem a.c (unbiased k) (sym c.day_in_years.ensures ∙ c.if-not-day_in_years.false)
    ∙ ap (date_answer a.c) (crossed a.n k c.ranges.n c.biased-k.ensures))

pub returns-then-not-day_in_years : goal.returns-then-not-day_in_years
returns-then-not-day_in_years c =
    let a = c.args in
    let k = c.biased-k.result in
    out_of_range a.c (unbiased k) (sym c.day_in_years.ensures ∙ c.if-not-day_in_years.true) ∙ ap (date_answer a.c) (crossed a.n k c.ranges.n c.biased-k.ensures)
