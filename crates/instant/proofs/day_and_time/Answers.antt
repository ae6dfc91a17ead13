-- `instant::day_and_time` meets its contract. proofs/Days.antt has the quotients.
use mathlib.Core.Path.{◌≡◌, ap, ◌∙◌}
use Rattle.signed.specs.Bias.{unbiased}
use Rattle.signed.proofs.Machine.{crossed}
use Rattle.instant.specs.Instant.{day_of, time_of}
use Rattle.instant.proofs.Days.{day_early, time_early, day_late, time_late}
use Rattle.instant.proofs.day_and_time.Goals as goal
use Rattle.instant.proofs.day_and_time.Goals.{After-biased-k}

instant_is : (b : After-biased-k) → unbiased b.biased-k.result ≡ b.args.t
instant_is b = crossed b.args.t b.biased-k.result b.ranges.t b.biased-k.ensures

pub returns-then-k-lt14454775808 : goal.returns-then-k-lt14454775808
returns-then-k-lt14454775808 c =
    let b = (goal.at.returns-then-k-lt14454775808 c).After-biased-k in
    let k = b.biased-k.result in
    (day_early k c.if-k-lt14454775808.true ∙ ap day_of (instant_is b), time_early k c.if-k-lt14454775808.true ∙ ap time_of (instant_is b))

pub returns : goal.returns
returns c =
    let b = (goal.at.returns c).After-biased-k in
    let k = b.biased-k.result in
    (day_late k c.if-k-lt14454775808.false ∙ ap day_of (instant_is b), time_late k c.if-k-lt14454775808.false ∙ ap time_of (instant_is b))
