-- `tt2000::is_leap_date` meets its contract.
use mathlib.Core.Path.{sym, ◌∙◌, subst}
use Rattle.calendar.specs.Closed.{IsDaySince}
use Rattle.leap_seconds.proofs.Listed.{listed}
use Rattle.tt2000.proofs.LeapDates.{leap_date_is, no_leap_date}
use Rattle.tt2000.proofs.is_leap_date.Goals as goal

pub returns-in-None : goal.returns-in-None
returns-in-None c = sym (no_leap_date c.args.list.bytes.now (listed c.args.list.bytes.now c.args.list.good) c.args.x (subst (IsDaySince c.args.x) c.in-None.is c.day_since_1970.ensures))

pub returns-in-Some : goal.returns-in-Some
returns-in-Some c =
    c.is_leap_day.ensures
    ∙ sym (leap_date_is c.args.list.bytes.now (listed c.args.list.bytes.now c.args.list.good) c.args.x c.in-Some.n (subst (IsDaySince c.args.x) c.in-Some.is c.day_since_1970.ensures))
