-- `calendar::ordinal::has_day` meets its contract.
use mathlib.Core.Path.{sym, ap, ◌∙◌}
use lib.Dec.{ltb}
use Rattle.calendar.specs.Plain.{month_days}
use Rattle.calendar.specs.Closed.{kind_at}
use Rattle.calendar.specs.declared.place.Place.{Place}
use Rattle.calendar.proofs.Counting.{by_length, not_possible}
use Rattle.calendar.proofs.ordinal.has_day.Goals as goal

pub returns-else-is_possible : goal.returns-else-is_possible
returns-else-is_possible c =
    let a = c.args in
    c.if-is_possible.false ∙ sym (not_possible a.r a.y a.month a.day (sym c.is_possible.ensures ∙ c.if-is_possible.false))

pub returns-then-is_possible : goal.returns-then-is_possible
returns-then-is_possible c =
    let a = c.args in
    c.is_proper.ensures
    ∙ (ap (λ (q : Place). ltb q.i (month_days (kind_at a.r q.y) q.m)) c.place_at.ensures
    ∙ sym (by_length a.r a.y a.month a.day (sym c.is_possible.ensures ∙ c.if-is_possible.true)))
