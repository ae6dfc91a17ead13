-- `calendar_axis::start_of` meets its contract: the day and the time of a reference in the range, and the date of that day.
use Rattle.std.specs.Prelude.{Ok}
use mathlib.Core.Bool.{true}
use mathlib.Core.Path.{◌≡◌, sym, ap, ◌∙◌, subst}
use mir.Syntax.{w64}
use mir.Val.{to_z, of_z}
use mir.ValLaws.{to_z-of_z}
use Rattle.calendar.specs.Answers.{date_answer}
use Rattle.calendar.specs.declared.Date.{Date}
use Rattle.calendar.proofs.Answering.{in_range_lem}
use Rattle.instant.specs.Instant.{day_of, time_of}
use Rattle.step.specs.Closed.{HasNumber}
use Rattle.calendar_axis.specs.Steps.{date_at}
use Rattle.calendar_axis.proofs.Demands.{numbered}
use Rattle.calendar_axis.proofs.start_of.Goals as goal
use Rattle.calendar_axis.proofs.start_of.Goals.{After-date_of_biased_day}

module _ (d : After-date_of_biased_day) where
  abbrev date : Date
  date = date_at d.args.c d.args.reference

  reference_is : to_z w64 (of_z w64 d.args.reference) ≡ d.args.reference
  reference_is = to_z-of_z w64 d.args.reference d.ranges.reference

  answer : d.date_of_biased_day.result ≡ Ok date
  answer =
      d.date_of_biased_day.ensures
      ∙ (ap (date_answer d.args.c) (d.day_and_time-s.ensures.0 ∙ ap day_of reference_is) ∙ sym (in_range_lem d.args.c (day_of d.args.reference) d.requires))

pub unwrap-date-requires : goal.unwrap-date-requires
unwrap-date-requires c = rw (answer c) (λ i. true)

found : (d : After-date_of_biased_day) (x : Date) → d.date_of_biased_day.result ≡ Ok x → x ≡ date d
found d x e = let a = answer d in cc

pub year_of-requires : goal.year_of-requires
year_of-requires c =
    let d = (goal.at.year_of-requires c).After-date_of_biased_day in
    subst (HasNumber d.args.c) (sym (found d c.unwrap-date.result c.unwrap-date.ensures)) (numbered d.args.c d.args.reference d.requires)

pub returns : goal.returns
returns c =
    let d = (goal.at.returns c).After-date_of_biased_day in
    record { date = found d c.unwrap-date.result c.unwrap-date.ensures; year = c.year_of.ensures; time = d.day_and_time-s.ensures.1 ∙ ap time_of (reference_is d) }
