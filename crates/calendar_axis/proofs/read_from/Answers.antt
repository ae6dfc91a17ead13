-- `calendar_axis::read_from` meets its contract: the day that is reached, and the time of day.
use Rattle.std.specs.Prelude.{Result, Ok, Err}
use mathlib.Core.Path.{◌≡◌, refl, sym, ap, ◌∙◌, subst}
use Prim.Native.Nat.{ℕ, ◌<◌}
use mathlib.Core.Bool.{true}
use lib.IntN.{ℤ}
use lib.Signed.{mag}
use mir.Syntax.{w64}
use mir.Val.{SFits}
use mir.ValLaws.{to_z-of_z}
use Rattle.calendar.specs.Answers.{day_answer}
use Rattle.instant.proofs.Clock.{answered_small}
use Rattle.step.specs.Answers.{stepped_back}
use Rattle.step.specs.Steps.{date_after, days_back}
use Rattle.step.specs.declared.DayInMonth.{DayInMonth}
use borrow.Author.Rules.{rules}
use Rattle.calendar_axis.proofs.read_from.Goals as goal
use Rattle.calendar_axis.proofs.read_from.Goals.{After-day_reached}
use Rattle.refusal.specs.declared.Refusal.{Refusal}

-- the day that is reached without the days stepped back, and with a time of day
abbrev day_in : Result DayInMonth Refusal → Result ℤ Refusal
day_in (Ok d) = Ok d.number
day_in (Err r) = Err r

day_in_lem : (a : Result ℤ Refusal) (k : ℕ) → day_in (stepped_back a k) ≡ a
day_in_lem (Ok z) k = refl
day_in_lem (Err r) k = refl

module _ (d : After-day_reached) where
  abbrev answer : Result ℤ Refusal
  answer = day_answer d.args.c (date_after d.args.part d.args.c d.args.n d.args.s.date)

  abbrev back : ℕ
  back = days_back d.args.part d.args.c d.args.n d.args.s.date

  answer_is : d.day_reached.result ≡ stepped_back answer back
  answer_is =
      d.day_reached.ensures
      ∙ ap (λ (n : ℤ). stepped_back (day_answer d.args.c (date_after d.args.part d.args.c n d.args.s.date)) (days_back d.args.part d.args.c n d.args.s.date)) (to_z-of_z w64 d.args.n d.ranges.n)

pub instant_at-requires : goal.instant_at-requires
instant_at-requires c =
    let d = (goal.at.instant_at-requires c).After-day_reached in
    let z = c.in_ok-day.day.number in
    let held : SFits w64 z = search rules in
    let f = to_z-of_z w64 z held in
    let x = date_after d.args.part d.args.c d.args.n d.args.s.date in
    (subst (λ (w : ℤ). mag w < 5000000) (sym f) (answered_small true d.args.c x z (ap day_in (sym c.in_ok-day.was ∙ answer_is d) ∙ day_in_lem (answer d) (back d))), d.requires.1)
