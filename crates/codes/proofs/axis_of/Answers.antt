-- `codes::axis_of` meets its contract.
use Rattle.std.specs.Prelude.{Result, Ok, Err, Option, Some, None}
use mathlib.Core.Path.{◌≡◌, sym, ap, ◌∙◌}
use mir.Syntax.{w64}
use mir.Val.{SFits}
use mir.ValLaws.{to_z-of_z}
use Rattle.refusal.specs.declared.Refusal.TheVariants.{UnknownCalendar, IllFormed}
use Rattle.calendar.specs.declared.Calendar.{Calendar}
use Rattle.axis_types.specs.declared.Period.{Period}
use Rattle.axis_types.specs.declared.Mode.{Mode}
use Rattle.codes.specs.Codes.{coded_calendar, calendar_with, calendar_given, coded_period, coded_mode, axis_in, axis_with, coded_axis}
use Rattle.codes.specs.declared.UppinaloAxis.{UppinaloAxis}
use native.Mathlib.Omega.{arith}
use Rattle.std.proofs.lemmas.Grind.{common_steps}
use borrow.Author.Rules.{rules}
use Rattle.codes.proofs.axis_of.Goals as goal
use Rattle.refusal.specs.declared.Refusal.{Refusal}

-- what the codes name so far
module _ (a : UppinaloAxis) where
  no_calendar : None ≡ coded_calendar a.calendar → Err UnknownCalendar ≡ coded_axis a
  unfolding coded_axis
  no_calendar h = λ i. axis_with (h i) (coded_period a.period) (coded_mode a.mode) a

  module _ (d : Calendar) (h : Some d ≡ coded_calendar a.calendar) where
    no_period : None ≡ coded_period a.period → Err IllFormed ≡ coded_axis a
    unfolding coded_axis
    no_period k = λ i. axis_with (h i) (k i) (coded_mode a.mode) a

    module _ (p : Period) (k : Some p ≡ coded_period a.period) where
      no_mode : None ≡ coded_mode a.mode → Err IllFormed ≡ coded_axis a
      unfolding coded_axis
      no_mode l = λ i. axis_with (h i) (k i) (l i) a

      -- and the calendar, with the cutover
      given : (m : Mode) → Some m ≡ coded_mode a.mode → (n : Result Calendar Refusal) → n ≡ calendar_given a.calendar a.cutover → axis_in n p m a ≡ coded_axis a
      unfolding coded_axis
      given m l n e = ap (λ (n : Result Calendar Refusal). axis_in n p m a) (e ∙ sym (ap (λ (d : Option Calendar). calendar_with d a.cutover) h)) ∙ (λ i. axis_with (h i) (k i) (l i) a)

pub returns-in_default : goal.returns-in_default
returns-in_default c = no_calendar c.args.a (sym c.in_default.is ∙ c.calendar_of.ensures)

pub returns-in_default-period_of : goal.returns-in_default-period_of
returns-in_default-period_of c = no_period c.args.a c.in-Some.field-0 c.in-Some.ensures (sym c.in_default-period_of.is ∙ c.period_of.ensures)

pub returns-in_default-mode_of : goal.returns-in_default-mode_of
returns-in_default-mode_of c =
    no_mode c.args.a c.in-Some.field-0 c.in-Some.ensures c.in-Some-period_of.period c.in-Some-period_of.ensures (sym c.in_default-mode_of.is ∙ c.mode_of.ensures)

pub returns-in_err-calendar : goal.returns-in_err-calendar
returns-in_err-calendar c =
    let e = given c.args.a c.in-Some.field-0 c.in-Some.ensures c.in-Some-period_of.period c.in-Some-period_of.ensures c.in-Some-mode_of.mode c.in-Some-mode_of.ensures _ (sym c.in_err-calendar.was ∙ c.calendar_given.ensures) in
    grind (arith, common_steps, e)

pub returns : goal.returns
returns c =
    let a = c.args.a in
    let f : SFits w64 a.reference = search rules in
    (λ i. Ok (record { calendar = c.in_ok-calendar.calendar; period = c.in-Some-period_of.period; mode = c.in-Some-mode_of.mode; reference = to_z-of_z w64 a.reference f i }))
    ∙ given a c.in-Some.field-0 c.in-Some.ensures c.in-Some-period_of.period c.in-Some-period_of.ensures c.in-Some-mode_of.mode c.in-Some-mode_of.ensures _ (sym c.in_ok-calendar.was ∙ c.calendar_given.ensures)
