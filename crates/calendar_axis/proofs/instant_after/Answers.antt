-- `calendar_axis::instant_after` meets its contract: the day that is reached, and the time of day.
use Rattle.std.specs.Prelude.{Result, Ok}
use mathlib.Core.Path.{◌≡◌, sym, ap, ◌∙◌, subst}
use Prim.Native.Nat.{◌<◌}
use mathlib.Core.Bool.{true}
use lib.IntN.{ℤ}
use lib.Signed.{mag}
use mir.Syntax.{w64}
use mir.Val.{to_z, of_z}
use mir.ValLaws.{to_z-of_z}
use Rattle.calendar.specs.Calendar.{exists, in_years}
use Rattle.calendar.specs.declared.Date.{Date}
use Rattle.calendar.proofs.Answering.{date_there}
use Rattle.instant.specs.Instant.{instant_at}
use Rattle.instant.proofs.Clock.{day_small}
use Rattle.step.specs.Steps.{date_after}
use Rattle.step.proofs.Theorems.{steps_exist}
use Rattle.calendar_axis.specs.Steps.{on_day}
use Rattle.calendar_axis.proofs.Demands.{day_inside}
use Rattle.calendar_axis.proofs.instant_after.Goals as goal
use Rattle.calendar_axis.proofs.instant_after.Goals.{After-day_after, Start}
use Rattle.refusal.specs.declared.Refusal.{Refusal}

module _ (s : Start) where
  abbrev moved : ℤ → Date
  moved n = date_after s.args.part s.args.c n s.args.s.date

  there : exists s.args.c (moved s.args.n) ≡ true
  there = steps_exist s.args.part s.args.c s.args.s.date s.requires.0.date.there s.args.n

  inside : in_years (moved s.args.n).year ≡ true
  inside = day_inside s.args.c (moved s.args.n) there s.args.s.time s.requires.2

  asked : moved (to_z w64 (of_z w64 s.args.n)) ≡ moved s.args.n
  asked = ap moved (to_z-of_z w64 s.args.n s.ranges.n)

-- the day number that is answered
day_is : (d : After-day_after) → to_z w64 (of_z w64 d.day_after.result) ≡ d.day_after.result
day_is d = to_z-of_z w64 d.day_after.result (record { sfits = d.day_after.type_inv })

pub day_after-requires : goal.day_after-requires
day_after-requires c =
    let s = (goal.at.day_after-requires c).Start in
    (c.requires.0, ap (λ (d : Date). in_years d.year) (asked s) ∙ inside s)

pub instant_at-requires : goal.instant_at-requires
instant_at-requires c =
    let s = (goal.at.instant_at-requires c).Start in
    (subst (λ (z : ℤ). mag z < 5000000) (sym (day_is c)) (day_small c.args.c c.day_after.result (ap (λ (d : Date). in_years d.year) (c.day_after.ensures ∙ asked s) ∙ inside s)), c.requires.1)

pub returns : goal.returns
returns c =
    let a = c.args in
    let s = (goal.at.returns c).Start in
    let d = (goal.at.returns c).After-day_after in
    ap (λ (t : ℤ). Ok (t, true)) (to_z-of_z w64 c.instant_at.result (record { sfits = c.instant_at.type_inv }) ∙ (c.instant_at.ensures ∙ ap (λ (z : ℤ). instant_at z a.s.time) (day_is d)))
    ∙ ap (λ (x : Result ℤ Refusal). on_day x a.s.time) (date_there a.c (moved s a.n) c.day_after.result (inside s) (there s) (c.day_after.ensures ∙ asked s))
