-- `instant::fields_of` meets its contract.
use Rattle.std.specs.Prelude.{Result, Ok}
use mathlib.Core.Path.{◌≡◌, sym, ap, ◌∙◌, subst}
use Prim.Native.Nat.{ℕ, ◌<◌}
use mir.Syntax.{w64}
use mir.ValLaws.{to_z-of_z}
use native.Mathlib.Omega.{arith}
use Rattle.std.proofs.lemmas.Grind.{common_steps}
use Rattle.calendar.specs.Answers.{date_answer}
use Rattle.instant.specs.Instant.{day_of, time_of, with_time, fields_answer}
use Rattle.instant.proofs.Theorems.{time_small}
use Rattle.instant.proofs.fields_of.Goals as goal
use Rattle.instant.proofs.fields_of.Goals.{After-date_of_biased_day}
use Rattle.calendar.specs.declared.Date.{Date}
use Rattle.refusal.specs.declared.Refusal.{Refusal}

-- the answer for the date of the day
settled : (d : After-date_of_biased_day) (a : Result Date Refusal) → d.date_of_biased_day.result ≡ a → with_time a d.day_and_time-s.result.time ≡ fields_answer d.args.c d.args.t
unfolding fields_answer
settled d a e =
    let s = d.day_and_time-s in
    let t = to_z-of_z w64 d.args.t d.ranges.t in
    λ i. with_time ((sym e ∙ (d.date_of_biased_day.ensures ∙ ap (date_answer d.args.c) (s.ensures.0 ∙ ap day_of t))) i) ((s.ensures.1 ∙ ap time_of t) i)

pub returns-in_err-d : goal.returns-in_err-d
returns-in_err-d c =
    let e = settled (goal.at.returns-in_err-d c).After-date_of_biased_day _ c.in_err-d.was in
    grind (arith, common_steps, e)

pub fields_at-requires : goal.fields_at-requires
fields_at-requires c =
    let s = c in
    subst (λ (n : ℕ). n < 86400000000) (sym s.day_and_time-s.ensures.1) (time_small _)

pub returns : goal.returns
returns c =
    let d = c in
    ap Ok c.fields_at.ensures ∙ settled (goal.at.returns c).After-date_of_biased_day (Ok d.in_ok-d.d) d.in_ok-d.was
