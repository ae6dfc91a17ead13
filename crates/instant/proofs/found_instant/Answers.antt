-- `instant::found_instant` meets its contract.
use Rattle.std.specs.Prelude.{Result, Ok, Err, Option, Some, None}
use mathlib.Core.Path.{◌≡◌, refl, sym, ap, ◌∙◌, subst}
use mathlib.Core.Bool.{Bool, true, false, ◌&&◌}
use Prim.Native.Nat.{ℕ, ◌<◌}
use lib.IntN.{ℤ}
use lib.Signed.{mag}
use mir.Syntax.{w64}
use mir.Val.{SFits, to_z, of_z}
use mir.ValLaws.{to_z-of_z}
use Rattle.signed.proofs.Tests.{both, and_parts, left_out, right_out}
use Rattle.calendar.specs.Calendar.{in_years, exists, date}
use Rattle.calendar.specs.Answers.{day_with}
use Rattle.calendar.specs.Closed.{Found}
use Rattle.calendar.specs.declared.Date.{Date}
use Rattle.calendar.proofs.Existing.{date_eq}
use Rattle.calendar.proofs.Answering.{day_refused, day_given}
use Rattle.instant.specs.Instant.{is_clock, date_in, instant_at, with_clock, instant_with}
use native.Mathlib.Omega.{arith}
use Rattle.std.proofs.lemmas.Grind.{common_steps}
use Rattle.instant.specs.Closed.{fields_refusal, FoundAt}
use Rattle.instant.specs.declared.Fields.{Fields}
use Rattle.calendar.specs.declared.Calendar.{Calendar}
use Rattle.instant.proofs.Clock.{clock_small, answered_small}
use borrow.Author.Rules.{rules}
use Rattle.instant.proofs.found_instant.Goals as goal
use Rattle.instant.proofs.found_instant.Goals.{After-clock_time}
use Rattle.refusal.specs.declared.Refusal.{Refusal}

abbrev beside : Bool → Fields → Bool
beside r f = r && is_clock f

abbrev there : Calendar → Fields → Bool
there c f = in_years f.year && exists c (date_in f)

-- where something beside the date is impossible, or the date does not exist
nothing : (r : Bool) (c : Calendar) (f : Fields) → (beside r f && there c f) ≡ false → instant_with r c f ≡ Err (fields_refusal r c f)
unfolding instant_with
nothing r c f h = ap (λ (a : Result ℤ Refusal). with_clock a f) (sym (day_refused (beside r f) c (date_in f) h))

pub returns-then-not-rest : goal.returns-then-not-rest
returns-then-not-rest c =
    let a = c.args in
    nothing a.rest a.c a.f (left_out (beside a.rest a.f) (there a.c a.f) (left_out a.rest (is_clock a.f) c.if-not-rest.true))

pub returns-then-not-is_clock : goal.returns-then-not-is_clock
returns-then-not-is_clock c =
    let a = c.args in
    nothing a.rest a.c a.f (left_out (beside a.rest a.f) (there a.c a.f) (right_out a.rest (is_clock a.f) (sym c.is_clock.ensures ∙ c.if-not-is_clock.true)))

-- what was found of the date
told : (c : Calendar) (f : Fields) → SFits w64 f.year → (r a : Option ℤ) → Found c (date (to_z w64 (of_z w64 f.year)) f.month f.day) r → r ≡ a → Found c (date_in f) a
told c f fit r a h e =
    let is : date (to_z w64 (of_z w64 f.year)) f.month f.day ≡ date_in f = date_eq (to_z-of_z w64 f.year fit) refl refl in
    subst (Found c (date_in f)) e (subst (λ (x : Date). Found c x r) is h)

-- the day number, as the call is given it
module _ (k : After-clock_time) where
  abbrev z : ℤ
  z = k.in_ok-n.n

  day_is : to_z w64 (of_z w64 z) ≡ z
  day_is = to_z-of_z w64 z (search rules)

  clock_true : is_clock k.args.f ≡ true
  clock_true = sym k.is_clock.ensures ∙ k.if-not-is_clock.false

  answer : Ok z ≡ day_with (beside k.args.rest k.args.f) k.args.c (date_in k.args.f)
  answer =
      let f = k.args.f in
      let fit : SFits w64 f.year = search rules in
      let w = told k.args.c f fit k.found_day.result (Some z) k.found_day.ensures k.in_ok-n.was in
      let b = and_parts (in_years f.year) (exists k.args.c (date_in f)) w.0 in
      day_given (beside k.args.rest f) k.args.c (date_in f) z (both k.args.rest (is_clock f) k.if-not-rest.false clock_true) b.0 b.1 w.1

pub instant_at-requires : goal.instant_at-requires
instant_at-requires c =
    let a = c.args in (
      subst (λ (w : ℤ). mag w < 5000000) (sym (day_is c)) (answered_small (beside a.rest a.f) a.c (date_in a.f) (z c) (answer c)),
      subst (λ (k : ℕ). k < 86400000000) (sym c.clock_time.ensures) (clock_small a.f (clock_true c)),
    )

pub returns : goal.returns
unfolding instant_with
returns c =
    let k = (goal.at.returns c).After-clock_time in
    sym (ap Ok (to_z-of_z w64 c.instant_at.result (record { sfits = c.instant_at.type_inv }) ∙ (c.instant_at.ensures ∙ (λ i. instant_at (day_is k i) (k.clock_time.ensures i))))
    ∙ ap (λ (a : Result ℤ Refusal). with_clock a c.args.f) (answer k))

pub returns-in_err-n : goal.returns-in_err-n
returns-in_err-n c =
    let a = c.args in
    let fit : SFits w64 a.f.year = search rules in
    let none : c.from_residual.result ≡ None = grind (arith, common_steps) in
    subst (FoundAt a.rest a.c a.f) (sym none)
    (nothing a.rest a.c a.f (right_out (beside a.rest a.f) (there a.c a.f) (told a.c a.f fit c.found_day.result None c.found_day.ensures c.in_err-n.was)))
