-- `cutover::with_cutover` meets its contract.
use Rattle.std.specs.Prelude.{Ok}
use mathlib.Core.Path.{◌≡◌, refl, sym, ap, ◌∙◌}
use Prim.Native.Nat.{ℕ}
use Rattle.calendar.specs.declared.Calendar.{Calendar}
use Rattle.calendar.specs.declared.Date.{Date}
use Rattle.cutover.specs.Calendars.{standard_with, with_cutover}
use Rattle.cutover.specs.Closed.{standard_of}
use Rattle.cutover.proofs.Days.{with_fields, first_with}
use borrow.Author.Rules.{rules}
use Rattle.cutover.proofs.with_cutover.Goals as goal

-- a calendar other than `standard` takes any cutover
plain : (c : Calendar) (x : Date) → ((k : ℕ) → c ≡ Calendar.Standard k → ⊥) → Ok c ≡ with_cutover c x
unfolding with_cutover
plain (Calendar.Standard k) x h = absurd (h k refl)
plain Calendar.ProlepticGregorian x h = refl
plain Calendar.Julian x h = refl
plain Calendar.NoLeap x h = refl
plain Calendar.AllLeap x h = refl
plain Calendar.Day360 x h = refl

pub returns-then-is_first : goal.returns-then-is_first
unfolding with_cutover
returns-then-is_first c =
    sym first_with ∙ (ap standard_with (sym (c.is_first.ensures c.if-is_first.true)) ∙ ap (λ (k : Calendar). with_cutover k c.args.x) (sym c.in-Standard.is))

pub returns-else-is_first : goal.returns-else-is_first
unfolding with_cutover
returns-else-is_first c =
    let x = c.args.x in
    c.standard_of.ensures ∙ (ap standard_of c.days_of.ensures ∙ (with_fields x (search rules) ∙ ap (λ (k : Calendar). with_cutover k x) (sym c.in-Standard.is)))

pub returns-in_default : goal.returns-in_default
returns-in_default c = plain c.args.c c.args.x c.in_default.not-Standard
