-- `codes::calendar_given` meets its contract.
use Rattle.std.specs.Prelude.{Ok, Some}
use mathlib.Core.Path.{◌≡◌, refl, sym, ap, ◌∙◌}
use Prim.Native.Nat.{ℕ, zero, suc}
use native.Mathlib.Omega.{arith}
use Rattle.calendar.specs.Cutover.{first_cutover}
use Rattle.calendar.specs.declared.Calendar.{Calendar}
use Rattle.calendar.specs.declared.Date.{Date}
use Rattle.cutover.specs.Calendars.{standard_with, with_cutover}
use Rattle.cutover.specs.Closed.{standard_of}
use Rattle.cutover.proofs.Days.{with_fields, first_with}
use Rattle.codes.specs.Codes.{coded_calendar, calendar_given}
use borrow.Author.Rules.{rules}
use Rattle.codes.proofs.calendar_given.Goals as goal
use Rattle.codes.proofs.calendar_given.Goals.{Joined-else-not-is_first}

-- code 0 is `standard`
zero_given : (n : ℕ) (x : Date) → n ≡ 0 → standard_with x ≡ calendar_given n x
unfolding with_cutover
zero_given n x e = ap (λ (k : ℕ). calendar_given k x) (sym e)

-- a calendar that the code names carries the cutover where it is that of 1582, or the calendar is another
coded : (n : ℕ) (x : Date) (c : Calendar) → (n ≡ 0 → x ≡ first_cutover) → coded_calendar n ≡ Some c → Ok c ≡ calendar_given n x
unfolding with_cutover
coded zero x c h = λ e. let f : Calendar.Standard 0 ≡ c = cc in ap Ok (sym f) ∙ (sym first_with ∙ ap standard_with (sym (h refl)))
coded (suc zero) x c h = λ e. let f : Calendar.ProlepticGregorian ≡ c = cc in ap Ok (sym f)
coded (suc (suc zero)) x c h = λ e. let f : Calendar.Julian ≡ c = cc in ap Ok (sym f)
coded (suc (suc (suc zero))) x c h = λ e. let f : Calendar.NoLeap ≡ c = cc in ap Ok (sym f)
coded (suc (suc (suc (suc zero)))) x c h = λ e. let f : Calendar.AllLeap ≡ c = cc in ap Ok (sym f)
coded (suc (suc (suc (suc (suc zero))))) x c h = λ e. let f : Calendar.Day360 ≡ c = cc in ap Ok (sym f)
coded (suc (suc (suc (suc (suc (suc n)))))) x c h = λ e. absurd (let z : ◌≡◌ {A = ℕ} 0 1 = cc in omega arith)

pub returns-then-code-eq0 : goal.returns-then-code-eq0
returns-then-code-eq0 c =
    c.standard_of.ensures ∙ (ap standard_of c.days_of.ensures ∙ (with_fields c.args.x (search rules) ∙ zero_given c.args.code c.args.x c.if-code-eq0.true))

pub returns-in-Some : goal.returns-in-Some
returns-in-Some c =
    let first_if_0 : c.args.code ≡ 0 → c.args.x ≡ first_cutover = λ z.
    elim c.else-not-is_first.branch [
      | goal.else-not-is_first-via-then-not-is_first+else-code-eq0 w ↦ absurd (w.if-code-eq0.false z)
      | goal.else-not-is_first-via-else-not-is_first w ↦ c.is_first.ensures w.if-not-is_first.false
    ] in
    coded c.args.code c.args.x c.in-Some.c first_if_0 (sym c.calendar_of.ensures ∙ c.in-Some.is)
