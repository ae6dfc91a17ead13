-- `calendar::row::from_of` meets its contract.
use mathlib.Core.Path.{sym, ap, ◌∙◌}
use Prim.Native.Nat.{ℕ, ◌+◌}
use native.Mathlib.Omega.{arith}
use Rattle.calendar.specs.Closed.{place_of, counts}
use Rattle.calendar.specs.declared.Calendar.{Calendar}
use Rattle.calendar.specs.declared.rule.Rule.{Rule}
use Rattle.calendar.specs.Calendar.{days_used}
use Rattle.calendar.proofs.Places.{place_at_lem}
use Rattle.calendar.proofs.Cutovers.{used, from_at}
use Rattle.calendar.proofs.row.from_of.Goals as goal

pub place_of-requires : goal.place_of-requires
place_of-requires c = omega (arith, c.days_used.ensures, (used c.in-Standard.k).most)

pub returns-in-Standard : goal.returns-in-Standard
returns-in-Standard c =
    let n = days_used c.in-Standard.k in
    c.place_of.ensures
    ∙ (ap (λ (i : ℕ). place_of Rule.Gregorian (4230526 + i)) c.days_used.ensures
    ∙ (place_at_lem Rule.Gregorian (4230526 + n) ∙ (sym (from_at n) ∙ ap (λ (x : Calendar). (counts x).from) (sym c.in-Standard.is))))
