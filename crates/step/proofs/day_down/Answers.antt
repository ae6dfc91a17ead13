-- `step::day_down` meets its contract. The loop passes only days that do not exist.
use Rattle.std.specs.Prelude.{Option, Some, None}
use mathlib.Core.Path.{◌≡◌, refl, sym, ap, subst, ◌∙◌}
use Prim.Native.Nat.{ℕ}
use native.Mathlib.Omega.{arith}
use lib.IntN.{ℤ}
use mir.Syntax.{w64}
use mir.ValLaws.{to_z-of_z}
use Rattle.calendar.specs.Calendar.{has_year_zero, exists, date, date_of}
use Rattle.calendar.specs.Closed.{year_at, DayOrNone}
use Rattle.calendar.proofs.Existing.{valid_of}
use Rattle.step.specs.Steps.{down_to}
use Rattle.step.proofs.Days.{here, passing, passed_days}
use Rattle.step.proofs.day_down.Goals as goal
use Rattle.step.proofs.day_down.Goals.{After-biased_day, After-loop-d}

-- a day that exists is the one that is looked for
module _ (b : After-biased_day) where
  abbrev named : ℤ
  named = year_at (has_year_zero b.args.c) b.args.y

  abbrev d : ℕ
  d = b.loop-d.d

  day : {n : Option ℕ} → b.biased_day.result ≡ n → DayOrNone b.args.c (date named b.args.month d) n
  day e = subst (DayOrNone b.args.c (date named b.args.month d)) e b.biased_day.ensures

  found : (n : ℕ) → b.biased_day.result ≡ Some n → d ≡ down_to b.args.c named b.args.month b.args.day
  found n e = sym (here b.args.c named b.args.month d (day e).0) ∙ b.loop-d.invariant

no_day : (r : Option ℕ) → ((n : ℕ) → r ≡ Some n → ⊥) → r ≡ None
no_day (Some n) f = absurd (f n refl)
no_day None f = refl

pub overflow_sub-result : goal.overflow_sub-result
overflow_sub-result c =
    let b = (goal.at.overflow_sub-result c).After-biased_day in
    let a = b.args in
    omega (arith, found b c.in-Some.n c.in-Some.is, passed_days a.c (named b) a.month a.day)

pub loop-d-preserved : goal.loop-d-preserved
loop-d-preserved c =
    let b = (goal.at.loop-d-preserved c).After-biased_day in
    let a = b.args in
    passing a.c (named b) a.month (d b) (omega arith) (day b (no_day b.biased_day.result c.in_default.not-Some)) ∙ b.loop-d.invariant

pub returns-in-Some-clause-back : goal.returns-in-Some-clause-back
returns-in-Some-clause-back c =
    let b = (goal.at.returns-in-Some-clause-back c).After-biased_day in
    let a = b.args in
    omega (arith, found b c.in-Some.n c.in-Some.is, passed_days a.c (named b) a.month a.day)

pub returns-in-Some-clause-dated : goal.returns-in-Some-clause-dated
returns-in-Some-clause-dated c =
    let b = (goal.at.returns-in-Some-clause-dated c).After-biased_day in
    let a = b.args in
    let u = c.unbiased in
    λ e. ap (date_of a.c) (to_z-of_z w64 u.result (record { sfits = u.type_inv }) ∙ u.ensures) ∙ ((day b c.in-Some.is).1 ∙ ap (date (named b) a.month) (found b c.in-Some.n c.in-Some.is))

-- no day was found
none : (h : After-loop-d) → h.loop-d.d ≡ 0 → 0 ≡ down_to h.args.c (year_at (has_year_zero h.args.c) h.args.y) h.args.month h.args.day
unfolding down_to
none h end =
    let a = h.args in
    sym (ap (down_to a.c (year_at (has_year_zero a.c) a.y) a.month) end) ∙ h.loop-d.invariant

pub returns-clause-back : goal.returns-clause-back
returns-clause-back c =
    let a = c.args in
    omega (arith, none c (omega arith), passed_days a.c (year_at (has_year_zero a.c) a.y) a.month a.day)

pub returns-clause-dated : goal.returns-clause-dated
returns-clause-dated c =
    let a = c.args in
    let y = year_at (has_year_zero a.c) a.y in
    λ e. absurd (omega (arith, (valid_of a.c (date y a.month 0) (ap (λ (k : ℕ). exists a.c (date y a.month k)) (none c (omega arith)) ∙ e)).day_low))
