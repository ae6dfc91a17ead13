-- `cutover::days_of` meets its contract: the day number in `proleptic_gregorian` tells the days.
use Rattle.std.specs.Prelude.{Option, Some, None}
use Rattle.std.proofs.lemmas.Grind.{common_steps}
use Rattle.signed.specs.Bias.{unbiased}
use Rattle.calendar.specs.declared.Calendar.TheVariants.{ProlepticGregorian}
use mathlib.Core.Path.{◌≡◌, sym, subst, ◌∙◌}
use mathlib.Core.Bool.{true, false}
use Prim.Native.Nat.{ℕ, ◌-◌}
use native.Mathlib.Omega.{arith}
use lib.IntN.{ℤ}
use mir.Syntax.{w64}
use mir.Val.{SFits}
use mir.ValLaws.{to_z-of_z}
use Rattle.signed.proofs.Machine.{read}
use Rattle.calendar.specs.Calendar.{date, date_of}
use Rattle.calendar.specs.Cutover.{cutover_days, allowed}
use Rattle.calendar.specs.declared.Date.{Date}
use Rattle.cutover.specs.Closed.{GregorianDay, allowed_days}
use Rattle.cutover.proofs.Days.{not_found, before_first, after_last, test_of, days_are}
use Rattle.cutover.proofs.days_of.Goals as goal
use Rattle.cutover.proofs.days_of.Goals.{In_ok-k}

-- what the test of a date settles
refused : (x : Date) → allowed x ≡ false → None ≡ allowed_days x
unfolding allowed_days
refused x h = rw h

given : (x : Date) (k : ℕ) → allowed x ≡ true → cutover_days x ≡ k → Some k ≡ allowed_days x
unfolding allowed_days
given x k h e = rw (h, sym e)

-- the number that is given for the date
day : (y : ℤ) (m d : ℕ) (k : Option ℕ) {n : Option ℕ} → SFits w64 y → GregorianDay (date (read y) m d) k → k ≡ n → GregorianDay (date y m d) n
day y m d k fits h e = subst (GregorianDay (date y m d)) e (subst (λ (z : ℤ). GregorianDay (date z m d) k) (to_z-of_z w64 y fits) h)

pub returns-in_err-k : goal.returns-in_err-k
returns-in_err-k c =
    let a = c.args in
    let x = date a.year a.month a.day in
    let none : c.from_residual.result ≡ None = grind (arith, common_steps) in
    let none_found : c.gregorian_day.result ≡ None = grind (arith, common_steps) in
    none ∙ refused x (not_found x (day a.year a.month a.day c.gregorian_day.result c.ranges.year c.gregorian_day.ensures none_found))

-- the number of the date
number : (c : In_ok-k) → let a = c.args in date_of ProlepticGregorian (unbiased c.in_ok-k.k) ≡ date a.year a.month a.day
number c =
    let a = c.args in
    let found : c.gregorian_day.result ≡ Some c.in_ok-k.k = grind (arith, common_steps) in
    day a.year a.month a.day c.gregorian_day.result c.ranges.year c.gregorian_day.ensures found

pub returns-then-k-lt-FIRST : goal.returns-then-k-lt-FIRST
returns-then-k-lt-FIRST c =
    let a = c.args in
    let x = date a.year a.month a.day in
    refused x (before_first x c.in_ok-k.k (number (goal.at.returns-then-k-lt-FIRST c).In_ok-k) c.if-k-lt-FIRST.true)

pub returns-then-days-gt-MOST_DAYS : goal.returns-then-days-gt-MOST_DAYS
returns-then-days-gt-MOST_DAYS c =
    let a = c.args in
    let x = date a.year a.month a.day in
    refused x (after_last x c.in_ok-k.k (number (goal.at.returns-then-days-gt-MOST_DAYS c).In_ok-k) (omega (arith, c.if-days-gt-MOST_DAYS.true)))

pub returns-then-not-is_allowed : goal.returns-then-not-is_allowed
returns-then-not-is_allowed c =
    let a = c.args in
    let x = date a.year a.month a.day in
    let n = number (goal.at.returns-then-not-is_allowed c).In_ok-k in
    refused x (test_of x c.in_ok-k.k n c.if-k-lt-FIRST.false c.if-days-gt-MOST_DAYS.false ∙ (sym c.is_allowed.ensures ∙ c.if-not-is_allowed.true))

pub returns : goal.returns
returns c =
    let a = c.args in
    let x = date a.year a.month a.day in
    let k = c.in_ok-k.k in
    let n = number (goal.at.returns c).In_ok-k in
    given x (k - 9223372036854634381) (test_of x k n c.if-k-lt-FIRST.false c.if-days-gt-MOST_DAYS.false ∙ (sym c.is_allowed.ensures ∙ c.if-not-is_allowed.false)) (days_are x k n c.if-k-lt-FIRST.false c.if-days-gt-MOST_DAYS.false)
