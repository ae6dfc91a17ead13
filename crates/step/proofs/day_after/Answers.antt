-- `step::day_after` meets its contract: the month that is reached lies in the years, so nothing is lost below 0.
use mathlib.Core.Path.{◌≡◌, ap, ◌∙◌}
use mathlib.Core.Bool.{true}
use Prim.Native.Nat.{ℕ, ◌+◌, ◌-◌, ◌*◌, ◌<◌, ◌≤◌}
use native.Mathlib.Omega.{arith}
use lib.IntN.{ℤ}
use mir.Syntax.{w64}
use mir.ValLaws.{to_z-of_z}
use Rattle.signed.specs.Bias.{unbiased}
use Rattle.signed.proofs.Machine.{crossed}
use Rattle.calendar.specs.Calendar.{exists, date_of, in_years}
use Rattle.step.specs.Closed.{month_at, month_count, months_of}
use Rattle.step.specs.Steps.{date_down, date_after}
use Rattle.step.proofs.Answering.{raised_is, month_inside, count_small, date_at_lem, Inside, inside}
use Rattle.step.proofs.Existing.{dates_there}
use borrow.Author.Rules.{rules}
use Rattle.step.proofs.day_after.Goals as goal
use Rattle.step.proofs.day_after.Goals.{After-biased}

module _ (b : After-biased) where
  abbrev k : ℕ
  k = b.biased.result

  offset_is : unbiased k ≡ b.args.n
  offset_is = crossed b.args.n k b.ranges.n b.biased.ensures

  known : (z : ℤ) → z ≡ b.args.n → in_years (date_after b.args.part b.args.c z b.args.x).year ≡ true
  known z e = ap (λ (n : ℤ). in_years (date_after b.args.part b.args.c n b.args.x).year) e ∙ b.requires.1

  near : (9223372036854535808 ≤ k) × (k < 9223372036855015808)
  near =
      let w = (inside b.args.c b.args.x b.args.y b.requires.0 b.args.part k 9223372036854775808 (known (unbiased k) offset_is)).few in
      (omega arith, omega arith)

  -- the number of steps, raised by 240000
  abbrev steps : ℕ
  steps = k - 9223372036854535808

  raised : Inside b.args.c b.args.x b.args.y b.requires.0 b.args.part steps 240000
  raised = inside b.args.c b.args.x b.args.y b.requires.0 b.args.part steps 240000 (known _ (raised_is k near.0 ∙ offset_is))

  -- the month that is reached
  module _ (i j : ℕ) (counted : i ≡ month_count b.args.y b.args.x.month) (after : j + 240000 * months_of b.args.part ≡ i + 2880000 + steps * months_of b.args.part) where
    reached : j + 240000 * months_of b.args.part ≡ month_count b.args.y b.args.x.month + 2880000 + steps * months_of b.args.part
    reached = after ∙ ap (λ (i : ℕ). i + 2880000 + steps * months_of b.args.part) counted

    date_is : date_down b.args.c (month_at b.args.c (j - 2880000)) b.args.x.day ≡ date_after b.args.part b.args.c b.args.n b.args.x
    date_is =
        date_at_lem b.args.c b.args.x b.args.y b.requires.0 b.args.part steps 240000 (j - 2880000) (omega (arith, reached, raised.from))
        ∙ ap (λ (z : ℤ). date_after b.args.part b.args.c z b.args.x) (raised_is k near.0 ∙ offset_is)

pub month_count-requires : goal.month_count-requires
month_count-requires c = month_inside c.args.c c.args.x c.args.y c.requires.0

pub month_after-j-requires : goal.month_after-j-requires
month_after-j-requires c =
    (omega (arith, c.month_count.ensures, count_small c.args.c c.args.x c.args.y c.requires.0), near (goal.at.month_after-j-requires c).After-biased)

pub overflow_sub-j : goal.overflow_sub-j
overflow_sub-j c =
    let b = (goal.at.overflow_sub-j c).After-biased in
    omega (arith, reached b _ _ c.month_count.ensures c.month_after-j.ensures, (raised b).from)

pub day_in-requires : goal.day_in-requires
day_in-requires c =
    let a = c.args in
    let b = (goal.at.day_in-requires c).After-biased in
    let r = reached b _ _ c.month_count.ensures c.month_after-j.ensures in
    (omega (arith, r, (raised b).from), (omega (arith, r, (raised b).to), ap (exists a.c) (date_is b _ _ c.month_count.ensures c.month_after-j.ensures) ∙ dates_there a.c a.part a.x c.requires.0.date.there a.n))

pub returns : goal.returns
returns c =
    let d = c.day_in in
    let b = (goal.at.returns c).After-biased in
    ap (date_of c.args.c) (to_z-of_z w64 d.result.number (search rules)) ∙ (d.ensures.dated ∙ date_is b _ _ c.month_count.ensures c.month_after-j.ensures)
