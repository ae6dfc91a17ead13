-- `step::day_reached` meets its contract: the tests are those of the month that is reached.
use Rattle.std.specs.Prelude.{Result, Err}
use mathlib.Core.Path.{◌≡◌, refl, sym, ap, ◌∙◌}
use mathlib.Core.Bool.{true, false}
use Prim.Native.Nat.{ℕ, ◌+◌, ◌-◌, ◌*◌, ◌<◌, ◌≤◌}
use native.Mathlib.Omega.{arith}
use lib.IntN.{ℤ, sub_ℕ}
use Rattle.refusal.specs.declared.Refusal.TheVariants.{OutOfRange}
use Rattle.signed.specs.Bias.{unbiased}
use Rattle.signed.proofs.Machine.{crossed}
use Rattle.calendar.specs.Calendar.{has_year_zero, exists, in_years}
use Rattle.calendar.specs.Answers.{day_answer}
use Rattle.calendar.specs.declared.Date.{Date}
use Rattle.calendar.proofs.Labels.{first_low, first_year}
use Rattle.calendar.proofs.Answering.{year_out, date_there}
use Rattle.step.specs.Answers.{stepped_back}
use Rattle.step.specs.Closed.{month_at, month_count, months_of}
use Rattle.step.specs.Steps.{steps_down, date_down, date_after, days_back}
use Rattle.step.proofs.Answering.{far_below, far_above, raised_is, month_inside, count_small, date_at_lem, back_at, year_before_lem, year_past, year_between}
use Rattle.step.proofs.Existing.{dates_there}
use Rattle.step.proofs.day_reached.Goals as goal
use Rattle.step.proofs.day_reached.Goals.{After-biased-k, then-k-via-then-k, then-k-via-else-k+then-k-2, then-j-first_year-via-then-j-first_year, then-j-first_year-via-else-j-first_year+then-j}
use Rattle.refusal.specs.declared.Refusal.{Refusal}

module _ (b : After-biased-k) where
  abbrev k : ℕ
  k = b.biased-k.result

  abbrev moved : ℤ → Date
  moved z = date_after b.args.part b.args.c z b.args.x

  abbrev count : ℕ
  count = month_count b.args.y b.args.x.month

  small : count < 240000
  small = count_small b.args.c b.args.x b.args.y b.requires

  offset_is : unbiased k ≡ b.args.n
  offset_is = crossed b.args.n k b.ranges.n b.biased-k.ensures

  abbrev back : ℤ → ℕ
  back z = days_back b.args.part b.args.c z b.args.x

  -- a date past the years is refused
  past : (z : ℤ) → z ≡ unbiased k → in_years (moved z).year ≡ false → Err OutOfRange ≡ stepped_back (day_answer b.args.c (moved b.args.n)) (back b.args.n)
  past z e h = ap (λ (a : Result ℤ Refusal). stepped_back a (back b.args.n)) (year_out true b.args.c (moved z) h ∙ ap (λ (u : ℤ). day_answer b.args.c (moved u)) (e ∙ offset_is))

  abbrev steps : ℕ
  steps = k - 9223372036854535808

  -- the month that is reached
  module _ (near : 9223372036854535808 ≤ k) (i j : ℕ) (counted : i ≡ count) (after : j + 240000 * months_of b.args.part ≡ i + 2880000 + steps * months_of b.args.part) where
    steps_is : sub_ℕ steps 240000 ≡ unbiased k
    steps_is = raised_is k near

    reached : j + 240000 * months_of b.args.part ≡ count + 2880000 + steps * months_of b.args.part
    reached = after ∙ ap (λ (i : ℕ). i + 2880000 + steps * months_of b.args.part) counted

    -- where it lies in the years
    module _ (first : ℕ) (first_is : first ≡ first_year (has_year_zero b.args.c)) (low : 2880000 + 12 * first ≤ j) (high : j < 3120000) where
      abbrev date : Date
      date = moved b.args.n

      abbrev month : ℕ
      month = j - 2880000

      month_is : month + 240000 * months_of b.args.part ≡ count + steps * months_of b.args.part
      month_is = omega (arith, reached)

      date_is : date_down b.args.c (month_at b.args.c month) b.args.x.day ≡ date
      date_is = date_at_lem b.args.c b.args.x b.args.y b.requires b.args.part steps 240000 month month_is ∙ ap moved (steps_is ∙ offset_is)

      back_is : steps_down b.args.c (month_at b.args.c month).year (month_at b.args.c month).month b.args.x.day ≡ back b.args.n
      back_is = back_at b.args.c b.args.x b.args.y b.requires b.args.part steps 240000 month month_is ∙ ap back (steps_is ∙ offset_is)

      there : exists b.args.c date ≡ true
      there = dates_there b.args.c b.args.part b.args.x b.requires.date.there b.args.n

      inside : in_years date.year ≡ true
      inside =
          ap (λ (z : ℤ). in_years (moved z).year) (sym (steps_is ∙ offset_is))
          ∙ year_between b.args.c b.args.x b.args.y b.requires b.args.part steps 240000 (omega (arith, reached)) (omega (arith, reached))

pub returns-then-k : goal.returns-then-k
returns-then-k c =
    let b = (goal.at.returns-then-k c).After-biased-k in
    let a = c.args in
    past b (unbiased (k b)) refl
    (elim c.then-k.branch [
      | then-k-via-then-k w ↦ year_before_lem a.c a.x a.y c.requires a.part (k b) 9223372036854775808 (omega (arith, far_below a.part (count b) (k b) (small b) w.if-k.true))
      | then-k-via-else-k+then-k-2 w ↦ year_past a.c a.x a.y c.requires a.part (k b) 9223372036854775808 (far_above a.part (count b) (k b) w.if-k-2.true)
    ])

pub month_count-requires : goal.month_count-requires
month_count-requires c = let a = c.args in month_inside a.c a.x a.y c.requires

pub month_after-j-requires : goal.month_after-j-requires
month_after-j-requires c = (omega (arith, c.month_count.ensures, small (goal.at.month_after-j-requires c).After-biased-k), (c.if-k.false, c.if-k-2.false))

pub returns-then-j-first_year : goal.returns-then-j-first_year
returns-then-j-first_year c =
    let a = c.args in
    let b = (goal.at.returns-then-j-first_year c).After-biased-k in
    let r = reached b c.if-k.false _ _ c.month_count.ensures c.month_after-j.ensures in
    past b (sub_ℕ (steps b) 240000) (steps_is b c.if-k.false _ _ c.month_count.ensures c.month_after-j.ensures)
    (elim c.then-j-first_year.branch [
      | then-j-first_year-via-then-j-first_year w ↦ year_before_lem a.c a.x a.y c.requires a.part (steps b) 240000 (omega (arith, r, c.first_year.ensures.0, w.if-j-first_year.true))
      | then-j-first_year-via-else-j-first_year+then-j w ↦ year_past a.c a.x a.y c.requires a.part (steps b) 240000 (omega (arith, r, w.if-j.true))
    ])

pub day_in-requires : goal.day_in-requires
day_in-requires c =
    let b = (goal.at.day_in-requires c).After-biased-k in
    let dated = date_is b c.if-k.false _ _ c.month_count.ensures c.month_after-j.ensures _ c.first_year.ensures.0 c.if-j-first_year.false c.if-j.false in
    let held = there b c.if-k.false _ _ c.month_count.ensures c.month_after-j.ensures _ c.first_year.ensures.0 c.if-j-first_year.false c.if-j.false in
    (omega (arith, c.first_year.ensures.0, first_low (has_year_zero c.args.c), c.if-j-first_year.false), (omega (arith, c.if-j.false), ap (exists c.args.c) dated ∙ held))

pub returns : goal.returns
returns c =
    let b = (goal.at.returns c).After-biased-k in
    let d = c.day_in in
    let dated = date_is b c.if-k.false _ _ c.month_count.ensures c.month_after-j.ensures _ c.first_year.ensures.0 c.if-j-first_year.false c.if-j.false in
    let held = there b c.if-k.false _ _ c.month_count.ensures c.month_after-j.ensures _ c.first_year.ensures.0 c.if-j-first_year.false c.if-j.false in
    let within = inside b c.if-k.false _ _ c.month_count.ensures c.month_after-j.ensures _ c.first_year.ensures.0 c.if-j-first_year.false c.if-j.false in
    let stepped = back_is b c.if-k.false _ _ c.month_count.ensures c.month_after-j.ensures _ c.first_year.ensures.0 c.if-j-first_year.false c.if-j.false in
    λ i. stepped_back
    ((date_there c.args.c (date_after c.args.part c.args.c c.args.n c.args.x) d.result.number within held (d.ensures.dated ∙ dated)) i)
    ((d.ensures.back ∙ stepped) i)
