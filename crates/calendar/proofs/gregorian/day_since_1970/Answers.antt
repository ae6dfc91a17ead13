-- `calendar::gregorian::day_since_1970` meets its contract.
use mathlib.Core.Path.{◌≡◌, refl, sym, ap, ◌∙◌}
use mathlib.Core.Bool.{Bool, true, true≢false}
use Prim.Native.Nat.{ℕ, ◌+◌, ◌-◌, ◌<◌, ◌≤◌, ◌^◌}
use native.Mathlib.Omega.{arith}
use lib.IntN.{pos}
use mir.Syntax.{w64}
use mir.Val.{SFits}
use Rattle.signed.specs.Bias.{unbiased}
use Rattle.signed.proofs.Differences.{same_diff}
use Rattle.signed.proofs.Machine.{crossed}
use Rattle.calendar.specs.Calendar.{date, exists, date_of}
use Rattle.calendar.specs.Closed.{count, day_place, has_day_at, year_at}
use Rattle.calendar.specs.declared.Calendar.TheVariants.{ProlepticGregorian}
use Rattle.calendar.specs.declared.Date.{Date}
use Rattle.calendar.specs.Answers.{is_possible}
use Rattle.calendar.specs.declared.rule.Rule.{Rule}
use Rattle.calendar.proofs.Ordered.{date_eq}
use Rattle.calendar.proofs.Existing.{exists_possible, possible_parts}
use Rattle.calendar.proofs.Counting.{gregorian_has}
use Rattle.calendar.proofs.AnyYear.{year_of_day, from_1970, day_number_lem}
use Rattle.calendar.proofs.Theorems.{dates_exist}
use borrow.Author.Rules.{rules}
use Rattle.calendar.proofs.gregorian.day_since_1970.Goals as goal
use Rattle.calendar.proofs.gregorian.day_since_1970.Goals.{After-biased-k, After-days_before, Else-not-has_day}

-- the year, from its number biased by 2^63, where the date has a day number
module _ (b : After-biased-k) where
  abbrev x : Date
  x = b.args.x

  abbrev k : ℕ
  k = b.biased-k.result

  year_is : unbiased k ≡ x.year
  year_is =
      let r = x.year in
      let f : SFits w64 r = search rules in
      crossed r k f b.biased-k.ensures

  bounds : (n : ℕ) → n < 2 ^ 63 → date_of ProlepticGregorian (pos n) ≡ x → (9223372036854775808 + 1970 ≤ k) × (k < 9223372036854775808 + 2 ^ 55 - 10000)
  bounds n h e = year_of_day n k h (ap (λ (d : Date). d.year) e ∙ sym year_is)

pub returns-then-k : goal.returns-then-k
returns-then-k c n h e = omega (arith, c.if-k.true, bounds (goal.at.returns-then-k c).After-biased-k n h e)

pub returns-then-k-2 : goal.returns-then-k-2
returns-then-k-2 c n h e = omega (arith, c.if-k-2.true, bounds (goal.at.returns-then-k-2 c).After-biased-k n h e)

-- whether the date x exists, by the count of its year, which is k - 2^63
module _ (x : Date) (k : ℕ) (is : unbiased k ≡ x.year) (from : 9223372036854777778 ≤ k) where
  abbrev y : ℕ
  y = k - 9223372036854765808

  late : 11970 ≤ y
  late = omega arith

  written : date (year_at true y) x.month x.day ≡ x
  written = date_eq (same_diff y 10000 k 9223372036854775808 (omega arith) ∙ is) refl refl

  there : (r : Bool) {t : Bool} → r ≡ has_day_at Rule.Gregorian y x.month x.day → r ≡ t → exists ProlepticGregorian (date (year_at true y) x.month x.day) ≡ t
  there r e h = gregorian_has y x.month x.day ∙ (sym e ∙ h)

pub returns-then-not-has_day : goal.returns-then-not-has_day
returns-then-not-has_day c n h e =
    let x = c.args.x in
    let k = c.biased-k.result in
    let i = year_is (goal.at.returns-then-not-has_day c).After-biased-k in
    true≢false
    (sym (dates_exist ProlepticGregorian (pos n))
    ∙ (ap (exists ProlepticGregorian) (e ∙ sym (written x k i c.if-k.false)) ∙ there x k i c.if-k.false c.has_day.result c.has_day.ensures c.if-not-has_day.true))

-- a date that exists
module _ (e : Else-not-has_day) where
  exists_it : exists ProlepticGregorian (date (year_at true (e.biased-k.result - 9223372036854765808)) e.args.x.month e.args.x.day) ≡ true
  exists_it = gregorian_has (e.biased-k.result - 9223372036854765808) e.args.x.month e.args.x.day ∙ (sym e.has_day.ensures ∙ e.if-not-has_day.false)

  possible : is_possible e.args.x.month e.args.x.day ≡ true
  possible = exists_possible ProlepticGregorian (date (year_at true (e.biased-k.result - 9223372036854765808)) e.args.x.month e.args.x.day) exists_it

pub place_at-p-requires : goal.place_at-p-requires
place_at-p-requires c = possible c

pub days_before-requires : goal.days_before-requires
days_before-requires c =
    let x = c.args.x in
    let w = possible_parts x.month x.day (possible (goal.at.days_before-requires c).Else-not-has_day) in
    rw c.place_at-p.ensures (omega arith, (omega (arith, w), omega (arith, w)))

-- its days
counted : (c : After-days_before) → c.days_before.result ≡ count Rule.Gregorian (day_place (c.biased-k.result - 9223372036854765808) c.args.x.month c.args.x.day)
counted c = c.days_before.ensures ∙ ap (count Rule.Gregorian) c.place_at-p.ensures

pub overflow_sub-result : goal.overflow_sub-result
overflow_sub-result c =
    let x = c.args.x in
    let k = c.biased-k.result in
    let l : 11970 ≤ k - 9223372036854765808 = omega (arith, c.if-k.false) in
    omega (arith, c.epoch_day.ensures, counted (goal.at.overflow_sub-result c).After-days_before, from_1970 (k - 9223372036854765808) x.month x.day l)

pub returns : goal.returns
returns c =
    let x = c.args.x in
    let k = c.biased-k.result in
    let l : 11970 ≤ k - 9223372036854765808 = omega (arith, c.if-k.false) in
    let n = counted (goal.at.returns c).After-days_before in
    (λ i. date_of ProlepticGregorian (pos (n i - c.epoch_day.ensures i)))
    ∙ (day_number_lem (k - 9223372036854765808) x.month x.day l (exists_it (goal.at.returns c).Else-not-has_day)
    ∙ written x k (year_is (goal.at.returns c).After-biased-k) c.if-k.false)
