-- `tt2000::write_found` meets its contract.
use mathlib.Core.Path.{◌≡◌, sym, ap, ◌∙◌}
use mathlib.Core.Bool.{Bool, true}
use mathlib.Core.List.{List}
use Prim.Native.Nat.{ℕ, ◌+◌, ◌-◌}
use native.Mathlib.Omega.{arith}
use lib.IntN.{ℤ, pos}
use lib.Dec.{ltb}
use lib.Signed.{lt_z}
use borrow.Author.Tests.{lt-ltb, le-ltb}
use Rattle.signed.specs.Bias.{unbiased}
use Rattle.signed.proofs.Tests.{and_parts}
use Rattle.signed.proofs.Machine.{crossed}
use Rattle.signed.proofs.Differences.{sub_lt, sub_high, sub_inj, same_diff}
use Rattle.calendar.specs.Calendar.{date, date_of, exists, in_years}
use Rattle.calendar.specs.Order.{earlier}
use Rattle.calendar.specs.declared.Calendar.TheVariants.{ProlepticGregorian}
use Rattle.calendar.specs.declared.Date.{Date}
use Rattle.calendar.proofs.Range.{near}
use Rattle.leap_seconds.specs.Leaps.{leaps}
use Rattle.tt2000.specs.Tt2000.{date_of_utc, tt_of, day_second, limited}
use Rattle.tt2000.specs.declared.UtcFields.{UtcFields}
use Rattle.tt2000.proofs.Writing.{too_early, on_day_lem, before_1972}
use Rattle.tt2000.proofs.write_found.Goals as goal
use Rattle.tt2000.proofs.write_found.Goals.{After-biased-k}

-- the day number n is k - 2^63
module _ (c : After-biased-k) where
  abbrev s : List ℕ
  s = c.args.list.bytes.now

  abbrev f : UtcFields
  f = c.args.f

  abbrev n : ℤ
  n = c.args.n

  abbrev k : ℕ
  k = c.biased-k.result

  day_is : unbiased k ≡ n
  day_is = crossed n k c.ranges.n c.biased-k.ensures

  found : (in_years f.year ≡ true) × (exists ProlepticGregorian (date_of_utc f) ≡ true)
  found = and_parts (in_years f.year) (exists ProlepticGregorian (date_of_utc f)) c.requires.1

  dated : date_of ProlepticGregorian n ≡ date_of_utc f
  dated = c.requires.2

  early : {t : Bool} → ltb k (9223372036854775808 + 730) ≡ t → earlier (date_of_utc f) (date (pos 1972) 1 1) ≡ t
  early h = before_1972 (date_of_utc f) n dated ∙ (ap (λ (z : ℤ). lt_z z (pos 730)) (sym day_is) ∙ (sub_lt k (9223372036854775808 + 730) 9223372036854775808 ∙ h))

pub returns-then-k : goal.returns-then-k
returns-then-k c =
    let b = (goal.at.returns-then-k c).After-biased-k in
    sym (too_early (s b) (f b) b.args.list.good b.requires.0 (found b).1 (early b (lt-ltb (k b) 9223372036854776538 c.if-k.true)))

pub tt2000_on-requires : goal.tt2000_on-requires
tt2000_on-requires c =
    let b = (goal.at.tt2000_on-requires c).After-biased-k in
    let z = near ProlepticGregorian (n b) (ap (λ (x : Date). in_years x.year) (dated b) ∙ (found b).0) in
    let e = sub_inj (k b) (z.number + 9223372036849775808) 9223372036854775808 (day_is b ∙ (sym z.is ∙ same_diff z.number 5000000 (z.number + 9223372036849775808) 9223372036854775808 (omega arith))) in
    (b.requires.0, omega (arith, c.if-k.false), omega (arith, z.low))

pub returns : goal.returns
returns c =
    let b = (goal.at.returns c).After-biased-k in
    let late = early b (le-ltb (k b) 9223372036854776538 c.if-k.false) in
    let e : pos (k b - 9223372036854775808) ≡ n b = sym (sub_high (k b) 9223372036854775808 (omega (arith, c.if-k.false))) ∙ day_is b in
    c.tt2000_on.ensures
    ∙ (ap (λ (z : ℤ). limited (tt_of (leaps (s b)) z (day_second (f b)) (f b).nanosecond)) e
    ∙ sym (on_day_lem (s b) (f b) b.args.list.good b.requires.0 (found b).1 (n b) late (found b).0 (dated b)))
