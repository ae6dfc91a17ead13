-- `tt2000::utc_fields` meets its contract.
use mathlib.Core.Path.{◌≡◌, ap, ◌∙◌}
use Prim.Native.Nat.{◌+◌, ◌-◌}
use native.Mathlib.Omega.{arith}
use lib.IntN.{pos}
use mir.Syntax.{w64}
use mir.Val.{SFits}
use mir.ValLaws.{to_z-of_z}
use borrow.Author.Rules.{rules}
use Rattle.signed.proofs.Differences.{sub_high}
use Rattle.calendar.specs.Calendar.{date, date_of}
use Rattle.calendar.specs.declared.Calendar.TheVariants.{ProlepticGregorian}
use Rattle.calendar.proofs.Answering.{years_middle}
use Rattle.tt2000.specs.Tt2000.{utc_fields, utc_fields_at}
use Rattle.tt2000.proofs.utc_fields.Goals as goal
use Rattle.tt2000.proofs.utc_fields.Goals.{After-date_of_packed-x}

pub place_in_years-w-requires : goal.place_in_years-w-requires
place_in_years-w-requires c = years_middle ProlepticGregorian (c.args.m.day + 9223372036854775808) (omega arith) (omega (arith, c.requires.0))

-- the date of the day
dated : (c : After-date_of_packed-x) → c.date_of_packed-x.result ≡ date_of ProlepticGregorian (pos c.args.m.day)
dated c =
    let p = c.before in
    let day = p.args.m.day in
    let e : day + 9223372036854775808 - 9223372036854775808 ≡ day = omega arith in
    c.date_of_packed-x.ensures
    ∙ (p.place_in_years-w.ensures.dated
    ∙ ap (date_of ProlepticGregorian) (sub_high (day + 9223372036854775808) 9223372036854775808 (omega arith) ∙ ap pos e))

pub returns : goal.returns
unfolding utc_fields_at
returns c =
    let m = c in
    let d = (goal.at.returns c).After-date_of_packed-x in
    let a = m.args in
    let x = d.date_of_packed-x.result in
    let fits : SFits w64 x.year = search rules in
    (λ i. utc_fields (date (to_z-of_z w64 x.year fits i) x.month x.day) m.minute_of-minute.result a.m.second a.n)
    ∙ (λ i. utc_fields (dated d i) (m.minute_of-minute.ensures i) a.m.second a.n)
