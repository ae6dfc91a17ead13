-- `calendar::refusal_with` meets its contract.
use mathlib.Core.Path.{◌≡◌, sym, ap, ◌∙◌}
use mathlib.Core.Bool.{Bool, true, false, ◌&&◌}
use mir.Syntax.{w64}
use mir.Val.{SFits}
use Rattle.signed.specs.Bias.{unbiased}
use Rattle.signed.proofs.Tests.{to_false, both, left_out, right_out}
use Rattle.signed.proofs.Machine.{crossed}
use Rattle.calendar.specs.Calendar.{in_years, dropped}
use Rattle.calendar.specs.Answers.{is_possible}
use Rattle.calendar.proofs.Existing.{valid_dropped}
use Rattle.calendar.proofs.Answering.{refused_past, refused_impossible, refused_dropped, refused_missing}
use Rattle.calendar.proofs.Counted.{no_count, date_is}
use borrow.Author.Rules.{rules}
use Rattle.calendar.proofs.refusal_with.Goals as goal
use Rattle.calendar.proofs.refusal_with.Goals.{After-in_years, After-is_dropped, After-year_count, Else-not-in_years, Else-not-is_possible}

-- the year, from its number biased by 2^63, and whether it lies in the years
year_is : (y : After-in_years) → unbiased y.biased-k.result ≡ y.args.x.year
year_is y =
    let r = y.args.x.year in
    let f : SFits w64 r = search rules in
    crossed r y.biased-k.result f y.biased-k.ensures

in_years_is : (y : After-in_years) {t : Bool} → y.in_years.result ≡ t → in_years y.args.x.year ≡ t
in_years_is y h = ap in_years (sym (year_is y)) ∙ (sym y.in_years.ensures ∙ h)

pub returns-then-not-in_years : goal.returns-then-not-in_years
returns-then-not-in_years c =
    refused_past c.args.rest c.args.c c.args.x (in_years_is (goal.at.returns-then-not-in_years c).After-in_years c.if-not-in_years.true)

pub returns-then-not-rest : goal.returns-then-not-rest
returns-then-not-rest c =
    let a = c.args in
    let i = in_years_is (goal.at.returns-then-not-rest c).After-in_years c.if-not-in_years.false in
    refused_impossible a.rest a.c a.x i (left_out a.rest (is_possible a.x.month a.x.day) c.if-not-rest.true)

pub returns-then-not-is_possible : goal.returns-then-not-is_possible
returns-then-not-is_possible c =
    let a = c.args in
    let i = in_years_is (goal.at.returns-then-not-is_possible c).After-in_years c.if-not-in_years.false in
    refused_impossible a.rest a.c a.x i (right_out a.rest (is_possible a.x.month a.x.day) (sym c.is_possible.ensures ∙ c.if-not-is_possible.true))

-- every field is possible
possible : (f : Else-not-is_possible) → (f.args.rest && is_possible f.args.x.month f.args.x.day) ≡ true
possible f =
    let x = f.args.x in
    both f.args.rest (is_possible x.month x.day) f.if-not-rest.false (sym f.is_possible.ensures ∙ f.if-not-is_possible.false)

pub returns-in-None : goal.returns-in-None
returns-in-None c =
    let a = c.args in
    let y = (goal.at.returns-in-None c).After-in_years in
    let i = in_years_is y c.if-not-in_years.false in
    let none_dropped : dropped a.c a.x ≡ false =
    to_false (dropped a.c a.x)
    (λ d. no_count a.c a.x c.biased-k.result (year_is y) i c.has_year_zero.result c.has_year_zero.ensures c.year_count.result c.year_count.ensures c.in-None.is (valid_dropped a.c a.x d)) in
    refused_missing a.rest a.c a.x i (possible (goal.at.returns-in-None c).Else-not-is_possible) none_dropped

pub returns-in-Some : goal.returns-in-Some
returns-in-Some c =
    let a = c.args in
    let y = (goal.at.returns-in-Some c).After-in_years in
    let i = in_years_is y c.if-not-in_years.false in
    let written = date_is a.c a.x c.biased-k.result (year_is y) i c.has_year_zero.result c.has_year_zero.ensures c.year_count.result c.year_count.ensures c.in-Some.y c.in-Some.is in
    let told : dropped a.c a.x ≡ true = ap (dropped a.c) (sym written) ∙ (sym c.is_dropped.ensures ∙ c.if-is_dropped.true) in
    refused_dropped a.rest a.c a.x i (possible (goal.at.returns-in-Some c).Else-not-is_possible) told

pub returns-in-Some-2 : goal.returns-in-Some-2
returns-in-Some-2 c =
    let a = c.args in
    let y = (goal.at.returns-in-Some-2 c).After-in_years in
    let i = in_years_is y c.if-not-in_years.false in
    let written = date_is a.c a.x c.biased-k.result (year_is y) i c.has_year_zero.result c.has_year_zero.ensures c.year_count.result c.year_count.ensures c.in-Some.y c.in-Some.is in
    let told : dropped a.c a.x ≡ false = ap (dropped a.c) (sym written) ∙ (sym c.is_dropped.ensures ∙ c.if-is_dropped.false) in
    refused_missing a.rest a.c a.x i (possible (goal.at.returns-in-Some-2 c).Else-not-is_possible) told
