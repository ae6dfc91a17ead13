-- `tt2000::refusal_of` meets its contract.
use mathlib.Core.Path.{◌≡◌, sym, ap, ◌∙◌}
use mathlib.Core.Bool.{Bool, true, false, ◌&&◌, true≢false}
use lib.IntN.{ℤ, pos}
use lib.Signed.{lt_z}
use mir.Syntax.{w64}
use mir.Val.{SFits, to_z, of_z}
use mir.ValLaws.{to_z-of_z}
use borrow.Author.Rules.{rules}
use Rattle.signed.proofs.Tests.{both, to_false}
use Rattle.calendar.specs.Calendar.{date, exists, in_years}
use Rattle.calendar.specs.Order.{earlier}
use Rattle.calendar.specs.Answers.{is_possible}
use Rattle.calendar.specs.declared.Calendar.TheVariants.{ProlepticGregorian}
use Rattle.calendar.specs.declared.Date.{Date}
use Rattle.tt2000.proofs.Writing.{impossible_date, missing, too_early, too_late, negative_year, positive_year}
use Rattle.tt2000.proofs.refusal_of.Goals as goal

pub returns-then-not-is_possible : goal.returns-then-not-is_possible
returns-then-not-is_possible c =
    λ s f good time e. sym (impossible_date s f good (ap (λ (y : Date). is_possible y.month y.day) e ∙ (sym c.is_possible.ensures ∙ c.if-not-is_possible.true)))

pub returns-then-not-exists_in_any_year : goal.returns-then-not-exists_in_any_year
returns-then-not-exists_in_any_year c =
    let possible = sym c.is_possible.ensures ∙ c.if-not-is_possible.false in
    let there = sym c.exists_in_any_year.ensures ∙ c.if-not-exists_in_any_year.true in
    λ s f good time e. sym (missing s f good time (ap (λ (y : Date). is_possible y.month y.day) e ∙ possible) (ap (exists ProlepticGregorian) e ∙ there))

-- a date that exists in some year
module _ (x : Date) (there : exists ProlepticGregorian x ≡ true) where
  year_test : SFits w64 x.year → {t : Bool} → lt_z (to_z w64 (of_z w64 x.year)) (pos 0) ≡ t → lt_z x.year (pos 0) ≡ t
  year_test fits h = ap (λ (z : ℤ). lt_z z (pos 0)) (sym (to_z-of_z w64 x.year fits)) ∙ h

  outside : (in_years x.year && exists ProlepticGregorian x) ≡ false → in_years x.year ≡ false
  outside r = to_false (in_years x.year) (λ h. true≢false (sym (both (in_years x.year) (exists ProlepticGregorian x) h there) ∙ r))

pub returns-then-x-lt0 : goal.returns-then-x-lt0
returns-then-x-lt0 c =
    let x = c.args.x in
    let there = sym c.exists_in_any_year.ensures ∙ c.if-not-exists_in_any_year.false in
    λ s f good time e. sym (too_early s f good time (ap (exists ProlepticGregorian) e ∙ there) (ap (λ (d : Date). earlier d (date (pos 1972) 1 1)) e ∙ negative_year x.year x.month x.day (year_test x there (search rules) c.if-x-lt0.true)))

pub returns : goal.returns
returns c =
    let x = c.args.x in
    let there = sym c.exists_in_any_year.ensures ∙ c.if-not-exists_in_any_year.false in
    let out = outside x there c.requires in
    λ s f good time e. sym (too_late s f good time (ap (exists ProlepticGregorian) e ∙ there) (ap (λ (d : Date). earlier d (date (pos 1972) 1 1)) e ∙ positive_year x.year x.month x.day out (year_test x there (search rules) c.if-x-lt0.false)) (ap (λ (d : Date). in_years d.year) e ∙ out))
