-- `step::year_of` meets its contract: the calendar has the year of a date that exists.
use Rattle.std.specs.Prelude.{Option, Some, None, ℕ, IsSome}
use mathlib.Core.Path.{◌≡◌, refl, sym, ◌∙◌, subst}
use mathlib.Core.Bool.{true≢false}
use mir.Syntax.{w64}
use mir.Val.{SFits}
use Rattle.signed.specs.Bias.{unbiased}
use Rattle.signed.proofs.Machine.{crossed}
use Rattle.calendar.specs.Closed.{Counted}
use Rattle.calendar.proofs.Existing.{valid_of, valid_year, no_year_lem}
use borrow.Author.Rules.{rules}
use Rattle.step.proofs.year_of.Goals as goal
use Rattle.step.proofs.year_of.Goals.{After-biased, After-year_count}

module _ (b : After-biased) where
  year_is : unbiased b.biased.result ≡ b.args.x.year
  year_is = let f : SFits w64 b.args.x.year = search rules in crossed b.args.x.year b.biased.result f b.biased.ensures

told : (n : After-year_count) (r : Option ℕ) → n.year_count.result ≡ r → Counted n.has_year_zero.result (unbiased n.biased.result) r
told n r e = subst (Counted n.has_year_zero.result (unbiased n.biased.result)) e n.year_count.ensures

pub unwrap-requires : goal.unwrap-requires
unwrap-requires c = go c.year_count.result refl
  where
    go : (r : Option ℕ) → c.year_count.result ≡ r → IsSome r
    go (Some y) e = refl
    go None e =
        let n = (goal.at.unwrap-requires c).After-year_count in
        let a = c.args in
        let h = told n None e in
        absurd (true≢false (sym (no_year_lem a.c a.x.year (sym n.has_year_zero.ensures ∙ h.0) (sym (year_is (goal.at.unwrap-requires c).After-biased) ∙ h.1)) ∙ valid_year a.c a.x (valid_of a.c a.x c.requires.there)))
