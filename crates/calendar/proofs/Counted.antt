-- A date by the count of its year from -10000, as `year_count` gives it.
use Rattle.std.specs.Prelude.{Option, Some, None}
use mathlib.Core.Path.{◌≡◌, refl, sym, ap, ◌∙◌, subst}
use mathlib.Core.Bool.{Bool, true, true≢false}
use Prim.Native.Nat.{ℕ, ◌≤◌, ◌<◌}
use native.Mathlib.Omega.{arith}
use lib.Dec.{leb}
use borrow.Author.Tests.{leb-true}
use Rattle.signed.specs.Bias.{unbiased}
use Rattle.signed.proofs.Tests.{and_parts}
use Rattle.calendar.specs.Calendar.{has_year_zero, in_years, date}
use Rattle.calendar.specs.Closed.{year_at, Counted}
use Rattle.calendar.specs.declared.Calendar.{Calendar}
use Rattle.calendar.specs.declared.Date.{Date}
use Rattle.calendar.proofs.Existing.{date_eq, no_year_lem, Valid}
use Rattle.calendar.proofs.Labels.{first_year, first_low, year_in}
use Rattle.calendar.proofs.Answering.{year_biased}

-- the year x .year is k - 2^63, in the years -9999 to 9999
module _ (c : Calendar) (x : Date) (k : ℕ) (is : unbiased k ≡ x.year) (inside : in_years x.year ≡ true) where
  pub year_bounds : (9223372036854765809 ≤ k) × (k ≤ 9223372036854785807)
  year_bounds =
      let w = and_parts (leb 9223372036854765809 k) (leb k 9223372036854785807) (sym (year_biased k) ∙ (ap in_years is ∙ inside)) in
      (leb-true 9223372036854765809 k w.0, leb-true k 9223372036854785807 w.1)

  -- z tells whether there is a year 0, and r what the count of the year is
  module _ (z : Bool) (e : z ≡ has_year_zero c) (r : Option ℕ) (h : Counted z (unbiased k) r) where
    pub no_count : r ≡ None → Valid c x → ⊥
    no_count m v =
        let told : Counted z (unbiased k) None = subst (Counted z (unbiased k)) m h in
        true≢false (sym (no_year_lem c x.year (sym e ∙ told.0) (sym is ∙ told.1)) ∙ v.there)

    module _ (n : ℕ) (m : r ≡ Some n) where
      count_is : year_at (has_year_zero c) n ≡ x.year
      count_is =
          let told : Counted z (unbiased k) (Some n) = subst (Counted z (unbiased k)) m h in
          ap (λ (t : Bool). year_at t n) (sym e) ∙ (told ∙ is)

      pub date_is : date (year_at (has_year_zero c) n) x.month x.day ≡ x
      date_is = date_eq count_is refl refl

      pub count_low : (1 ≤ n) × (n < 2147483648)
      count_low =
          let y = has_year_zero c in
          let w = and_parts (leb (first_year y) n) (leb n 19999) (sym (year_in y n) ∙ (ap in_years count_is ∙ inside)) in
          (omega (arith, first_low y, leb-true (first_year y) n w.0), omega (arith, leb-true n 19999 w.1))
