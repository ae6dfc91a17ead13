-- A year's sign and digits.
use Rattle.std.specs.Prelude.{Ok}
use Prim.Native.Nat.{ℕ, suc, ◌-◌, ◌≤◌, ◌<◌}
use native.Mathlib.Omega.{arith}
use mathlib.Core.Path.{◌≡◌, refl, sym, ap, ◌∙◌}
use mathlib.Core.Bool.{true}
use lib.Dec.{leb}
use lib.IntN.{ℤ, pos, negsuc, nat_abs}
use lib.Signed.{lt_z}
use borrow.Author.Tests.{leb-true, le-ltb}
use Rattle.signed.specs.Bias.{unbiased}
use Rattle.signed.proofs.Differences.{sub_low, sub_high}
use Rattle.grammar.proofs.Tests.{and_parts}
use Rattle.calendar.specs.Calendar.{in_years}
use Rattle.calendar.specs.declared.Calendar.{Calendar}
use Rattle.instant.specs.Instant.{fields_answer}
use Rattle.instant.specs.declared.Fields.{Fields}
use Rattle.instant.proofs.Theorems.{shown}
use Rattle.iso_text.specs.Iso.{is_negative}

pub year_small : (y : ℤ) → in_years y ≡ true → nat_abs y ≤ 9999
year_small (pos n) h = leb-true n 9999 h
year_small (negsuc n) h = let l = leb-true n 9998 (and_parts (leb n 9998) true h).0 in omega arith

pub year_sign : (y : ℤ) → lt_z y (pos 0) ≡ is_negative y
year_sign (pos n) = le-ltb n 0 (omega arith)
year_sign (negsuc n) = refl

-- y is k - 2^63
module _ (y : ℤ) (k : ℕ) (e : unbiased k ≡ y) where
  pub abs_low : k < 9223372036854775808 → 9223372036854775808 - k ≡ nat_abs y
  abs_low h =
      let p : 9223372036854775808 - k ≡ suc (9223372036854775808 - suc k) = omega arith in
      p ∙ ap nat_abs (sym (sub_low k 9223372036854775808 h) ∙ e)

  pub abs_high : 9223372036854775808 ≤ k → k - 9223372036854775808 ≡ nat_abs y
  abs_high h = ap nat_abs (sym (sub_high k 9223372036854775808 h) ∙ e)

-- the year of an instant's fields
pub fields_year : (c : Calendar) (t : ℤ) (f : Fields) → fields_answer c t ≡ Ok f → in_years f.year ≡ true
fields_year c t f e = let v = shown c t f e in ap (λ (g : Fields). in_years g.year) (sym v.is) ∙ v.inside
