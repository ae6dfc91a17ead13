-- `offset_text::double_of` meets its contract: the patterns above that of infinity, without their sign, are those of NaNs.
use mathlib.Core.Path.{◌≡◌, refl, sym, ◌∙◌}
use mathlib.Core.Bool.{true, false}
use lib.Ieee.{Float, nan, inf, fin, binary64, is_nan, nan_bits, of_bits, of_fields, odd, div}
use lib.Ieee.Bits.{nan_bits_is, nan_bits_above}
use borrow.Author.Tests.{lt-ltb, le-ltb}
use Rattle.grammar.proofs.Tests.{clash}
use Rattle.offset_text.proofs.double_of.Goals as goal

no_number : (x : Float) → is_nan x ≡ true → nan ≡ x
unfolding is_nan
no_number nan e = refl
no_number (inf s) e = clash e refl
no_number (fin s m e) h = clash h refl

zero_by_zero : div binary64 (of_bits binary64 0) (of_bits binary64 0) ≡ nan
unfolding div of_bits of_fields odd
zero_by_zero = refl

pub returns-then-n-gt9218868437227405312 : goal.returns-then-n-gt9218868437227405312
returns-then-n-gt9218868437227405312 c =
    let n = c.args.n in
    zero_by_zero ∙ no_number (of_bits binary64 n) (sym (nan_bits_is binary64 n) ∙ (nan_bits_above binary64 n ∙ lt-ltb _ _ c.if-n-gt9218868437227405312.true))

pub float_from_bits-result : goal.float_from_bits-result
float_from_bits-result c =
    let n = c.args.n in
    let e : nan_bits binary64 n ≡ false = nan_bits_above binary64 n ∙ le-ltb _ _ c.if-n-gt9218868437227405312.false in
    rw e tt
