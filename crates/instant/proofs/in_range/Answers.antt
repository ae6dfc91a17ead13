-- `instant::in_range` meets its contract. proofs/Range.antt has the interval.
use mathlib.Core.Path.{◌≡◌, sym, ◌∙◌}
use mathlib.Core.Bool.{Bool}
use lib.IntN.{ℤ}
use lib.Signed.{lt_z, le_z}
use mir.Syntax.{w64}
use mir.Val.{to_z, of_z, SFits}
use mir.ValLaws.{to_z-of_z}
use Rattle.instant.proofs.Range.{lo, hi, early, middle, late}
use Rattle.instant.proofs.in_range.Goals as goal

tested : (t : ℤ) → SFits w64 t → (z : ℤ) {s : Bool} → lt_z (to_z w64 (of_z w64 t)) z ≡ s → lt_z t z ≡ s
tested t f z h = (λ i. lt_z (sym (to_z-of_z w64 t f) i) z) ∙ h

pub returns-then-t-ltminus345600000000000000 : goal.returns-then-t-ltminus345600000000000000
returns-then-t-ltminus345600000000000000 c =
    let a = c.args in
    let f = c.first_instant in
    let fit = c.ranges.t in
    (λ i. le_z ((to_z-of_z w64 f.result (record { sfits = f.type_inv }) ∙ f.ensures) i) (to_z-of_z w64 a.t fit i)) ∙ sym (early a.c a.t (tested a.t fit lo c.if-t-ltminus345600000000000000.true))

pub returns-then-t-lt241920000000000000 : goal.returns-then-t-lt241920000000000000
returns-then-t-lt241920000000000000 c =
    let a = c.args in
    let fit = c.ranges.t in
    sym (middle a.c a.t (tested a.t fit lo c.if-t-ltminus345600000000000000.false) (tested a.t fit hi c.if-t-lt241920000000000000.true))

pub returns : goal.returns
returns c =
    let a = c.args in
    let l = c.last_instant in
    let fit = c.ranges.t in
    (λ i. le_z (to_z-of_z w64 a.t fit i) ((to_z-of_z w64 l.result (record { sfits = l.type_inv }) ∙ l.ensures) i)) ∙ sym (late a.c a.t (tested a.t fit lo c.if-t-ltminus345600000000000000.false))
