-- `calendar::month::month_length` meets its contract: its rule gives the definition's table.
use mathlib.Core.Path.{◌≡◌, refl}
use mathlib.Core.Bool.{cond}
use Prim.Native.Nat.{ℕ, ◌+◌, ◌-◌, ◌%◌, ◌<◌}
use lib.Dec.{eqb}
use borrow.Author.Tests.{eqb-true, eq-eqb, ne_eqb}
use Rattle.calendar.specs.Plain.{month_days}
use Rattle.calendar.proofs.Tables.{all, each_month}
use Rattle.calendar.proofs.month.month_length.Goals as goal

-- the length that the function works out
abbrev month_length_of : ℕ → ℕ → ℕ
month_length_of k m = cond (eqb k 2) 30 (cond (eqb m 1) (28 + k) (31 - m % 7 % 2))

month_length : (k m : ℕ) → k < 3 → m < 12 → month_length_of k m ≡ month_days k m
unfolding all month_days
month_length k m h g =
    let t = each_month (λ j i. eqb (month_length_of j i) (month_days j i)) refl refl refl k m h g in
    eqb-true (month_length_of k m) (month_days k m) t

pub returns-then-k-eq2 : goal.returns-then-k-eq2
returns-then-k-eq2 c =
    let k = c.args.k in
    let m = c.args.m in
    rw (eq-eqb k 2 c.if-k-eq2.true) at (month_length k m c.requires.0 c.requires.1)

pub returns-then-m-eq-FEBRUARY : goal.returns-then-m-eq-FEBRUARY
returns-then-m-eq-FEBRUARY c =
    let k = c.args.k in
    let m = c.args.m in
    rw (ne_eqb k 2 c.if-k-eq2.false, eq-eqb m 1 c.if-m-eq-FEBRUARY.true) at (month_length k m c.requires.0 c.requires.1)

pub returns : goal.returns
returns c =
    let k = c.args.k in
    let m = c.args.m in
    rw (ne_eqb k 2 c.if-k-eq2.false, ne_eqb m 1 c.if-m-eq-FEBRUARY.false) at (month_length k m c.requires.0 c.requires.1)
