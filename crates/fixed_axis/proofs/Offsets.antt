-- Whole offsets there and back on a fixed axis: what is written reads as the instant, and what reads as the instant is written.
use Rattle.std.specs.Prelude.{Ok, Err}
use mathlib.Core.Path.{◌≡◌, refl, sym, ap, ◌∙◌, subst}
use mathlib.Core.Bool.{Bool, true, false, cond}
use Prim.Native.Nat.{ℕ, zero, suc, ◌+◌, ◌-◌, ◌*◌, ◌/◌, ◌%◌, ◌≤◌, ◌<◌}
use native.Mathlib.Omega.{arith}
use native.Mathlib.Nat.{div-add-mod', div-le_self, mul-div_cancel, mul-mod_left, suc-mul}
use lib.Dec.{eqb}
use lib.IntN.{ℤ, pos, negsuc, neg_ℤ, ◌+ℤ◌, ◌-ℤ◌, ◌*ℤ◌}
use lib.Signed.{mag}
use mir.Syntax.{w64}
use mir.Val.{SFits}
use borrow.Author.Tests.{eqb-true, eq-eqb}
use Rattle.refusal.specs.declared.Refusal.{Refusal}
use Rattle.refusal.specs.declared.Refusal.TheVariants.{OutOfRange, Inexact}
use Rattle.signed.proofs.Integers.{plus_minus, plus_difference, neg_times}
use Rattle.calendar.specs.declared.Calendar.{Calendar}
use Rattle.axis_types.specs.Lengths.{length_of}
use Rattle.axis_types.specs.Reading.{is_read, Reading}
use Rattle.axis_types.specs.declared.Period.{Period}
use Rattle.axis_types.proofs.Answers.{was_read}
use Rattle.instant.specs.Instant.{in_range}
use Rattle.instant.proofs.Range.{small}
use Rattle.fixed_axis.specs.Fixed.{time_after, read_whole, in_periods, write_instant}
use Rattle.fixed_axis.proofs.Readings.{Read, reading_of}
use Rattle.fixed_axis.proofs.Periods.{lengths}
use Rattle.fixed_axis.proofs.Displacements.{apart}

-- ---- a displacement that is a number of periods
not_offset : (r : Refusal) (n : ℤ) → Err r ≡ Ok n → ⊥
not_offset r n q = let k : ◌≡◌ {A = ℕ} 0 1 = cc in omega arith

-- k microseconds that are whole periods
whole_quotient : (k P : ℕ) → eqb (k % P) 0 ≡ true → k / P * P ≡ k
whole_quotient k P h = omega (arith, div-add-mod' k P, eqb-true (k % P) 0 h)

-- what an answer of `in_periods` tells
pub record Quotient (d : ℤ) (P : ℕ) (n : ℤ) : Type 0 where
  pub is : n *ℤ pos P ≡ d
  pub small : mag n ≤ mag d + 1

neg_small : (q : ℕ) → mag (neg_ℤ (pos q)) ≤ q
neg_small zero = omega arith
neg_small (suc q) = omega arith

pub quotient_of : (d : ℤ) (P : ℕ) (n : ℤ) → in_periods d P ≡ Ok n → Quotient d P n
unfolding in_periods
quotient_of (pos k) P n h = go (eqb (k % P) 0) refl h
  where
    go : (b : Bool) → eqb (k % P) 0 ≡ b → cond b (Ok (pos (k / P))) (Err Inexact) ≡ Ok n → Quotient (pos k) P n
    go true e g =
        let f : pos (k / P) ≡ n = (cc) in
        subst (Quotient (pos k) P) f (record { is = ap pos (whole_quotient k P e); small = omega (arith, div-le_self k P) })
    go false e g = absurd (not_offset Inexact n g)
quotient_of (negsuc k) P n h = go (eqb (suc k % P) 0) refl h
  where
    go : (b : Bool) → eqb (suc k % P) 0 ≡ b → cond b (Ok (neg_ℤ (pos (suc k / P)))) (Err Inexact) ≡ Ok n → Quotient (negsuc k) P n
    go true e g =
        let f : neg_ℤ (pos (suc k / P)) ≡ n = (cc) in
        subst (Quotient (negsuc k) P) f (record { is = neg_times (pos (suc k / P)) P ∙ ap (λ (x : ℕ). neg_ℤ (pos x)) (whole_quotient (suc k) P e); small = omega (arith, div-le_self (suc k) P, neg_small (suc k / P)) })
    go false e g = absurd (not_offset Inexact n g)

pub in_periods_lem : (n : ℤ) (P : ℕ) → 0 < P → in_periods (n *ℤ pos P) P ≡ Ok n
unfolding in_periods
in_periods_lem (pos m) P h = (λ i. cond (eq-eqb (m * P % P) 0 (mul-mod_left m P) i) (Ok (pos (mul-div_cancel m h i))) (Err Inexact))
in_periods_lem (negsuc m) P h =
    let e : suc m * P ≡ suc (suc m * P - 1) = omega (arith, suc-mul m P) in
    ap (λ (x : ℕ). in_periods (neg_ℤ (pos x)) P) e
    ∙ ((λ i. cond (eqb (sym e i % P) 0) (Ok (neg_ℤ (pos (sym e i / P)))) (Err Inexact))
    ∙ (λ i. cond (eq-eqb (suc m * P % P) 0 (mul-mod_left (suc m) P) i) (Ok (neg_ℤ (pos (mul-div_cancel (suc m) h i)))) (Err Inexact)))

-- either an offset, or nothing but Inexact
pub inexact : (d : ℤ) (P : ℕ) → ((n : ℤ) → in_periods d P ≡ Ok n → ⊥) → in_periods d P ≡ Err Inexact
unfolding in_periods
inexact (pos k) P f = go (eqb (k % P) 0) f
  where
    go : (b : Bool) → ((n : ℤ) → cond b (Ok (pos (k / P))) (Err Inexact) ≡ Ok n → ⊥) → cond b (Ok (pos (k / P))) (Err Inexact) ≡ Err Inexact
    go true g = absurd (g (pos (k / P)) refl)
    go false g = refl
inexact (negsuc k) P f = go (eqb (suc k % P) 0) f
  where
    go : (b : Bool) → ((n : ℤ) → cond b (Ok (neg_ℤ (pos (suc k / P)))) (Err Inexact) ≡ Ok n → ⊥) → cond b (Ok (neg_ℤ (pos (suc k / P)))) (Err Inexact) ≡ Err Inexact
    go true g = absurd (g (neg_ℤ (pos (suc k / P))) refl)
    go false g = refl

-- ---- whole offsets
module _ (c : Calendar) (p : Period) (R : ℤ) where
  pub read_of : (n t : ℤ) (exact : Bool) → read_whole c p R n ≡ Ok (t, exact) → Read c (time_after p R n) t true exact
  unfolding read_whole
  read_of n t exact h = reading_of c (time_after p R n) t true exact h

  pub reads : (n t : ℤ) → in_range c t ≡ true → time_after p R n ≡ t → read_whole c p R n ≡ Ok (t, true)
  unfolding read_whole
  reads n t g e = λ i. cond {A = Reading} ((ap (in_range c) e ∙ g) i) (Ok (e i, true)) (Err OutOfRange)

  pub read_time : (n : ℤ) → is_read (read_whole c p R n) ≡ true → read_whole c p R n ≡ Ok (time_after p R n, true)
  read_time n h =
      let w = was_read (read_whole c p R n) h in
      let r = read_of n w.0 w.1 w.2 in
      w.2 ∙ (λ i. Ok (sym r.is i, (sym r.same i)))

  -- ---- there and back
  pub written_fits : (t n : ℤ) → in_range c R ≡ true → in_range c t ≡ true → write_instant p R t ≡ Ok n → SFits w64 n
  written_fits t n h g e = record { sfits = omega (arith, (quotient_of (t -ℤ R) (length_of p) n e).small, apart t R, small c t g, small c R h) }

  pub written_reads : (t n : ℤ) → in_range c t ≡ true → write_instant p R t ≡ Ok n → read_whole c p R n ≡ Ok (t, true)
  written_reads t n g e = reads n t g (ap (λ (z : ℤ). R +ℤ z) (quotient_of (t -ℤ R) (length_of p) n e).is ∙ plus_difference R t)

  pub read_writes : (n t : ℤ) (exact : Bool) → read_whole c p R n ≡ Ok (t, exact) → write_instant p R t ≡ Ok n
  read_writes n t exact h =
      let r = read_of n t exact h in
      let e : t -ℤ R ≡ n *ℤ pos (length_of p) = ap (λ (z : ℤ). z -ℤ R) (sym r.is) ∙ plus_minus R (n *ℤ pos (length_of p)) in
      ap (λ (z : ℤ). in_periods z (length_of p)) e ∙ in_periods_lem n (length_of p) (omega (arith, (lengths p).0))
