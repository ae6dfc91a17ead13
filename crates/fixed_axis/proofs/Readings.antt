-- What the answer for a count z tells, which is read where it lies in the range.
use Rattle.std.specs.Prelude.{Ok, Err}
use mathlib.Core.Path.{◌≡◌, refl, sym, ap, ◌∙◌}
use mathlib.Core.Bool.{Bool, true, false, cond}
use Prim.Native.Nat.{ℕ}
use native.Mathlib.Omega.{arith}
use lib.IntN.{ℤ}
use Rattle.refusal.specs.declared.Refusal.{Refusal}
use Rattle.refusal.specs.declared.Refusal.TheVariants.{OutOfRange}
use Rattle.calendar.specs.declared.Calendar.{Calendar}
use Rattle.axis_types.specs.Reading.{is_read, Reading}
use Rattle.axis_types.proofs.Answers.{was_read, one_reading}
use Rattle.instant.specs.Instant.{in_range}
use Rattle.fixed_axis.specs.Fixed.{reading_at}

pub not_read : (r : Refusal) (z : ℤ) (i : Bool) → ◌≡◌ {A = Reading} (Err r) (Ok (z, i)) → ⊥
not_read r z i q = let k : ◌≡◌ {A = ℕ} 0 1 = cc in omega arith

-- the count z, where it was tested
pub record Read (c : Calendar) (z t : ℤ) (mark exact : Bool) : Type 0 where
  pub inside : in_range c t ≡ true
  pub is : z ≡ t
  pub same : mark ≡ exact

pub reading_of : (c : Calendar) (z t : ℤ) (mark exact : Bool) → reading_at c z mark ≡ Ok (t, exact) → Read c z t mark exact
reading_of c z t mark exact h = go (in_range c z) refl h
  where
    go : (b : Bool) → in_range c z ≡ b → cond {A = Reading} b (Ok (z, mark)) (Err OutOfRange) ≡ Ok (t, exact) → Read c z t mark exact
    go true e g =
        let k = one_reading z t mark exact g in
        record { inside = ap (in_range c) (sym k.0) ∙ e; is = k.0; same = k.1 }
    go false e g = absurd (not_read OutOfRange t exact g)

pub inside : (c : Calendar) (z : ℤ) (mark : Bool) → is_read (reading_at c z mark) ≡ true → in_range c z ≡ true
inside c z mark h =
    let w = was_read (reading_at c z mark) h in
    let r = reading_of c z w.0 mark w.1 w.2 in
    ap (in_range c) r.is ∙ r.inside

-- the answer, once the range is tested
pub settled : (c : Calendar) (z : ℤ) (mark : Bool) {b : Bool} → in_range c z ≡ b → cond {A = Reading} b (Ok (z, mark)) (Err OutOfRange) ≡ reading_at c z mark
settled c z mark e = ap (λ (b : Bool). cond {A = Reading} b (Ok (z, mark)) (Err OutOfRange)) (sym e)

pub read_is : (c : Calendar) (z : ℤ) (mark : Bool) → is_read (reading_at c z mark) ≡ true → reading_at c z mark ≡ Ok (z, mark)
read_is c z mark h = sym (settled c z mark (inside c z mark h))
