-- The theorems about offsets on a fixed axis with calendar c, period p and reference R, over the definitions that the public calls are proved to compute.
-- Doubles, demand 3:
--   read_right       every instant that is read is the nearest of all counts, at most half a microsecond from the exact time, marked exact just where the distance is 0, and in the range
--   double-inside    every instant that is read lies in the range
--   nearest-there    there is a nearest count, nearest-only    and no other
--   outcome          whatever count is nearest, it is the answer where its day lies in the years, and OutOfRange elsewhere
--   refused-past, past-refused    OutOfRange exactly where the day of the nearest count leaves the years, by the next-day rule
--   not_finite       NotFinite for a NaN and the infinities
--   read_mono, read-ordered    the greater double never gives the earlier instant, nor the earlier date
--   minus-zero       minus zero is zero
-- Whole offsets and writing:
--   days-on          n days on, the date is that of the day number n greater, and the time of day is kept
--   day-on           one day more is the next date
--   written-reads, written-fits    what is written is a 64-bit number that reads as the instant, exactly
--   read-writes      what reads as the instant is written
--   inexact-none, none-inexact     Inexact exactly where no 64-bit offset reads as the instant
--   one-offset       two offsets never read as the same instant
--   only-past        a whole offset is refused for nothing but its instant
-- proofs/Between.antt: an offset between two that are read is read.
use Rattle.axis_types.specs.Reading.{Reading}
use Rattle.std.specs.Prelude.{Ok, Err}
use mathlib.Core.Path.{◌≡◌, refl, sym, ap, ◌∙◌, subst}
use mathlib.Core.Bool.{Bool, true, false, cond}
use Prim.Native.Nat.{ℕ, ◌*◌, ◌≤◌}
use native.Mathlib.Nat.{zero-mul}
use native.Mathlib.Omega.{arith}
use lib.Dec.{T, eqb}
use lib.IntN.{ℤ, pos, neg_ℤ, suc_ℤ, ◌+ℤ◌, ◌-ℤ◌, +ℤ-suc_ℤ}
use lib.Signed.{le_z}
use lib.Ieee.{Float, nan, inf, fin, up, down, le}
use mir.Syntax.{w64}
use mir.Val.{SFits}
use Rattle.refusal.specs.declared.Refusal.{Refusal}
use Rattle.refusal.specs.declared.Refusal.TheVariants.{OutOfRange, Inexact, NotFinite}
use Rattle.calendar.specs.Calendar.{next, date_of, in_years}
use Rattle.calendar.specs.declared.Calendar.{Calendar}
use Rattle.calendar.proofs.Theorems.{next_date}
use Rattle.axis_types.specs.Lengths.{length_of}
use Rattle.axis_types.specs.declared.Period.{Period}
use Rattle.axis_types.specs.declared.Period.TheVariants.{Day}
use Rattle.instant.specs.Instant.{day_of, time_of, in_range}
use Rattle.double.specs.Nearest.{distance, IsNearest, nearest_size, nearest_count}
use Rattle.double.proofs.Distance.{count_nearest, count_only, count_half, count_exact}
use Rattle.double.proofs.Order.{size_none, count_mono}
use Rattle.fixed_axis.specs.Fixed.{time_after, reading_at, marked_at, read_whole, read_double, write_instant}
use Rattle.fixed_axis.specs.Demands.{Demand3, InOrder}
use Rattle.fixed_axis.proofs.Readings.{not_read, settled}
use Rattle.fixed_axis.proofs.Dates.{day_after_lem, time_after_lem, in_order}
use Rattle.fixed_axis.proofs.Offsets as Offsets
use Rattle.fixed_axis.proofs.Doubles.{double_of}
use Rattle.fixed_axis.proofs.Between.{is_true}

refused : (b : Bool) (z : ℤ) (exact : Bool) → cond {A = Reading} b (Ok (z, exact)) (Err OutOfRange) ≡ Err OutOfRange → b ≡ false
refused true z exact h = absurd (let k : ◌≡◌ {A = ℕ} 0 1 = cc in omega arith)
refused false z exact h = refl

module _ (c : Calendar) (p : Period) (R : ℤ) where
  abbrev P : ℕ
  P = length_of p

  -- ---- doubles
  pub read_right : (s : Bool) (m : ℕ) (e z : ℤ) (exact : Bool) → read_double c p R (fin s m e) ≡ Ok (z, exact) → Demand3 c p R s m e z exact
  read_right s m e z exact h =
      let r = double_of c p R s m e z exact h in
      record {
        nearest = subst (λ (y : ℤ). IsNearest R P s m e y) r.is (count_nearest R P s m e);
        half = subst (λ (y : ℤ). distance R P s m e y * 2 ≤ down e) r.is (count_half R P s m e);
        mark = sym r.same ∙ ap (λ (y : ℤ). eqb (distance R P s m e y) 0) r.is;
        inside = r.inside;
      }

  pub double_inside : (x : Float) (z : ℤ) (exact : Bool) → read_double c p R x ≡ Ok (z, exact) → in_range c z ≡ true
  unfolding read_double
  double_inside nan z exact h = absurd (not_read NotFinite z exact h)
  double_inside (inf s) z exact h = absurd (not_read NotFinite z exact h)
  double_inside (fin s m e) z exact h = (read_right s m e z exact h).inside

  pub nearest_there : (s : Bool) (m : ℕ) (e : ℤ) → IsNearest R P s m e (nearest_count R P s m e)
  nearest_there s m e = count_nearest R P s m e

  pub nearest_only : (s : Bool) (m : ℕ) (e z w : ℤ) → IsNearest R P s m e z → IsNearest R P s m e w → z ≡ w
  nearest_only s m e z w n k = count_only R P s m e z n ∙ sym (count_only R P s m e w k)

  pub outcome : (s : Bool) (m : ℕ) (e z : ℤ) → IsNearest R P s m e z → read_double c p R (fin s m e) ≡ marked_at c p R s m e z
  unfolding read_double
  outcome s m e z n = ap (marked_at c p R s m e) (sym (count_only R P s m e z n))

  pub refused_past : (s : Bool) (m : ℕ) (e z : ℤ) → IsNearest R P s m e z → read_double c p R (fin s m e) ≡ Err OutOfRange → in_years (date_of c (day_of z)).year ≡ false
  refused_past s m e z n g = refused (in_range c z) z (eqb (distance R P s m e z) 0) (sym (outcome s m e z n) ∙ g)

  pub past_refused : (s : Bool) (m : ℕ) (e z : ℤ) → IsNearest R P s m e z → in_years (date_of c (day_of z)).year ≡ false → read_double c p R (fin s m e) ≡ Err OutOfRange
  past_refused s m e z n g = outcome s m e z n ∙ sym (settled c z (eqb (distance R P s m e z) 0) g)

  pub not_finite : (read_double c p R nan ≡ Err NotFinite) × ((s : Bool) → read_double c p R (inf s) ≡ Err NotFinite)
  unfolding read_double
  not_finite = (refl, λ s. refl)

  pub read_mono : (x y : Float) (a b : ℤ) (i j : Bool) → T (le x y) → read_double c p R x ≡ Ok (a, i) → read_double c p R y ≡ Ok (b, j) → le_z a b ≡ true
  unfolding read_double
  read_mono nan y a b i j h f g = absurd (not_read NotFinite a i f)
  read_mono (inf s) y a b i j h f g = absurd (not_read NotFinite a i f)
  read_mono (fin s m e) nan a b i j h f g = absurd (not_read NotFinite b j g)
  read_mono (fin s m e) (inf t) a b i j h f g = absurd (not_read NotFinite b j g)
  read_mono (fin s m e) (fin t n d) a b i j h f g =
      (λ k. le_z (sym (double_of c p R s m e a i f).is k) (sym (double_of c p R t n d b j g).is k))
      ∙ is_true (le_z (nearest_count R P s m e) (nearest_count R P t n d)) (count_mono R P s m e t n d h)

  pub read_ordered : (x y : Float) (a b : ℤ) (i j : Bool) → T (le x y) → read_double c p R x ≡ Ok (a, i) → read_double c p R y ≡ Ok (b, j) → InOrder c a b
  read_ordered x y a b i j h f g = in_order c a b (read_mono x y a b i j h f g)

  pub minus_zero : (e : ℤ) → read_double c p R (fin true 0 e) ≡ read_double c p R (fin false 0 e)
  unfolding read_double
  minus_zero e =
      let n : nearest_size P 0 e ≡ 0 = size_none P 0 e 0 e (ap (λ (x : ℕ). x * down e) (zero-mul (up e)) ∙ zero-mul (down e)) in
      λ i. reading_at c (R +ℤ (ap (λ (x : ℕ). neg_ℤ (pos x)) n ∙ sym (ap pos n)) i) ((sym (count_exact R P true 0 e) ∙ count_exact R P false 0 e) i)

  -- ---- writing
  pub written_reads : (t n : ℤ) → in_range c t ≡ true → write_instant p R t ≡ Ok n → read_whole c p R n ≡ Ok (t, true)
  written_reads = Offsets.written_reads c p R

  pub written_fits : (t n : ℤ) → in_range c R ≡ true → in_range c t ≡ true → write_instant p R t ≡ Ok n → SFits w64 n
  written_fits = Offsets.written_fits c p R

  pub read_writes : (n t : ℤ) (exact : Bool) → read_whole c p R n ≡ Ok (t, exact) → write_instant p R t ≡ Ok n
  read_writes = Offsets.read_writes c p R

  pub inexact_none : (t : ℤ) → write_instant p R t ≡ Err Inexact → (n : ℤ) (exact : Bool) → read_whole c p R n ≡ Ok (t, exact) → ⊥
  inexact_none t h n exact g = let e = read_writes n t exact g in let k : ◌≡◌ {A = ℕ} 0 1 = cc in omega arith

  pub none_inexact : (t : ℤ) → in_range c R ≡ true → in_range c t ≡ true → ((n : ℤ) → SFits w64 n → read_whole c p R n ≡ Ok (t, true) → ⊥) → write_instant p R t ≡ Err Inexact
  none_inexact t h g f = Offsets.inexact (t -ℤ R) P (λ n e. f n (written_fits t n h g e) (written_reads t n g e))

  pub one_offset : (n m t : ℤ) (i j : Bool) → read_whole c p R n ≡ Ok (t, i) → read_whole c p R m ≡ Ok (t, j) → n ≡ m
  one_offset n m t i j f g = let e = read_writes n t i f in let d = read_writes m t j g in cc

  pub only_past : (n : ℤ) (r : Refusal) → read_whole c p R n ≡ Err r → r ≡ OutOfRange
  unfolding read_whole
  only_past n r = go (in_range c (time_after p R n))
    where
      go : (b : Bool) → cond {A = Reading} b (Ok (time_after p R n, true)) (Err OutOfRange) ≡ Err r → r ≡ OutOfRange
      go true h = absurd (let k : ◌≡◌ {A = ℕ} 0 1 = cc in omega arith)
      go false h = (cc)

-- ---- days, by the next-day rule
module _ (c : Calendar) (R n t : ℤ) (exact : Bool) (h : read_whole c Day R n ≡ Ok (t, exact)) where
  pub days_on : (date_of c (day_of t) ≡ date_of c (day_of R +ℤ n)) × (time_of t ≡ time_of R)
  days_on =
      let r = Offsets.read_of c Day R n t exact h in
      (ap (λ (z : ℤ). date_of c (day_of z)) (sym r.is) ∙ ap (date_of c) (day_after_lem R n), ap time_of (sym r.is) ∙ time_after_lem R n)

pub day_on : (c : Calendar) (R n t u : ℤ) (i j : Bool) → read_whole c Day R n ≡ Ok (t, i) → read_whole c Day R (suc_ℤ n) ≡ Ok (u, j) → date_of c (day_of u) ≡ next c (date_of c (day_of t))
day_on c R n t u i j f g =
    (days_on c R (suc_ℤ n) u j g).0
    ∙ (ap (date_of c) (+ℤ-suc_ℤ (day_of R) n) ∙ (sym (next_date c (day_of R +ℤ n)) ∙ ap (next c) (sym (days_on c R n t i f).0)))
