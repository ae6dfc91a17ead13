-- An offset between two that are read is read: instants follow the order of offsets, and the range is an interval.
use Rattle.std.specs.Prelude.{Ok}
use mathlib.Core.Path.{◌≡◌, refl, sym, ap, ◌∙◌}
use mathlib.Core.Bool.{Bool, true, false, false≢true}
use Prim.Native.Nat.{ℕ, suc, ◌*◌}
use native.Mathlib.Nat.{mul-le-mul_right}
use native.Mathlib.Omega.{arith}
use lib.Dec.{T, eqb, le→leb, leb→le}
use lib.IntN.{ℤ, pos, negsuc, ◌*ℤ◌}
use lib.Signed.{le_z}
use lib.Ieee.{Float, nan, inf, fin, le, lt, eq}
use Rattle.refusal.specs.declared.Refusal.TheVariants.{NotFinite}
use Rattle.signed.proofs.Integers.{mono, neg_le, neg_le_pos}
use Rattle.calendar.specs.declared.Calendar.{Calendar}
use Rattle.axis_types.specs.Lengths.{length_of}
use Rattle.axis_types.specs.declared.Period.{Period}
use Rattle.instant.specs.Instant.{in_range}
use Rattle.instant.proofs.Range.{between}
use Rattle.double.specs.Nearest.{distance, nearest_count}
use Rattle.double.proofs.Order.{count_mono}
use Rattle.fixed_axis.specs.Fixed.{time_after, read_whole, read_double}
use Rattle.fixed_axis.proofs.Readings.{not_read, settled}
use Rattle.fixed_axis.proofs.Offsets.{read_of, reads}
use Rattle.fixed_axis.proofs.Doubles.{double_of}

-- ---- whole offsets
pub is_true : (b : Bool) → T b → b ≡ true
is_true true h = refl
is_true false h = absurd h

holds : (b : Bool) → b ≡ true → T b
holds true h = tt
holds false h = absurd (false≢true h)

times_mono : (m n : ℤ) (P : ℕ) → le_z m n ≡ true → T (le_z (m *ℤ pos P) (n *ℤ pos P))
times_mono (pos a) (pos b) P h = le→leb (a * P) (b * P) (mul-le-mul_right P (leb→le a b (holds _ h)))
times_mono (pos a) (negsuc b) P h = absurd (false≢true h)
times_mono (negsuc a) (pos b) P h = neg_le_pos (suc a * P) (b * P)
times_mono (negsuc a) (negsuc b) P h = neg_le (suc a * P) (suc b * P) (mul-le-mul_right {m = suc b} {n = suc a} P (let k = leb→le b a (holds _ h) in omega arith))

module _ (c : Calendar) (p : Period) (R : ℤ) where
  pub time_mono : (m n : ℤ) → le_z m n ≡ true → le_z (time_after p R m) (time_after p R n) ≡ true
  time_mono m n h = is_true _ (mono R (m *ℤ pos (length_of p)) (n *ℤ pos (length_of p)) (times_mono m n (length_of p) h))

  pub whole_between : (x y z a b : ℤ) (i j : Bool) → le_z x y ≡ true → le_z y z ≡ true → read_whole c p R x ≡ Ok (a, i) → read_whole c p R z ≡ Ok (b, j) → read_whole c p R y ≡ Ok (time_after p R y, true)
  whole_between x y z a b i j h g p' q' =
      let r = read_of c p R x a i p' in
      let s = read_of c p R z b j q' in
      reads c p R y (time_after p R y)
      (between c (time_after p R x) (time_after p R y) (time_after p R z) (time_mono x y h) (time_mono y z g) (ap (in_range c) r.is ∙ r.inside) (ap (in_range c) s.is ∙ s.inside))
      refl

  pub double_between : (x y z : Float) (a b : ℤ) (i j : Bool) → T (le x y) → T (le y z) → read_double c p R x ≡ Ok (a, i) → read_double c p R z ≡ Ok (b, j) → (t : ℤ) × (k : Bool) × (read_double c p R y ≡ Ok (t, k))
  unfolding read_double le lt eq
  double_between nan y z a b i j h g f q = absurd (not_read NotFinite a i f)
  double_between (inf s) y z a b i j h g f q = absurd (not_read NotFinite a i f)
  double_between (fin s m e) y nan a b i j h g f q = absurd (not_read NotFinite b j q)
  double_between (fin s m e) y (inf t) a b i j h g f q = absurd (not_read NotFinite b j q)
  double_between (fin s m e) nan (fin t n d) a b i j h g f q = absurd h
  double_between (fin s m e) (inf true) (fin t n d) a b i j h g f q = absurd h
  double_between (fin s m e) (inf false) (fin t n d) a b i j h g f q = absurd g
  double_between (fin s m e) (fin u o v) (fin t n d) a b i j h g f q =
      let P = length_of p in
      let x = nearest_count R P s m e in
      let y = nearest_count R P u o v in
      let z = nearest_count R P t n d in
      let r = double_of c p R s m e a i f in
      let l = double_of c p R t n d b j q in
      let w = between c x y z (is_true (le_z x y) (count_mono R P s m e u o v h)) (is_true (le_z y z) (count_mono R P u o v t n d g)) (ap (in_range c) r.is ∙ r.inside) (ap (in_range c) l.is ∙ l.inside) in
      (y, eqb (distance R P u o v y) 0, sym (settled c y (eqb (distance R P u o v y) 0) w))
