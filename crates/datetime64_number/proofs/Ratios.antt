-- The numbers of a unit with a fixed ratio: what is one of the multiples is read or written as what it is exchanged for, and nothing else is.
use Rattle.std.specs.Prelude.{Result, Ok, Err}
use mathlib.Core.Path.{◌≡◌, refl, sym, ap, ◌∙◌, subst}
use mathlib.Core.Bool.{Bool, true, false, cond, false≢true}
use Prim.Native.Nat.{ℕ, zero, suc, ◌-◌, ◌/◌, ◌≤◌, ◌<◌}
use native.Mathlib.Nat.{div-mul-le_self, div-le_self, mul-le-mul_left}
use native.Mathlib.Omega.{arith}
use lib.Dec.{eqb}
use lib.IntN.{ℤ, pos, negsuc, ◌*ℤ◌}
use mir.Syntax.{w64}
use mir.Val.{SFits}
use borrow.Author.Tests.{ne_eqb, eq-eqb, lt-ltb, ltb-true}
use Rattle.signed.specs.Bias.{biased, unbiased}
use Rattle.signed.proofs.Tests.{to_false}
use Rattle.signed.proofs.Differences.{unbiased_biased, lift_sub, by_sign}
use Rattle.refusal.specs.declared.Refusal.{Refusal}
use Rattle.refusal.specs.declared.Refusal.TheVariants.{OutOfRange, Inexact}
use Rattle.calendar.specs.declared.Calendar.TheVariants.{ProlepticGregorian}
use Rattle.instant.specs.Instant.{in_range}
use Rattle.instant.proofs.Range as Range
use Rattle.axis_types.specs.Reading.{is_none, is_read, offset_refusal, Reading}
use Rattle.fixed_axis.specs.Fixed.{reading_at, in_periods}
use Rattle.fixed_axis.proofs.Readings.{inside}
use Rattle.fixed_axis.proofs.Offsets.{inexact}
use Rattle.ratio.specs.Multiples.{Place, IsRatio, IsMultiple}
use Rattle.ratio.specs.declared.Ratio.{Ratio}
use Rattle.datetime64_type.specs.declared.UnitRow.{UnitRow}
use Rattle.datetime64_number.specs.Numbers.{is_not_a_time, holds_time, count_read, read_by_row, number_written, write_by_row}
use Rattle.datetime64_number.specs.Conversions.{years_below, years_above, greatest_number, ReadsByRatio, WritesByRatio}
use Rattle.datetime64_number.proofs.Products.{Within, within}
use Rattle.datetime64_number.proofs.Years.{in_years_lem, within_years}
use Rattle.datetime64_number.proofs.Rows.{GoodRow, divisor}
use Rattle.datetime64_number.proofs.Exchange.{product_at, product_place, quotient_at, quotient_place}

-- ---- not-a-time is the number whose bias leaves 0
pub has_time : (n : ℤ) → 0 < biased n → is_not_a_time n ≡ false
has_time (pos n) h = refl
has_time (negsuc n) h = ne_eqb n 9223372036854775807 (λ e. omega arith)

pub no_time : (n : ℤ) → SFits w64 n → biased n ≡ 0 → is_not_a_time n ≡ true
no_time (pos n) f h = absurd (omega arith)
no_time (negsuc n) f h = eq-eqb n 9223372036854775807 (omega (arith, f.sfits))

pub time_biased : (n : ℤ) → SFits w64 n → is_not_a_time n ≡ false → 0 < biased n
time_biased n f h = go (biased n) refl
  where
    go : (u : ℕ) → biased n ≡ u → 0 < u
    go zero e = absurd (let k : true ≡ false = sym (no_time n f e) ∙ h in let z : ◌≡◌ {A = ℕ} 0 1 = cc in omega arith)
    go (suc u) e = omega arith

-- ---- numbers of 64 bits but not-a-time lie between -greatest_number and greatest_number
number_within : (n : ℤ) → SFits w64 n → 0 < biased n → Within greatest_number greatest_number (biased n)
number_within (pos n) f h = record { low = omega arith; high = omega (arith, f.sfits) }
number_within (negsuc n) f h = record { low = omega arith; high = omega arith }

within_holds : (v : ℕ) → Within greatest_number greatest_number v → holds_time (unbiased v) ≡ true
within_holds v w =
    by_sign (λ (z : ℤ). holds_time z ≡ true) v 9223372036854775808
    (λ h. lt-ltb (9223372036854775808 - suc v) 9223372036854775807 (omega (arith, w.low)))
    (λ h. lt-ltb (v - 9223372036854775808) 9223372036854775808 (omega (arith, w.high)))

pub holds_fits : (z : ℤ) → holds_time z ≡ true → SFits w64 z × (0 < biased z)
holds_fits (pos n) h = (record { sfits = ltb-true n 9223372036854775808 h }, omega arith)
holds_fits (negsuc n) h = let l = ltb-true n 9223372036854775807 h in (record { sfits = omega arith }, omega arith)

-- ---- places of one ratio
same_place : {a b l m h k : ℕ} → a ≡ b → l ≡ m → h ≡ k → (u i : ℕ) → Place a l h u i → Place b m k u i
same_place {a} {b} {l} {m} {h} {k} e f g u i p =
    subst (λ (x : ℕ). Place b m x u i) g (subst (λ (x : ℕ). Place b x h u i) f (subst (λ (x : ℕ). Place x l h u i) e p))

module _ {r : Ratio} {from to below above : ℕ} (q : IsRatio r from to below above) (u i : ℕ) where
  from_place : Place r.from r.below r.above u i → Place from below above u i
  from_place = same_place q.from_is q.below_is q.above_is u i

  to_place : Place to below above u i → Place r.to r.below r.above u i
  to_place = same_place (sym q.to_is) (sym q.below_is) (sym q.above_is) u i

  place_back : Place from below above u i → Place r.from r.below r.above u i
  place_back = same_place (sym q.from_is) (sym q.below_is) (sym q.above_is) u i

-- ---- reading

-- the number n, at place i, is read as t, at the same place
pub record ReadAt (row : UnitRow) (r : Ratio) (n : ℤ) (i : ℕ) : Type 0 where
  pub instant : ℤ
  pub fits : SFits w64 instant
  pub time : is_not_a_time n ≡ false
  pub read : read_by_row row n ≡ Ok (instant, true)
  pub place : Place r.to r.below r.above (biased instant) i

years_fit : (v : ℕ) → Within years_below years_above v → SFits w64 (unbiased v)
years_fit v w = by_sign (λ (z : ℤ). SFits w64 z) v 9223372036854775808 (λ h. record { sfits = omega arith }) (λ h. record { sfits = omega (arith, w.high) })

-- quotients of 64-bit numbers by a thousand and more lie in the years
few_quotients : (k : ℕ) → 1000 ≤ k → greatest_number / k ≤ 9223372036854775
few_quotients k h = omega (arith, div-mul-le_self greatest_number k, mul-le-mul_left (greatest_number / k) h)

quotient_within : (k u i : ℕ) → 1000 ≤ k → Place 1 (greatest_number / k) (greatest_number / k) u i → Within years_below years_above u
quotient_within k u i h p = let f = few_quotients k h in record { low = omega (arith, p.is, p.inside, f); high = omega (arith, p.is, p.inside, f) }

-- a 64-bit number that holds a time has its quotient in the years
pub quotient_inside : (k : ℕ) → 0 < k → 1000 ≤ k → (n m : ℤ) → SFits w64 n → 0 < biased n → in_periods n k ≡ Ok m → in_range ProlepticGregorian m ≡ true
quotient_inside k h g n m f b e =
    let p = quotient_place greatest_number greatest_number k h (omega arith) n m f (number_within n f b) e in
    let x = quotient_at greatest_number greatest_number k h (omega arith) n f p.0 p.1 in
    let q : m ≡ unbiased x.biased_quotient = (let w = x.is in cc) in
    ap (in_range ProlepticGregorian) q ∙ in_years_lem x.biased_quotient (quotient_within k x.biased_quotient p.0 g x.place)

multiple_read : (k : ℕ) (r : Ratio) → 0 < k → ReadsByRatio (UnitRow.Multiple k) r → (n : ℤ) → SFits w64 n → (i : ℕ) → Place r.from r.below r.above (biased n) i → ReadAt (UnitRow.Multiple k) r n i
unfolding read_by_row
multiple_read k r h q n f i p =
    let p = from_place q (biased n) i p in
    let x = product_at years_below years_above k h (omega arith) n f i p in
    record {
      instant = unbiased x.biased_product;
      fits = years_fit x.biased_product x.bounded;
      time = has_time n (omega (arith, p.is, div-le_self years_below k));
      read = ap (λ (z : ℤ). reading_at ProlepticGregorian z true) x.is ∙ ap (λ (b : Bool). cond {A = Reading} b (Ok (unbiased x.biased_product, true)) (Err OutOfRange)) (in_years_lem x.biased_product x.bounded);
      place = to_place q (biased (unbiased x.biased_product)) i (subst (λ (u : ℕ). Place k (years_below / k) (years_above / k) u i) (sym (lift_sub x.biased_product 9223372036854775808)) x.place);
    }

fraction_read : (k : ℕ) (r : Ratio) → 0 < k → 1000 ≤ k → ReadsByRatio (UnitRow.Fraction k) r → (n : ℤ) → SFits w64 n → (i : ℕ) → Place r.from r.below r.above (biased n) i → ReadAt (UnitRow.Fraction k) r n i
unfolding read_by_row
fraction_read k r h g q n f i p =
    let p = from_place q (biased n) i p in
    let x = quotient_at greatest_number greatest_number k h (omega arith) n f i p in
    let w = quotient_within k x.biased_quotient i g x.place in
    record {
      instant = unbiased x.biased_quotient;
      fits = years_fit x.biased_quotient w;
      time = has_time n (omega (arith, (within greatest_number greatest_number k h (biased n) i p).low));
      read = ap count_read x.is ∙ ap (λ (b : Bool). cond {A = Reading} b (Ok (unbiased x.biased_quotient, true)) (Err OutOfRange)) (in_years_lem x.biased_quotient w);
      place = to_place q (biased (unbiased x.biased_quotient)) i (subst (λ (u : ℕ). Place 1 (greatest_number / k) (greatest_number / k) u i) (sym (lift_sub x.biased_quotient 9223372036854775808)) x.place);
    }

pub ratio_read : (row : UnitRow) (r : Ratio) → GoodRow row → ReadsByRatio row r → (n : ℤ) → SFits w64 n → (i : ℕ) → Place r.from r.below r.above (biased n) i → ReadAt row r n i
ratio_read (UnitRow.Steps part) r g q = absurd q
ratio_read (UnitRow.Multiple k) r g q = multiple_read k r g q
ratio_read (UnitRow.Fraction k) r g q = fraction_read k r (divisor g) g q

-- why a number is refused that is none of the multiples, and holds a time
abbrev pub unread : ℕ → Refusal
unread from = cond (eqb from 1) OutOfRange Inexact

module _ (k : ℕ) (r : Ratio) (h : 0 < k) (n : ℤ) (f : SFits w64 n) where
  -- a number that is read is one of the multiples
  multiple_place : ReadsByRatio (UnitRow.Multiple k) r → in_range ProlepticGregorian (n *ℤ pos k) ≡ true → IsMultiple r (biased n)
  multiple_place q e =
      let g : SFits w64 (n *ℤ pos k) = record { sfits = omega (arith, Range.small ProlepticGregorian (n *ℤ pos k) e) } in
      let w = within_years (biased (n *ℤ pos k)) (ap (in_range ProlepticGregorian) (unbiased_biased (n *ℤ pos k) g) ∙ e) in
      let p = product_place years_below years_above k h (omega arith) n f g w in
      (p.0, place_back q (biased n) p.0 p.1)

  fraction_place : ReadsByRatio (UnitRow.Fraction k) r → 0 < biased n → (m : ℤ) → in_periods n k ≡ Ok m → IsMultiple r (biased n)
  fraction_place q g m e =
      let p = quotient_place greatest_number greatest_number k h (omega arith) n m f (number_within n f g) e in
      (p.0, place_back q (biased n) p.0 p.1)

  multiple_unread : ReadsByRatio (UnitRow.Multiple k) r → (IsMultiple r (biased n) → ⊥) → read_by_row (UnitRow.Multiple k) n ≡ Err OutOfRange
  unfolding read_by_row
  multiple_unread q miss = ap (λ (b : Bool). cond {A = Reading} b (Ok (n *ℤ pos k, true)) (Err OutOfRange)) (to_false (in_range ProlepticGregorian (n *ℤ pos k)) (λ e. miss (multiple_place q e)))

  fraction_unread : ReadsByRatio (UnitRow.Fraction k) r → 0 < biased n → (IsMultiple r (biased n) → ⊥) → read_by_row (UnitRow.Fraction k) n ≡ Err Inexact
  unfolding read_by_row
  fraction_unread q g miss = ap count_read (inexact n k (λ m e. miss (fraction_place q g m e)))

pub ratio_found : (row : UnitRow) (r : Ratio) → GoodRow row → ReadsByRatio row r → (n : ℤ) → SFits w64 n → 0 < biased n → is_read (read_by_row row n) ≡ true → IsMultiple r (biased n)
unfolding read_by_row
ratio_found (UnitRow.Steps part) r g q n f h e = absurd q
ratio_found (UnitRow.Multiple k) r g q n f h e = multiple_place k r g n f q (inside ProlepticGregorian (n *ℤ pos k) true e)
ratio_found (UnitRow.Fraction k) r g q n f h e = go (in_periods n k) refl e
  where
    go : (a : Result ℤ Refusal) → in_periods n k ≡ a → is_read (count_read a) ≡ true → IsMultiple r (biased n)
    go (Ok m) e i = fraction_place k r (divisor g) n f q h m e
    go (Err m) e i = absurd (false≢true i)

pub ratio_unread : (row : UnitRow) (r : Ratio) → GoodRow row → ReadsByRatio row r → (n : ℤ) → SFits w64 n → 0 < biased n → (IsMultiple r (biased n) → ⊥) → read_by_row row n ≡ Err (unread r.from)
ratio_unread (UnitRow.Steps part) r g q n f h miss = absurd q
ratio_unread (UnitRow.Multiple k) r g q n f h miss = multiple_unread k r g n f q miss ∙ ap (λ (b : Bool). Err (cond b OutOfRange Inexact)) (sym (eq-eqb r.from 1 q.from_is))
ratio_unread (UnitRow.Fraction k) r g q n f h miss = fraction_unread k r (divisor g) n f q h miss ∙ ap (λ (b : Bool). Err (cond b OutOfRange Inexact)) (sym (ne_eqb r.from 1 (λ e. omega (arith, q.from_is, g))))

-- ---- writing

-- the instant t, at place i, is written as a number, at the same place
pub record WrittenAt (row : UnitRow) (r : Ratio) (t : ℤ) (i : ℕ) : Type 0 where
  pub number : ℤ
  pub fits : SFits w64 number
  pub inside : in_range ProlepticGregorian t ≡ true
  pub written : write_by_row row t ≡ Ok number
  pub place : Place r.to r.below r.above (biased number) i

-- an instant at a place
instant_in : (t : ℤ) → SFits w64 t → Within years_below years_above (biased t) → in_range ProlepticGregorian t ≡ true
instant_in t f w = ap (in_range ProlepticGregorian) (sym (unbiased_biased t f)) ∙ in_years_lem (biased t) w

multiple_written : (k : ℕ) (r : Ratio) → 0 < k → WritesByRatio (UnitRow.Multiple k) r → (t : ℤ) → SFits w64 t → (i : ℕ) → Place r.from r.below r.above (biased t) i → WrittenAt (UnitRow.Multiple k) r t i
unfolding write_by_row
multiple_written k r h q t f i p =
    let p = from_place q (biased t) i p in
    let x = quotient_at years_below years_above k h (omega arith) t f i p in
    let u = x.biased_quotient in
    let w : Within years_below years_above u = record { low = omega (arith, x.place.is, div-le_self years_below k); high = omega (arith, x.place.is, x.place.inside, div-le_self years_above k) } in
    record {
      number = unbiased u;
      fits = years_fit u w;
      inside = instant_in t f (within years_below years_above k h (biased t) i p);
      written = x.is;
      place = to_place q (biased (unbiased u)) i (subst (λ (v : ℕ). Place 1 (years_below / k) (years_above / k) v i) (sym (lift_sub u 9223372036854775808)) x.place);
    }

fraction_written : (k : ℕ) (r : Ratio) → 0 < k → 1000 ≤ k → WritesByRatio (UnitRow.Fraction k) r → (t : ℤ) → SFits w64 t → (i : ℕ) → Place r.from r.below r.above (biased t) i → WrittenAt (UnitRow.Fraction k) r t i
unfolding write_by_row
fraction_written k r h g q t f i p =
    let p = from_place q (biased t) i p in
    let x = product_at greatest_number greatest_number k h (omega arith) t f i p in
    let v = x.biased_product in
    let b = within_holds v x.bounded in
    record {
      number = unbiased v;
      fits = (holds_fits (unbiased v) b).0;
      inside = instant_in t f (quotient_within k (biased t) i g p);
      written = ap number_written x.is ∙ ap (λ (b : Bool). cond b (Ok (unbiased v)) (Err Inexact)) b;
      place = to_place q (biased (unbiased v)) i (subst (λ (u : ℕ). Place k (greatest_number / k) (greatest_number / k) u i) (sym (lift_sub v 9223372036854775808)) x.place);
    }

pub ratio_written : (row : UnitRow) (r : Ratio) → GoodRow row → WritesByRatio row r → (t : ℤ) → SFits w64 t → (i : ℕ) → Place r.from r.below r.above (biased t) i → WrittenAt row r t i
ratio_written (UnitRow.Steps part) r g q = absurd q
ratio_written (UnitRow.Multiple k) r g q = multiple_written k r g q
ratio_written (UnitRow.Fraction k) r g q = fraction_written k r (divisor g) g q

module _ (k : ℕ) (r : Ratio) (h : 0 < k) (t : ℤ) (f : SFits w64 t) where
  -- an instant that is written is one of the multiples
  instant_place : WritesByRatio (UnitRow.Multiple k) r → in_range ProlepticGregorian t ≡ true → (m : ℤ) → in_periods t k ≡ Ok m → IsMultiple r (biased t)
  instant_place q g m e =
      let w = within_years (biased t) (ap (in_range ProlepticGregorian) (unbiased_biased t f) ∙ g) in
      let p = quotient_place years_below years_above k h (omega arith) t m f w e in
      (p.0, place_back q (biased t) p.0 p.1)

  held_place : WritesByRatio (UnitRow.Fraction k) r → holds_time (t *ℤ pos k) ≡ true → IsMultiple r (biased t)
  held_place q e =
      let g = holds_fits (t *ℤ pos k) e in
      let p = product_place greatest_number greatest_number k h (omega arith) t f g.0 (number_within (t *ℤ pos k) g.0 g.1) in
      (p.0, place_back q (biased t) p.0 p.1)

  multiple_unwritten : WritesByRatio (UnitRow.Multiple k) r → in_range ProlepticGregorian t ≡ true → (IsMultiple r (biased t) → ⊥) → write_by_row (UnitRow.Multiple k) t ≡ Err Inexact
  unfolding write_by_row
  multiple_unwritten q g miss = inexact t k (λ m e. miss (instant_place q g m e))

  fraction_unwritten : WritesByRatio (UnitRow.Fraction k) r → (IsMultiple r (biased t) → ⊥) → write_by_row (UnitRow.Fraction k) t ≡ Err Inexact
  unfolding write_by_row
  fraction_unwritten q miss = ap (λ (b : Bool). cond b (Ok (t *ℤ pos k)) (Err Inexact)) (to_false (holds_time (t *ℤ pos k)) (λ e. miss (held_place q e)))

pub instant_found : (row : UnitRow) (r : Ratio) → GoodRow row → WritesByRatio row r → (t : ℤ) → SFits w64 t → in_range ProlepticGregorian t ≡ true → is_none (offset_refusal (write_by_row row t)) ≡ true → IsMultiple r (biased t)
unfolding write_by_row
instant_found (UnitRow.Steps part) r g q t f h e = absurd q
instant_found (UnitRow.Multiple k) r g q t f h e = go (in_periods t k) refl e
  where
    go : (a : Result ℤ Refusal) → in_periods t k ≡ a → is_none (offset_refusal a) ≡ true → IsMultiple r (biased t)
    go (Ok m) e i = instant_place k r g t f q h m e
    go (Err m) e i = absurd (false≢true i)
instant_found (UnitRow.Fraction k) r g q t f h e = go (holds_time (t *ℤ pos k)) refl e
  where
    go : (b : Bool) → holds_time (t *ℤ pos k) ≡ b → is_none (offset_refusal (cond b (Ok (t *ℤ pos k)) (Err Inexact))) ≡ true → IsMultiple r (biased t)
    go true e i = held_place k r (divisor g) t f q e
    go false e i = absurd (false≢true i)

pub ratio_unwritten : (row : UnitRow) (r : Ratio) → GoodRow row → WritesByRatio row r → (t : ℤ) → SFits w64 t → in_range ProlepticGregorian t ≡ true → (IsMultiple r (biased t) → ⊥) → write_by_row row t ≡ Err Inexact
ratio_unwritten (UnitRow.Steps part) r g q t f i miss = absurd q
ratio_unwritten (UnitRow.Multiple k) r g q t f i miss = multiple_unwritten k r g t f q i miss
ratio_unwritten (UnitRow.Fraction k) r g q t f i miss = fraction_unwritten k r (divisor g) t f q miss
