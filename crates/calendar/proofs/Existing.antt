-- A date that exists, part by part, and the years of the calendars.
use mathlib.Core.Path.{◌≡◌, refl, sym, ap, ◌∙◌}
use mathlib.Core.Bool.{Bool, true, false, ◌&&◌, and-false}
use Prim.Native.Nat.{ℕ, ◌≤◌}
use native.Mathlib.Omega.{arith}
use lib.IntN.{ℤ, pos}
use lib.Dec.{leb}
use borrow.Author.Tests.{le-leb, leb-true}
use Rattle.signed.proofs.Tests.{to_false, both, and_parts}
use Rattle.calendar.specs.Plain.{Plain, lacks_year, has_day}
use Rattle.calendar.specs.Calendar.{has_year_zero, year_after, year_before, exists_by, exists, dropped_by, dropped, row_of, early_part, late_part}
use Rattle.calendar.specs.Order.{earlier}
use Rattle.calendar.specs.Answers.{is_month, is_month_day, is_possible}
use Rattle.calendar.specs.declared.Calendar.{Calendar}
use Rattle.calendar.specs.declared.Date.{Date}
pub use Rattle.calendar.proofs.Ordered.{date_eq}
use Rattle.calendar.proofs.YearZero as YearZero
use Rattle.calendar.proofs.Plain as Plain
use Rattle.calendar.proofs.Joint.{Side, on_early, on_late, side_of}
use Rattle.calendar.proofs.Rows.{joint}

-- year 0, in a calendar without one
abbrev pub no_year : Calendar → ℤ → Bool
no_year c y = lacks_year (has_year_zero c) y

pub no_year_lem : (c : Calendar) (y : ℤ) → has_year_zero c ≡ false → y ≡ pos 0 → no_year c y ≡ true
no_year_lem c y h e = rw (h, e)

pub record Valid (c : Calendar) (x : Date) : Type 0 where
  pub month_low : 1 ≤ x.month
  pub month_high : x.month ≤ 12
  pub day_low : 1 ≤ x.day
  pub day_high : x.day ≤ 31
  pub there : no_year c x.year ≡ false

module _ (c : Calendar) (x : Date) where
  by_part : (p : Plain) → p.zero ≡ has_year_zero c → has_day p x ≡ true → Valid c x
  by_part p e g =
      let v = Plain.valid_of p x g in
      record { month_low = v.month_low; month_high = v.month_high; day_low = v.day_low; day_high = omega (arith, v.day_high, Plain.long p x.year x.month v.month_low v.month_high); there = ap (λ (z : Bool). lacks_year z x.year) (sym e) ∙ v.there }

  pub valid_of : exists c x ≡ true → Valid c x
  unfolding exists
  valid_of h = by_side (side_of (row_of c) (joint c) x h)
    where
      by_side : Side (row_of c) x → Valid c x
      by_side (on_early g f) = by_part (early_part (row_of c)) refl g
      by_side (on_late g f) = by_part (late_part (row_of c)) refl g

  -- a date that was dropped has no wrong part either, and does not exist
  pub valid_dropped : dropped c x ≡ true → Valid c x
  unfolding dropped dropped_by
  valid_dropped h =
      let r = row_of c in
      let w = and_parts (earlier x r.first) (has_day (early_part r) x && earlier r.last x) h in
      by_part (early_part r) refl (and_parts (has_day (early_part r) x) (earlier r.last x) w.1).0

  pub dropped_not_there : dropped c x ≡ true → exists c x ≡ false
  unfolding dropped dropped_by exists exists_by
  dropped_not_there h =
      let r = row_of c in
      let w = and_parts (earlier x r.first) (has_day (early_part r) x && earlier r.last x) h in
      rw (w.0, (and_parts (has_day (early_part r) x) (earlier r.last x) w.1).1, and-false (has_day (early_part r) x))

pub valid_year : (c : Calendar) (x : Date) → Valid c x → no_year c x.year ≡ false
valid_year c x v = v.there

-- its month and its day are possible
pub exists_possible : (c : Calendar) (x : Date) → exists c x ≡ true → is_possible x.month x.day ≡ true
exists_possible c x h =
    let v = valid_of c x h in
    both (is_month x.month) (is_month_day x.day)
    (both _ _ (le-leb 1 x.month v.month_low) (le-leb x.month _ (omega (arith, v.month_high))))
    (both _ _ (le-leb 1 x.day v.day_low) (le-leb x.day _ (omega (arith, v.day_high))))

pub possible_parts : (m d : ℕ) → is_possible m d ≡ true → (1 ≤ m) × ((m ≤ 12) × ((1 ≤ d) × (d ≤ 31)))
possible_parts m d h =
    let w = and_parts (is_month m) (is_month_day d) h in
    let a = and_parts (leb 1 m) (leb m 12) w.0 in
    let b = and_parts (leb 1 d) (leb d 31) w.1 in
    (leb-true 1 m a.0, (leb-true m 12 a.1, (leb-true 1 d b.0, leb-true d 31 b.1)))

-- a date of which some part is wrong does not exist
pub not_there : (c : Calendar) (x : Date) → (Valid c x → ⊥) → exists c x ≡ false
not_there c x f = to_false (exists c x) (λ h. f (valid_of c x h))

-- ---- the year after and the year before

pub after_before : (c : Calendar) (y : ℤ) → no_year c y ≡ false → year_after c (year_before c y) ≡ y
unfolding year_after year_before
after_before c = YearZero.after_before (has_year_zero c)

pub before_after : (c : Calendar) (y : ℤ) → no_year c y ≡ false → year_before c (year_after c y) ≡ y
unfolding year_after year_before
before_after c = YearZero.before_after (has_year_zero c)

pub before_not_0 : (c : Calendar) (y : ℤ) → no_year c (year_before c y) ≡ false
unfolding year_before
before_not_0 c = YearZero.before_not_0 (has_year_zero c)

pub after_not_0 : (c : Calendar) (y : ℤ) → no_year c (year_after c y) ≡ false
unfolding year_after
after_not_0 c = YearZero.after_not_0 (has_year_zero c)
