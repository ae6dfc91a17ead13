-- What is proved of the calendars, in one place. `c` is any of the six calendars, z and w any integers. Each of the first seven is a
-- law of every row whose cutover meets `Days.Cutover`, read off for the rows of the calendars.
use Rattle.std.specs.Prelude.{Result, Ok}
use mathlib.Core.Path.{◌≡◌, refl, sym, ap, ◌∙◌}
use mathlib.Core.Bool.{Bool, true, false, ◌&&◌, cond, true≢false}
use Prim.Native.Nat.{ℕ, zero, suc, ◌+◌, ◌-◌, ◌<◌, ◌^◌}
use native.Mathlib.Omega.{arith}
use lib.IntN.{ℤ, pos, negsuc, suc_ℤ, sub_ℕ, ◌+ℤ◌, +ℤ-suc_ℤ, +ℤ_idr, -ℤ-+ℤ_cancel}
use lib.Dec.{leb, ltb}
use lib.Signed.{le_z, lt_z}
use borrow.Author.Tests.{leb-true, ltb-true, ltb-false, eqb-false}
use Rattle.signed.proofs.Tests.{and_parts}
use Rattle.signed.proofs.Differences.{sub_low, sub_high}
use Rattle.calendar.specs.Plain.{lacks_year}
use Rattle.calendar.specs.Calendar.{has_year_zero, year_after, next, prev, date_of, DaysOn, exists, in_years, date, row_of, next_by, prev_by, exists_by, date_by, epoch, times}
use Rattle.calendar.specs.Order.{earlier}
use Rattle.calendar.specs.Cutover.{cutover_after}
use Rattle.calendar.specs.Answers.{is_possible, day_number, day_with}
use Rattle.calendar.specs.Closed.{year_start, year_at, count, place_of, label, day_place, counts, late_from, lag, rule_at, lag_at, day_by_rule, epoch_day, rule_of_day}
use Rattle.calendar.specs.declared.Calendar.{Calendar}
use Rattle.calendar.specs.declared.Calendar.TheVariants.{Standard, ProlepticGregorian, Julian}
use Rattle.calendar.specs.declared.Date.{Date}
use Rattle.calendar.specs.declared.place.Place.{Place}
use Rattle.calendar.specs.declared.rule.Rule.{Rule}
use Rattle.calendar.proofs.Ordered.{before_of, earlier_of}
use Rattle.calendar.proofs.Existing.{date_eq, valid_of, valid_year, no_year_lem, not_there}
use Rattle.calendar.proofs.Labels.{year_low, year_high}
use Rattle.calendar.proofs.Plain.{Chain}
use Rattle.calendar.proofs.Walk as Walk
use Rattle.calendar.proofs.Joint.{next_early, exists_early}
use Rattle.calendar.proofs.Days.{day_date, placed_date, row_chain, row_start_lem, dated_early, dated_late, late_small}
use Rattle.calendar.proofs.Places.{at, year_ge}
use Rattle.calendar.proofs.Cutovers.{cutover_is}
use Rattle.calendar.proofs.Rows.{cutover, joint, plain_next, plain_exists}
use Rattle.calendar.proofs.Range as Range
use Rattle.calendar.proofs.Range.{low_day, high_day}
use Rattle.calendar.proofs.Counting.{numbered}
use Rattle.calendar.proofs.Numbering as Numbering
use Rattle.calendar.proofs.Numbering.{number_is}
use Rattle.calendar.proofs.Answering.{DayOutcome, past, impossible, missing, was_dropped, there, day_outcome}
use Rattle.refusal.specs.declared.Refusal.{Refusal}

-- the count of a year from -10000
pub record Count (z : Bool) (y : ℤ) : Type 0 where
  pub count : ℕ
  pub is : year_at z count ≡ y

pub count_of : (z : Bool) (y : ℤ) → in_years y ≡ true → lacks_year z y ≡ false → Count z y
count_of true (pos n) h g = record { count = n + 10000; is = sub_high (n + 10000) 10000 (omega arith) ∙ ap pos (omega arith) }
count_of true (negsuc n) h g =
    let l = leb-true n 9998 (and_parts (leb n 9998) true h).0 in
    record { count = 10000 - suc n; is = sub_low (10000 - suc n) 10000 (omega arith) ∙ ap negsuc (omega arith) }
count_of false (pos n) h g =
    let l = eqb-false n 0 g in
    record { count = n + 10000; is = year_high (n + 10000) (omega arith) ∙ ap pos (omega arith) }
count_of false (negsuc n) h g =
    let l = leb-true n 9998 (and_parts (leb n 9998) true h).0 in
    record { count = 10000 - n; is = year_low (10000 - n) (omega arith) ∙ ap negsuc (omega arith) }

module _ (c : Calendar) where
  chain : Chain (next_by (row_of c)) (prev_by (row_of c)) (exists_by (row_of c))
  chain = row_chain (row_of c) (cutover c)

  start : exists_by (row_of c) epoch ≡ true
  start = row_start_lem (row_of c) (cutover c)

  -- undoing undoes
  pub next_prev : (x : Date) → exists c x ≡ true → next c (prev c x) ≡ x
  unfolding next prev exists
  next_prev = chain.redone

  pub prev_next : (x : Date) → exists c x ≡ true → prev c (next c x) ≡ x
  unfolding next prev exists
  prev_next = chain.undone

  -- every day number has a date that exists, and the next number has the next date
  pub dates_exist : (z : ℤ) → exists c (date_of c z) ≡ true
  unfolding exists date_of
  dates_exist = Walk.dates_exist (row_of c) chain start

  pub next_date : (z : ℤ) → next c (date_of c z) ≡ date_of c (suc_ℤ z)
  unfolding next date_of
  next_date = Walk.next_date (row_of c) chain start

  -- of two day numbers the less has the earlier date, and the other way round
  pub order : (z w : ℤ) → earlier (date_of c z) (date_of c w) ≡ lt_z z w
  unfolding date_of
  order = Walk.order (row_of c) chain start

  -- no two day numbers share a date
  pub one_day : (z w : ℤ) → date_of c z ≡ date_of c w → z ≡ w
  one_day = Numbering.one_day c

  -- the years -9999 to 9999 are those of the day numbers of an interval
  pub range : (z : ℤ) → in_years (date_of c z).year ≡ (le_z (low_day c) z && le_z z (high_day c))
  range = Range.range c

  -- n days after the date of a day number lies the date of the number n greater, and no other date that exists
  steps_exist : (n : ℕ) (x : Date) → exists c x ≡ true → exists c (times n (next c) x) ≡ true
  unfolding times next exists
  steps_exist zero x h = h
  steps_exist (suc n) x h = chain.after (times n (next c) x) (steps_exist n x h)

  steps_on : (n : ℕ) (z : ℤ) → times n (next c) (date_of c z) ≡ date_of c (z +ℤ pos n)
  unfolding times
  steps_on zero z = ap (date_of c) (sym (+ℤ_idr z))
  steps_on (suc n) z = ap (next c) (steps_on n z) ∙ (next_date (z +ℤ pos n) ∙ ap (date_of c) (sym (+ℤ-suc_ℤ z (pos n))))

  one_start : (n : ℕ) (x y : Date) → exists c x ≡ true → exists c y ≡ true → times n (next c) x ≡ times n (next c) y → x ≡ y
  unfolding times
  one_start zero x y h g e = e
  one_start (suc n) x y h g e = one_start n x y h g (sym (prev_next (times n (next c) x) (steps_exist n x h)) ∙ (ap (prev c) e ∙ prev_next (times n (next c) y) (steps_exist n y g)))

  pub days_there : (z n : ℤ) → DaysOn c (date_of c z) n (date_of c (z +ℤ n))
  days_there z (pos n) = steps_on n z
  days_there z (negsuc n) = steps_on (suc n) (z +ℤ negsuc n) ∙ ap (date_of c) (-ℤ-+ℤ_cancel z (pos (suc n)))

  pub days_only : (z n : ℤ) (x : Date) → exists c x ≡ true → DaysOn c (date_of c z) n x → x ≡ date_of c (z +ℤ n)
  days_only z (pos n) x h e = sym e ∙ days_there z (pos n)
  days_only z (negsuc n) x h e = one_start (suc n) x (date_of c (z +ℤ negsuc n)) h (dates_exist (z +ℤ negsuc n)) (e ∙ sym (days_there z (negsuc n)))

  -- the place of day n from the first place of the late rule, by the closed forms, and its date
  abbrev pub place_by_rule : ℕ → Place
  place_by_rule n = place_of (rule_of_day (counts c) n) (day_by_rule (counts c) n)

  pub date_by_place : (n : ℕ) → date_of c (sub_ℕ n (epoch_day c)) ≡ label (has_year_zero c) (place_by_rule n)
  unfolding date_of
  date_by_place n = go (ltb n (late_from (counts c))) refl
    where
      go : (t : Bool) → ltb n (late_from (counts c)) ≡ t → date_by (row_of c) (sub_ℕ n (epoch_day c)) ≡ label (has_year_zero c) (place_of (cond t (counts c).early (counts c).late) (cond t (n + lag (counts c)) n))
      go true e = dated_early (row_of c) (cutover c) n (ltb-true n (late_from (counts c)) e) ∙ sym (placed_date (counts c).early (has_year_zero c) (n + lag (counts c)))
      go false e = dated_late (row_of c) (cutover c) n (ltb-false n (late_from (counts c)) e) ∙ sym (placed_date (counts c).late (has_year_zero c) n)

  pub day_by_rule_small : (n : ℕ) → n < 2 ^ 30 → day_by_rule (counts c) n < 2 ^ 30
  day_by_rule_small n h = go (ltb n (late_from (counts c))) refl
    where
      go : (t : Bool) → ltb n (late_from (counts c)) ≡ t → cond t (n + lag (counts c)) n < 2 ^ 30
      go true e = omega (arith, ltb-true n (late_from (counts c)) e, late_small (row_of c) (cutover c))
      go false e = h

  -- there and back: a date of those years that exists is the date of its day number, and a day number is that of its date
  pub date_of_number : (x : Date) → in_years x.year ≡ true → exists c x ≡ true → date_of c (day_number c x) ≡ x
  date_of_number x h g =
      let y = count_of (has_year_zero c) x.year h (valid_year c x (valid_of c x g)) in
      let e : x ≡ date (year_at (has_year_zero c) y.count) x.month x.day = date_eq (sym y.is) refl refl in
      let z = sub_ℕ (count (rule_at (counts c) y.count x.month x.day) (day_place y.count x.month x.day)) (epoch_day c + lag_at (counts c) y.count x.month x.day) in
      let f : date_of c z ≡ x = numbered c y.count x.month x.day (ap (exists c) (sym e) ∙ g) ∙ sym e in
      ap (date_of c) (number_is c x z h f) ∙ f

  pub number_of_date : (z : ℤ) → in_years (date_of c z).year ≡ true → day_number c (date_of c z) ≡ z
  number_of_date z h = number_is c (date_of c z) z h refl

-- what a day number that was answered says, of a date and of what stands beside it
pub record Numbered (rest : Bool) (c : Calendar) (x : Date) (z : ℤ) : Type 0 where
  pub inside : in_years x.year ≡ true
  pub beside : rest ≡ true
  pub there : exists c x ≡ true
  pub is : date_of c z ≡ x

pub answered : (rest : Bool) (c : Calendar) (x : Date) (z : ℤ) → Ok z ≡ day_with rest c x → Numbered rest c x z
answered rest c x z = go (day_outcome rest c x)
  where
    go : {a : Result ℤ Refusal} → DayOutcome rest c x a → Ok z ≡ a → Numbered rest c x z
    go (past h) e = absurd (let y : ◌≡◌ {A = ℕ} 0 1 = (cc) in omega arith)
    go (impossible h p) e = absurd (let y : ◌≡◌ {A = ℕ} 0 1 = (cc) in omega arith)
    go (missing h p g d) e = absurd (let y : ◌≡◌ {A = ℕ} 0 1 = (cc) in omega arith)
    go (was_dropped h p g d) e = absurd (let y : ◌≡◌ {A = ℕ} 0 1 = (cc) in omega arith)
    go (there h p g) e = let n : z ≡ day_number c x = (cc) in record { inside = h; beside = (and_parts rest (is_possible x.month x.day) p).0; there = g; is = ap (date_of c) n ∙ date_of_number c x h g }

-- ---- `julian` beside `standard`: through the last day that `standard` keeps they have the same dates, each followed by the same

module _ (k : ℕ) where
  abbrev kept : Date
  kept = (row_of (Standard k)).last

  pub same_next : (x : Date) → earlier x kept ≡ true → next Julian x ≡ next (Standard k) x
  unfolding next
  same_next x h = plain_next Rule.Julian false x ∙ sym (next_early (row_of (Standard k)) (joint (Standard k)) x (before_of x kept h))

  pub same_dates : (x : Date) → earlier kept x ≡ false → exists Julian x ≡ exists (Standard k) x
  unfolding exists
  same_dates x h =
      plain_exists Rule.Julian false x
      ∙ sym (exists_early (row_of (Standard k)) (joint (Standard k)) x (λ b. true≢false (sym (earlier_of kept x b) ∙ h)))

  -- steps by years count the same years
  pub same_years : (y : ℤ) → year_after Julian y ≡ year_after (Standard k) y
  unfolding year_after
  same_years y = refl

-- ---- cutovers, which are Gregorian dates after year 0, as dates of `proleptic_gregorian`

pub cutover_date : (k : ℕ) → date_of ProlepticGregorian (sub_ℕ (4230526 + k) (epoch_day ProlepticGregorian)) ≡ cutover_after k
unfolding date_of day_date year_start
cutover_date k =
    let n = 4230526 + k in
    let y = (at Rule.Gregorian n).y in
    let h = year_ge Rule.Gregorian n 11582 (omega arith) in
    dated_late (row_of ProlepticGregorian) (cutover ProlepticGregorian) n (omega arith)
    ∙ (date_eq (sub_high y 10000 (omega arith) ∙ sym (year_high y (omega arith))) refl refl ∙ sym (cutover_is k))

-- a calendar without a year 0 has no date in that year
pub no_year_0 : (c : Calendar) (m d : ℕ) → has_year_zero c ≡ false → exists c (date (pos 0) m d) ≡ false
no_year_0 c m d h = not_there c (date (pos 0) m d) (λ v. true≢false (sym (no_year_lem c (pos 0) h refl) ∙ v.there))
