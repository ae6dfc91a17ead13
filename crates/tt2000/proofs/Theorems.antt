-- What is proved of TT2000 with a good list of leap seconds s: there and back, order, second 60, nanosecond 0, and what is refused.
use Rattle.std.specs.Prelude.{Result, Ok, Err}
use mathlib.Core.Path.{◌≡◌, refl, sym, ap, ◌∙◌, subst}
use mathlib.Core.Bool.{Bool, true, false, ◌&&◌, ◌||◌, cond, true≢false}
use mathlib.Core.List.{List}
use Prim.Native.Nat.{ℕ, suc, ◌+◌, ◌-◌, ◌*◌, ◌/◌, ◌<◌, ◌≤◌}
use native.Mathlib.Omega.{arith}
use native.Mathlib.Decide.{dec_le}
use lib.Dec.{leb, ltb, eqb}
use lib.IntN.{ℤ, pos, negsuc, pred_ℤ}
use lib.ListN.{length}
use lib.Signed.{lt_z, mag}
use mir.Syntax.{w64}
use mir.Val.{SFits}
use borrow.Author.Tests.{le-leb, leb-true, lt-ltb, le-ltb, ltb-true, ltb-false, eq-eqb, ne_eqb}
use Rattle.refusal.specs.declared.Refusal.TheVariants.{OutOfRange}
use Rattle.signed.specs.Bias.{unbiased}
use Rattle.signed.proofs.Tests.{test_is, both, and_parts}
use Rattle.signed.proofs.Differences.{by_sign, sub_high, sub_lt}
use Rattle.signed.proofs.Lexicographic.{lexicographic}
use Rattle.calendar.specs.Calendar.{date, date_of, exists, in_years}
use Rattle.calendar.specs.Order.{earlier, same_date}
use Rattle.calendar.specs.Answers.{is_possible}
use Rattle.calendar.specs.declared.Calendar.TheVariants.{ProlepticGregorian}
use Rattle.calendar.specs.declared.Date.{Date}
use Rattle.calendar.proofs.Existing.{exists_possible}
use Rattle.calendar.proofs.Answering.{years_middle}
use Rattle.calendar.proofs.Numbering.{same_day, same_of, same_self}
use Rattle.calendar.proofs.Theorems.{order, dates_exist}
use Rattle.calendar.proofs.AnyYear.{day_10957}
use Rattle.leap_seconds.specs.Leaps.{Leap, leap_at, leaps, is_good}
use Rattle.leap_seconds.specs.Utc.{count_on, moment}
use Rattle.leap_seconds.specs.Closed.{day_at}
use Rattle.leap_seconds.proofs.OnDays.{there_later, after_first, holds_order, count_is, held, found_later}
use Rattle.leap_seconds.proofs.Moments.{InDay, day_seconds_lem, later_day}
use Rattle.tt2000.specs.Tt2000.{tt_of, utc_fields_at, read_tt2000, date_of_utc, day_second, is_leap_date, is_utc_time, in64_bits, limited, write_tt2000}
use Rattle.tt2000.specs.Order.{earlier_utc}
use Rattle.tt2000.specs.declared.UtcFields.{UtcFields}
use Rattle.tt2000.proofs.Numbers.{Limited, in_bits, too_great, limits}
use Rattle.tt2000.proofs.Writing.{Second, plain, leap, time_of_lem, on_day_lem, before_1972}
use Rattle.tt2000.proofs.LeapDates.{eve}
use Rattle.tt2000.proofs.Clock.{clock_order}
use Rattle.tt2000.proofs.Times.{date_of_fields, second_of_fields, time_of_fields, in_day, fields_back}
use Rattle.tt2000.proofs.Answered.{l, number_on, tt_on, read_as, read_of, Outcome, impossible, not_there, early, far, on, outcome, written_as}
use Rattle.refusal.specs.declared.Refusal.{Refusal}

-- ---- 64 bits

pub bits_of_fits : (z : ℤ) → SFits w64 z → in64_bits z ≡ true
bits_of_fits (pos n) f = le-leb n 9223372036854775807 (omega (arith, f.sfits))
bits_of_fits (negsuc n) f = rw (le-leb n 9223372036854775807 (omega (arith, f.sfits)))

pub fits_of_bits : (z : ℤ) → in64_bits z ≡ true → SFits w64 z
fits_of_bits (pos n) h = record { sfits = omega (arith, leb-true n 9223372036854775807 h) }
fits_of_bits (negsuc n) h = record { sfits = omega (arith, leb-true n 9223372036854775807 (and_parts (leb n 9223372036854775807) true h).0) }

module _ (s : List ℕ) (good : is_good s ≡ true) where
  -- ---- there and back

  -- a 64-bit number lies before the year 10000
  day_near : (d q j n : ℕ) → SFits w64 (number_on s good d q j n) → d < 2800000
  day_near d q j n = by_sign (λ (z : ℤ). SFits w64 z → d < 2800000) ((d * 86400 + q + (10 + j)) * 1000000000 + n) 946727967816000000 (λ h f. omega arith) (λ h f. omega (arith, f.sfits))

  pub write_undoes_read : (t : ℤ) (f : UtcFields) → SFits w64 t → read_tt2000 s t ≡ Ok f → write_tt2000 s f ≡ Ok t
  unfolding utc_fields_at
  write_undoes_read t f fits h =
      let r = read_as s good t f h in
      let d = r.day in
      let q = r.second in
      let g = utc_fields_at (moment d q) r.nanosecond in
      let dated : date_of ProlepticGregorian (pos d) ≡ date_of_utc g = sym (date_of_fields s (l s good) d q r.leaps_before r.nanosecond r.in_day r.small) in
      let near = day_near d q r.leaps_before r.nanosecond (subst (SFits w64) (sym r.number) fits) in
      let k : unbiased (9223372036854775808 + d) ≡ pos d = sub_high (9223372036854775808 + d) 9223372036854775808 (omega arith) ∙ ap pos (omega arith) in
      let years : in_years (date_of_utc g).year ≡ true = ap (λ (x : Date). in_years x.year) (sym dated) ∙ (ap (λ (z : ℤ). in_years (date_of ProlepticGregorian z).year) (sym k) ∙ years_middle ProlepticGregorian (9223372036854775808 + d) (omega arith) (omega arith)) in
      let there : exists ProlepticGregorian (date_of_utc g) ≡ true = ap (exists ProlepticGregorian) (sym dated) ∙ dates_exist ProlepticGregorian (pos d) in
      let late : earlier (date_of_utc g) (date (pos 1972) 1 1) ≡ false = before_1972 (date_of_utc g) (pos d) dated ∙ le-ltb d 730 r.in_day.low in
      let number : tt_of (leaps s) (pos d) (day_second g) r.nanosecond ≡ t = tt_on s good d (day_second g) r.leaps_before r.nanosecond r.in_day.holds ∙ (ap (λ (p : ℕ). number_on s good d p r.leaps_before r.nanosecond) (second_of_fields s (l s good) d q r.leaps_before r.nanosecond r.in_day r.small) ∙ r.number) in
      ap (write_tt2000 s) (sym r.is)
      ∙ (on_day_lem s g good (time_of_fields s (l s good) d q r.leaps_before r.nanosecond r.in_day r.small) there (pos d) late years dated
      ∙ (ap limited number ∙ ap (λ (b : Bool). cond b (Ok t) (Err OutOfRange)) (bits_of_fits t fits)))

  pub read_undoes_write : (f : UtcFields) (t : ℤ) → write_tt2000 s f ≡ Ok t → read_tt2000 s t ≡ Ok f
  read_undoes_write f t h =
      let w = written_as s good f t h in
      let i = in_day s (l s good) f w.time w.day w.leaps_before w.holds w.low w.dated in
      ap (read_tt2000 s) (sym w.number)
      ∙ (read_of s good w.day (day_second f) w.leaps_before f.nanosecond i w.time.nanosecond
      ∙ ap Ok (fields_back s (l s good) f w.time w.day w.leaps_before w.holds w.low w.dated))

  pub written_fits : (f : UtcFields) (t : ℤ) → write_tt2000 s f ≡ Ok t → SFits w64 t
  written_fits f t h = fits_of_bits t (written_as s good f t h).fits

  -- TT = UTC + count + 32.184 s: the number is that of the fields on the day of their date
  pub number_of_fields : (t : ℤ) (f : UtcFields) → read_tt2000 s t ≡ Ok f → (d : ℤ) × (date_of ProlepticGregorian d ≡ date_of_utc f) × (tt_of (leaps s) d (day_second f) f.nanosecond ≡ t)
  unfolding utc_fields_at
  number_of_fields t f h =
      let r = read_as s good t f h in
      let d = r.day in
      let q = r.second in
      let n = r.nanosecond in (
        pos d,
        sym (date_of_fields s (l s good) d q r.leaps_before n r.in_day r.small) ∙ ap date_of_utc r.is,
        ap (λ (g : UtcFields). tt_of (leaps s) (pos d) (day_second g) g.nanosecond) (sym r.is)
            ∙ (ap (λ (k : ℕ). tt_of (leaps s) (pos d) k n) (second_of_fields s (l s good) d q r.leaps_before n r.in_day r.small) ∙ (tt_on s good d q r.leaps_before n r.in_day.holds ∙ r.number)),
      )

  -- ---- of two numbers that are read the less is the earlier time, and the other way round

  module _ (d q j n d' q' j' n' : ℕ) (a : InDay s (l s good) d q j) (b : InDay s (l s good) d' q' j') (small : n < 1000000000) (small' : n' < 1000000000) where
    abbrev x : ℕ
    x = (d * 86400 + q + (10 + j)) * 1000000000 + n

    abbrev x' : ℕ
    x' = (d' * 86400 + q' + (10 + j')) * 1000000000 + n'

    -- a day counted as 86,401 seconds has room for each of them
    abbrev y : ℕ
    y = d * 86401000000000 + (q * 1000000000 + n)

    abbrev y' : ℕ
    y' = d' * 86401000000000 + (q' * 1000000000 + n')

    number_order : ltb y y' ≡ lt_z (number_on s good d q j n) (number_on s good d' q' j' n')
    number_order =
        let most = (day_seconds_lem (leaps s) d).1 in
        let most' = (day_seconds_lem (leaps s) d').1 in
        elim (dec_le (suc d) d') [
          | yes h ↦ lt-ltb y y' (omega (arith, a.within)) ∙ sym (lt-ltb x x' (omega (arith, later_day s (l s good) d q j d' q' j' a b h)))
          | no h ↦ elim (dec_le (suc d') d) [
            | yes g ↦ le-ltb y y' (omega (arith, b.within)) ∙ sym (le-ltb x x' (omega (arith, later_day s (l s good) d' q' j' d q j b a g)))
            | no g ↦
                let k : j ≡ j' = omega (arith, holds_order s (l s good) d d' j j' a.holds b.holds (omega arith), holds_order s (l s good) d' d j' j b.holds a.holds (omega arith)) in
                test_is (ltb y y') (ltb x x') (λ e. lt-ltb x x' (omega (arith, ltb-true y y' e))) (λ e. le-ltb x x' (omega (arith, ltb-false y y' e)))
          ]
        ]
        ∙ sym (sub_lt x x' 946727967816000000)

  pub rises : (t u : ℤ) (f g : UtcFields) → read_tt2000 s t ≡ Ok f → read_tt2000 s u ≡ Ok g → earlier_utc f g ≡ lt_z t u
  unfolding earlier_utc utc_fields_at
  rises t u f g h k =
      let r = read_as s good t f h in
      let v = read_as s good u g k in
      let d = r.day in
      let d' = v.day in
      let q = r.second in
      let q' = v.second in
      let n = r.nanosecond in
      let n' = v.nanosecond in
      let low : q ≤ 86400 = omega (arith, r.in_day.within, (day_seconds_lem (leaps s) d).1) in
      let low' : q' ≤ 86400 = omega (arith, v.in_day.within, (day_seconds_lem (leaps s) d').1) in
      let days : earlier (date_of ProlepticGregorian (pos d)) (date_of ProlepticGregorian (pos d')) ≡ ltb d d' = order ProlepticGregorian (pos d) (pos d') in
      let same : same_date (date_of ProlepticGregorian (pos d)) (date_of ProlepticGregorian (pos d')) ≡ eqb d d' = same_day ProlepticGregorian (pos d) (pos d') (eqb d d') (λ e. eq-eqb d d' (ap mag e)) (λ e. ne_eqb d d' (λ g. e (ap pos g))) in
      (λ i. earlier_utc (sym r.is i) (sym v.is i))
      ∙ ((λ i. days i || (same i && clock_order q n q' n' low low' r.small v.small i))
      ∙ (sym (lexicographic 86401000000000 d (q * 1000000000 + n) d' (q' * 1000000000 + n') (omega (arith, r.small)) (omega (arith, v.small)))
      ∙ (number_order d q r.leaps_before n d' q' v.leaps_before n' r.in_day v.in_day r.small v.small
      ∙ (λ i. lt_z (r.number i) (v.number i)))))

  -- ---- second 60

  -- is read only as 23:59:60 of a date before a record's day
  pub second_60 : (t : ℤ) (f : UtcFields) → read_tt2000 s t ≡ Ok f → f.second ≡ 60 → (f.hour ≡ 23) × (f.minute ≡ 59) × (is_leap_date (leaps s) (date_of_utc f) ≡ true)
  second_60 t f h e =
      let r = read_as s good t f h in
      let time = subst (λ (g : UtcFields). is_utc_time (leaps s) g ≡ true) r.is (time_of_fields s (l s good) r.day r.second r.leaps_before r.nanosecond r.in_day r.small) in
      go (time_of_lem (leaps s) f time).second
    where
      go : Second (leaps s) f → (f.hour ≡ 23) × (f.minute ≡ 59) × (is_leap_date (leaps s) (date_of_utc f) ≡ true)
      go (plain g) = absurd (omega arith)
      go (leap a b c g) = (a, b, g)

  -- which are the dates of the days before the records, the first left out
  pub leap_date : (x : Date) → is_leap_date (leaps s) x ≡ true → (k : ℕ) × (1 ≤ k) × (k < length s / 16) × (date_of ProlepticGregorian (pred_ℤ (leap_at s k).day) ≡ x)
  unfolding is_leap_date
  leap_date x h =
      let f = found_later s (l s good) (λ (r : Leap). same_date (date_of ProlepticGregorian (pred_ℤ r.day)) x) h in
      (f.0, f.1, f.2, same_of (date_of ProlepticGregorian (pred_ℤ (leap_at s f.0).day)) x f.3)

  pub leap_date_there : (x : Date) (k : ℕ) → 1 ≤ k → k < length s / 16 → date_of ProlepticGregorian (pred_ℤ (leap_at s k).day) ≡ x → is_leap_date (leaps s) x ≡ true
  unfolding is_leap_date
  leap_date_there x k a b e = there_later s (l s good) (λ (r : Leap). same_date (date_of ProlepticGregorian (pred_ℤ r.day)) x) k a b (ap (λ (y : Date). same_date y x) e ∙ same_self x)

  -- each of them has its second 60, which is written where it does not lie past 64 bits
  module _ (f : UtcFields) (time : (f.hour ≡ 23) × (f.minute ≡ 59) × (f.second ≡ 60)) (n : f.nanosecond < 1000000000) (h : is_leap_date (leaps s) (date_of_utc f) ≡ true) where
    leap_time : is_utc_time (leaps s) f ≡ true
    unfolding is_utc_time
    leap_time = rw (lt-ltb f.hour 24 (omega (arith, time.0)), lt-ltb f.minute 60 (omega (arith, time.1)), le-ltb f.second 60 (omega (arith, time.2)), eq-eqb f.hour 23 time.0, eq-eqb f.minute 59 time.1, eq-eqb f.second 60 time.2, h, lt-ltb f.nanosecond 1000000000 n)

    -- the day before record k
    leap_day : (d : ℕ) × (730 ≤ d) × (date_of ProlepticGregorian (pos d) ≡ date_of_utc f)
    leap_day =
        let k = leap_date (date_of_utc f) h in
        (day_at s k.0 - 1, omega (arith, after_first s (l s good) k.0 k.1 k.2), ap (date_of ProlepticGregorian) (sym (eve s (l s good) (date_of_utc f) k.0 k.1 k.2)) ∙ k.3)

    leap_there : exists ProlepticGregorian (date_of_utc f) ≡ true
    leap_there = ap (exists ProlepticGregorian) (sym leap_day.2) ∙ dates_exist ProlepticGregorian (pos leap_day.0)

    leap_late : earlier (date_of_utc f) (date (pos 1972) 1 1) ≡ false
    leap_late = before_1972 (date_of_utc f) (pos leap_day.0) leap_day.2 ∙ le-ltb leap_day.0 730 leap_day.1

    pub leap_second : (write_tt2000 s f ≡ Err OutOfRange → ⊥) → (t : ℤ) × (write_tt2000 s f ≡ Ok t)
    leap_second past = go (outcome s good f) refl
      where
        clash : {b : Bool} → b ≡ true → b ≡ false → ⊥
        clash p q = true≢false (sym p ∙ q)

        by_bits : {z : ℤ} {r : Result ℤ Refusal} → Limited z r → r ≡ write_tt2000 s f → (t : ℤ) × (write_tt2000 s f ≡ Ok t)
        by_bits {z} (in_bits g) e = (z, sym e)
        by_bits too_great e = absurd (past (sym e))

        go : {r : Result ℤ Refusal} → Outcome s good f r → r ≡ write_tt2000 s f → (t : ℤ) × (write_tt2000 s f ≡ Ok t)
        go (impossible g) e = absurd (clash (both (is_utc_time (leaps s) f) (is_possible f.month f.day) leap_time (exists_possible ProlepticGregorian (date_of_utc f) leap_there)) g)
        go (not_there p g) e = absurd (clash leap_there g)
        go (early p g b) e = absurd (clash b leap_late)
        go (far p g b y) e = absurd (past (sym e))
        go (on d j p g b low dated held) e = by_bits (limits (number_on s good d (day_second f) j f.nanosecond)) e

  -- ---- nanosecond 0

  pub nanosecond_0 : count_on (leaps s) (pos 10957) ≡ pos 32 → read_tt2000 s (pos 0) ≡ Ok (record { year = pos 2000; month = 1; day = 1; hour = 11; minute = 58; second = 55; nanosecond = 816000000 })
  unfolding utc_fields_at
  nanosecond_0 h =
      let j = held s (l s good) 10957 (omega arith) in
      let count = (count_is s (l s good) 10957 j.0 j.1).is in
      let e : j.0 ≡ 22 = omega (arith, ap mag (sym count ∙ h)) in
      let i : InDay s (l s good) 10957 43135 j.0 = record { holds = j.1; low = omega arith; within = omega (arith, (day_seconds_lem (leaps s) 10957).0) } in
      let zero_at : number_on s good 10957 43135 j.0 816000000 ≡ pos 0 = ap (λ (k : ℕ). number_on s good 10957 43135 k 816000000) e in
      ap (read_tt2000 s) (sym zero_at) ∙ (read_of s good 10957 43135 j.0 816000000 i (omega arith) ∙ ap (λ (x : Date). Ok (record { year = x.year; month = x.month; day = x.day; hour = 11; minute = 58; second = 55; nanosecond = 816000000 })) day_10957)
