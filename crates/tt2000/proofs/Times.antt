-- Fields of UTC and the seconds of its days: each second of a day has its fields, and fields that are a time of UTC are those of their second.
use mathlib.Core.Path.{◌≡◌, refl, sym, ap, ◌∙◌}
use mathlib.Core.Bool.{Bool, true, false, cond}
use mathlib.Core.List.{List}
use Prim.Native.Nat.{ℕ, ◌-◌, ◌*◌, ◌/◌, ◌%◌, ◌<◌, ◌≤◌}
use native.Mathlib.Omega.{arith}
use native.Mathlib.Decide.{dec_le}
use lib.IntN.{pos}
use borrow.Author.Tests.{lt-ltb, le-ltb, eq-eqb}
use Rattle.calendar.specs.Calendar.{date_of}
use Rattle.calendar.specs.declared.Calendar.TheVariants.{ProlepticGregorian}
use Rattle.calendar.specs.declared.Date.{Date}
use Rattle.leap_seconds.specs.Leaps.{leaps}
use Rattle.leap_seconds.specs.Utc.{is_leap_day, day_seconds, moment}
use Rattle.leap_seconds.specs.Closed.{HoldsOn}
use Rattle.leap_seconds.proofs.Listed.{Listed}
use Rattle.leap_seconds.proofs.Moments.{InDay, day_seconds_lem}
use Rattle.tt2000.specs.Tt2000.{minute_of, utc_fields_at, date_of_utc, day_second, is_leap_date, is_second, is_utc_time}
use Rattle.tt2000.specs.declared.UtcFields.{UtcFields}
use Rattle.tt2000.proofs.LeapDates.{leap_date_is}
use Rattle.tt2000.proofs.Writing.{Second, plain, leap, UtcTime}
use Rattle.tt2000.proofs.Clock.{Clock, clock}

pub utc_eq : {f g : UtcFields} → f.year ≡ g.year → f.month ≡ g.month → f.day ≡ g.day → f.hour ≡ g.hour → f.minute ≡ g.minute → f.second ≡ g.second → f.nanosecond ≡ g.nanosecond → f ≡ g
utc_eq a b c d e m n = λ i. record { year = a i; month = b i; day = c i; hour = d i; minute = e i; second = m i; nanosecond = n i }

module _ (s : List ℕ) (l : Listed s) where
  -- ---- the fields of second q of day d

  module _ (d q j n : ℕ) (i : InDay s l d q j) (small : n < 1000000000) where
    abbrev f : UtcFields
    f = utc_fields_at (moment d q) n

    at : Clock q
    at = clock q (omega (arith, i.within, (day_seconds_lem (leaps s) d).1))

    pub date_of_fields : date_of_utc (utc_fields_at (moment d q) n) ≡ date_of ProlepticGregorian (pos d)
    unfolding utc_fields_at
    date_of_fields = refl

    pub second_of_fields : day_second (utc_fields_at (moment d q) n) ≡ q
    unfolding utc_fields_at
    second_of_fields = omega (arith, at.begun)

    last_second : q ≡ 86400 → is_leap_date (leaps s) (date_of ProlepticGregorian (pos d)) ≡ true
    last_second e = leap_date_is s l (date_of ProlepticGregorian (pos d)) d refl ∙ go (is_leap_day (leaps s) d) i.within
      where
        go : (t : Bool) → q < cond t 86401 86400 → t ≡ true
        go true h = refl
        go false h = absurd (omega arith)

    second_good : is_second (leaps s) (utc_fields_at (moment d q) n) ≡ true
    unfolding utc_fields_at
    second_good =
        elim (dec_le 60 (q - minute_of q * 60)) [
          | yes h ↦
              let e = at.last (omega (arith, at.second_small)) in
              rw (le-ltb (q - minute_of q * 60) 60 h, eq-eqb (minute_of q / 60) 23 (omega (arith, e.1)), eq-eqb (minute_of q % 60) 59 (omega (arith, e.1)), eq-eqb (q - minute_of q * 60) 60 (omega (arith, at.second_small))) (last_second e.0)
          | no h ↦ rw (lt-ltb (q - minute_of q * 60) 60 (omega arith))
        ]

    pub time_of_fields : is_utc_time (leaps s) (utc_fields_at (moment d q) n) ≡ true
    unfolding utc_fields_at is_utc_time
    time_of_fields = rw (lt-ltb (minute_of q / 60) 24 (omega (arith, at.minute_small)), lt-ltb (minute_of q % 60) 60 (omega arith), second_good, lt-ltb n 1000000000 small)

  -- ---- fields that are a time of day of day d

  module _ (f : UtcFields) (t : UtcTime (leaps s) f) (d j : ℕ) (h : HoldsOn s d j) (low : 730 ≤ d) (e : date_of ProlepticGregorian (pos d) ≡ date_of_utc f) where
    pub in_day : InDay s l d (day_second f) j
    in_day = record { holds = h; low = low; within = go t.second }
      where
        go : Second (leaps s) f → day_second f < day_seconds (leaps s) d
        go (plain g) = omega (arith, t.hour, t.minute, (day_seconds_lem (leaps s) d).0)
        go (leap a b c g) =
            let y : is_leap_day (leaps s) d ≡ true = sym (leap_date_is s l (date_of_utc f) d e) ∙ g in
            let k : day_seconds (leaps s) d ≡ 86401 = rw y in
            omega arith

    pub fields_back : utc_fields_at (moment d (day_second f)) f.nanosecond ≡ f
    unfolding utc_fields_at
    fields_back = go t.second
      where
        by_minute : (q m : ℕ) → minute_of q ≡ m → m / 60 ≡ f.hour → m % 60 ≡ f.minute → q - m * 60 ≡ f.second → utc_fields_at (moment d q) f.nanosecond ≡ f
        by_minute q m k a b c = utc_eq (ap (λ (x : Date). x.year) e) (ap (λ (x : Date). x.month) e) (ap (λ (x : Date). x.day) e) (ap (λ (n : ℕ). n / 60) k ∙ a) (ap (λ (n : ℕ). n % 60) k ∙ b) (ap (λ (n : ℕ). q - n * 60) k ∙ c) refl

        go : Second (leaps s) f → utc_fields_at (moment d (day_second f)) f.nanosecond ≡ f
        go (plain g) =
            let q = day_second f in
            by_minute q (q / 60) (rw (lt-ltb q 86400 (omega (arith, t.hour, t.minute)))) (omega (arith, t.minute)) (omega (arith, t.minute)) (omega arith)
        go (leap a b c g) =
            let q = day_second f in
            by_minute q 1439 (rw (le-ltb q 86400 (omega arith))) (omega arith) (omega arith) (omega arith)
