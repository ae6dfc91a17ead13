-- TT2000 with leap seconds, of the two calls: document 02, CR 6, and source document 003. `UtcTimes` is of a good list, and of every number and
-- all fields; what a list that is not good gets stands in `BadLists`.
use Rattle.std.specs.Prelude.{◌≡◌, true, false, List, ◌↔◌, ℕ, ◌/◌, ◌≤◌, ◌<◌, ℤ, pos, negsuc, length}
use Rattle.std.proofs.Math.IntN.{pred_ℤ}
use Rattle.std.specs.Int.Signed.{lt_z}
use Rattle.std.specs.Int.{w64}
use Rattle.std.proofs.Common.{SFits}
use Rattle.calendar.specs.Calendar.{date, date_of, exists}
use Rattle.calendar.specs.Order.{earlier}
use Rattle.calendar.specs.declared.Calendar.TheVariants.{ProlepticGregorian}
use Rattle.leap_seconds.specs.Leaps.{leap_at, leaps, is_good}
use Rattle.leap_seconds.specs.Utc.{count_on}
use Rattle.tt2000.specs.Tt2000.{tt_of, start_of, date_of_utc, day_second}
use Rattle.tt2000.specs.Order.{earlier_utc}
use Rattle.tt2000.specs.declared.UtcFields.{UtcFields}
use Rattle.uppinalo.specs.Utc.{uppinalo_read_tt2000, uppinalo_write_tt2000}
use Rattle.uppinalo.specs.RefusedDates.{ImpossibleDate}
use Rattle.uppinalo.specs.declared.utc.UppinaloUtcFieldsAnswer.{UppinaloUtcFieldsAnswer}
use Rattle.uppinalo.specs.declared.utc.UppinaloTt2000Answer.{UppinaloTt2000Answer}

-- the answers of success
abbrev pub utc_given : UtcFields → UppinaloUtcFieldsAnswer
utc_given f = record { number = 0; fields = f }

abbrev pub tt2000_given : ℤ → UppinaloTt2000Answer
tt2000_given t = record { number = 0; tt2000 = t }

-- a list that is not good is 14, whatever comes with it, and no other is
pub record BadLists (s : List ℕ) : Type 0 where
  pub reading : (t : ℤ) → ((uppinalo_read_tt2000 s t).number ≡ 14) ↔ (is_good s ≡ false)
  pub writing : (f : UtcFields) → ((uppinalo_write_tt2000 s f).number ≡ 14) ↔ (is_good s ≡ false)

-- 23:59:60 of the day before a record's day, the first record left out
pub record LeapSecond (s : List ℕ) (f : UtcFields) : Type 0 where
  pub hour : f.hour ≡ 23
  pub minute : f.minute ≡ 59
  pub second : f.second ≡ 60
  pub place : ℕ
  pub not_first : 1 ≤ place
  pub listed : place < length s / 16
  pub day_before_lem : date_of ProlepticGregorian (pred_ℤ (leap_at s place).day) ≡ date_of_utc f

-- some field is one that no date has, or no time of day of this date
pub data ImpossibleUtc (s : List ℕ) (f : UtcFields) : Type 0 where
  by_date : ImpossibleDate (date_of_utc f) → ImpossibleUtc s f
  by_hour : 23 < f.hour → ImpossibleUtc s f
  by_minute : 59 < f.minute → ImpossibleUtc s f
  by_second : 59 < f.second → (LeapSecond s f → ⊥) → ImpossibleUtc s f
  by_nanosecond : 999999999 < f.nanosecond → ImpossibleUtc s f

-- the number of a writing that is refused: 4, 12, 15 and 5, in that order
pub record UtcRefused (s : List ℕ) (f : UtcFields) (number : ℕ) : Type 0 where
  pub impossible : (number ≡ 4) ↔ ImpossibleUtc s f
  pub missing : (number ≡ 12) ↔ ((ImpossibleUtc s f → ⊥) × (exists ProlepticGregorian (date_of_utc f) ≡ false))
  pub early : (number ≡ 15) ↔ ((ImpossibleUtc s f → ⊥) × (exists ProlepticGregorian (date_of_utc f) ≡ true) × (earlier (date_of_utc f) (date (pos 1972) 1 1) ≡ true))
  -- past 64 bits: no 64-bit number reads as these fields
  pub past : (number ≡ 5) ↔ ((ImpossibleUtc s f → ⊥) × (exists ProlepticGregorian (date_of_utc f) ≡ true) × (earlier (date_of_utc f) (date (pos 1972) 1 1) ≡ false) × ((t : ℤ) → SFits w64 t → uppinalo_read_tt2000 s t ≡ utc_given f → ⊥))
  -- and with nothing else
  pub written : (number ≡ 4 → ⊥) → (number ≡ 12 → ⊥) → (number ≡ 15 → ⊥) → (number ≡ 5 → ⊥) → number ≡ 0

pub record UtcTimes (s : List ℕ) : Type 0 where
  -- 15 exactly before 1972 began; every later number is read
  pub before : (t : ℤ) → ((uppinalo_read_tt2000 s t).number ≡ 15) ↔ (lt_z t (start_of (leaps s)) ≡ true)
  pub start : start_of (leaps s) ≡ negsuc 883655957815999999
  pub later : (t : ℤ) → ((uppinalo_read_tt2000 s t).number ≡ 15 → ⊥) → (uppinalo_read_tt2000 s t).number ≡ 0
  -- TT = UTC + count + 32.184 s: the number is that of the fields on the day of their date
  pub utc : (t : ℤ) (f : UtcFields) → uppinalo_read_tt2000 s t ≡ utc_given f → (d : ℤ) × (date_of ProlepticGregorian d ≡ date_of_utc f) × (tt_of (leaps s) d (day_second f) f.nanosecond ≡ t)
  -- reading rises strictly
  pub rises : (t u : ℤ) (f g : UtcFields) → uppinalo_read_tt2000 s t ≡ utc_given f → uppinalo_read_tt2000 s u ≡ utc_given g → earlier_utc f g ≡ lt_z t u
  -- each undoes the other, second 60 included
  pub written_back : (t : ℤ) (f : UtcFields) → SFits w64 t → uppinalo_read_tt2000 s t ≡ utc_given f → uppinalo_write_tt2000 s f ≡ tt2000_given t
  pub read_back : (f : UtcFields) (t : ℤ) → uppinalo_write_tt2000 s f ≡ tt2000_given t → SFits w64 t × (uppinalo_read_tt2000 s t ≡ utc_given f)
  -- second 60 is read only where a leap second is, and each leap second is written, or lies past 64 bits
  pub second_60 : (t : ℤ) (f : UtcFields) → uppinalo_read_tt2000 s t ≡ utc_given f → f.second ≡ 60 → LeapSecond s f
  pub leap_second : (f : UtcFields) → LeapSecond s f → f.nanosecond ≤ 999999999 → ((uppinalo_write_tt2000 s f).number ≡ 5 → ⊥) → (uppinalo_write_tt2000 s f).number ≡ 0
  -- nanosecond 0, where the count is 32 on 2000-01-01
  pub day_10957 : date_of ProlepticGregorian (pos 10957) ≡ date (pos 2000) 1 1
  pub nanosecond_0 : count_on (leaps s) (pos 10957) ≡ pos 32 → uppinalo_read_tt2000 s (pos 0) ≡ utc_given (record { year = pos 2000; month = 1; day = 1; hour = 11; minute = 58; second = 55; nanosecond = 816000000 })
  pub refused : (f : UtcFields) → UtcRefused s f (uppinalo_write_tt2000 s f).number
