-- TT2000 and UTC: document 02, CR 6, and source document 003. A TT2000 is a count of nanoseconds from 2000-01-01T12:00:00 in Terrestrial Time,
-- and TT = UTC + count + 32.184 s, where the count is that of a list of leap seconds.
use Rattle.std.specs.Prelude.{Bool, ◌&&◌, ◌||◌, cond, List, ℕ, ◌+◌, ◌-◌, ◌*◌, ◌/◌, ◌%◌, ltb, eqb, ℤ, pos, negsuc, ◌+ℤ◌, ◌-ℤ◌, ◌*ℤ◌, Result, Ok, Err}
use Rattle.std.proofs.Math.IntN.{pred_ℤ}
use Rattle.std.specs.Int.Signed.{le_z}
use Rattle.refusal.specs.declared.Refusal.TheVariants.{OutOfRange, BadLeapSeconds, Before1972}
use Rattle.calendar.specs.Calendar.{date, date_of, exists}
use Rattle.calendar.specs.Order.{earlier, same_date}
use Rattle.calendar.specs.Answers.{fault_with, day_answer}
use Rattle.calendar.specs.declared.Calendar.TheVariants.{ProlepticGregorian}
use Rattle.calendar.specs.declared.Date.{Date}
use Rattle.leap_seconds.specs.Leaps.{Leap, leaps, is_good}
use Rattle.leap_seconds.specs.Utc.{count_on, some_later, moment_at}
use Rattle.leap_seconds.specs.declared.Moment.{Moment}
use Rattle.tt2000.specs.declared.UtcFields.{UtcFields}
use Rattle.refusal.specs.declared.Refusal.{Refusal}

-- ---- TT = UTC + count + 32.184 s

-- the nanoseconds of a second
abbrev pub nanoseconds : ℕ
nanoseconds = 1000000000

-- what a clock shows in second q of day d, in seconds from the beginning of 1970: days count as 86,400 seconds each
abbrev pub clock_seconds : ℤ → ℕ → ℤ
clock_seconds d q = d *ℤ pos 86400 +ℤ pos q

-- the TT2000 of nanosecond n of second q of day d of UTC: what a clock of TT shows, less 2000-01-01T12:00:00, which is second 43,200 of day 10,957
abbrev pub tt_of : List Leap → ℤ → ℕ → ℕ → ℤ
tt_of l d q n = (clock_seconds d q +ℤ count_on l d) *ℤ pos nanoseconds +ℤ pos n +ℤ pos 32184000000 -ℤ clock_seconds (pos 10957) 43200 *ℤ pos nanoseconds

-- ---- reading

-- the minute of the day that second q belongs to: second 86,400, which is 23:59:60, belongs to the last
abbrev pub minute_of : ℕ → ℕ
minute_of q = cond (ltb q 86400) (q / 60) 1439

abbrev pub utc_fields : Date → ℕ → ℕ → ℕ → UtcFields
utc_fields x m q n = record { year = x.year; month = x.month; day = x.day; hour = m / 60; minute = m % 60; second = q - m * 60; nanosecond = n }

-- the fields of nanosecond n of a moment
unfoldable pub utc_fields_at : Moment → ℕ → UtcFields
utc_fields_at m n = utc_fields (date_of ProlepticGregorian (pos m.day)) (minute_of m.second) m.second n

-- so many nanoseconds after the beginning of 1972
unfoldable pub after_start : List Leap → ℤ → Result UtcFields Refusal
after_start l (pos n) = Ok (utc_fields_at (moment_at l (n / nanoseconds)) (n % nanoseconds))
after_start l (negsuc n) = Err Before1972

-- the TT2000 of the beginning of 1972-01-01, which is day 730
abbrev pub start_of : List Leap → ℤ
start_of l = tt_of l (pos 730) 0 0

unfoldable pub read_tt2000 : List ℕ → ℤ → Result UtcFields Refusal
read_tt2000 s t = cond (is_good s) (after_start (leaps s) (t -ℤ start_of (leaps s))) (Err BadLeapSeconds)

-- ---- writing

abbrev pub date_of_utc : UtcFields → Date
date_of_utc f = date f.year f.month f.day

-- the second of the day, 23:59:60 the last
abbrev pub day_second : UtcFields → ℕ
day_second f = (f.hour * 60 + f.minute) * 60 + f.second

-- a date that ends with a leap second: that of the day before a record's day, the first record left out
unfoldable pub is_leap_date : List Leap → Date → Bool
is_leap_date l x = some_later (λ (r : Leap). same_date (date_of ProlepticGregorian (pred_ℤ r.day)) x) l

-- second 60 is only 23:59:60 of such a date
abbrev pub is_second : List Leap → UtcFields → Bool
is_second l f = ltb f.second 60 || ((eqb f.hour 23 && (eqb f.minute 59 && eqb f.second 60)) && is_leap_date l (date_of_utc f))

-- the time of day is one that the date may have
unfoldable pub is_utc_time : List Leap → UtcFields → Bool
is_utc_time l f = (ltb f.hour 24 && ltb f.minute 60) && (is_second l f && ltb f.nanosecond nanoseconds)

-- refused past 64 bits
abbrev pub in64_bits : ℤ → Bool
in64_bits z = le_z (negsuc 9223372036854775807) z && le_z z (pos 9223372036854775807)

abbrev pub limited : ℤ → Result ℤ Refusal
limited z = cond (in64_bits z) (Ok z) (Err OutOfRange)

-- on the day of the date. The calendar refuses years past 9999, and rightly here: what some 64-bit number reads as is written (`write_undoes_read`,
-- proofs/Theorems.antt)
abbrev pub with_day : List Leap → UtcFields → Result ℤ Refusal → Result ℤ Refusal
with_day l f (Ok d) = limited (tt_of l d (day_second f) f.nanosecond)
with_day l f (Err r) = Err r

-- a date that exists, with a time of day that it may have
abbrev pub write_time : List Leap → UtcFields → Result ℤ Refusal
write_time l f = cond (earlier (date_of_utc f) (date (pos 1972) 1 1)) (Err Before1972) (with_day l f (day_answer ProlepticGregorian (date_of_utc f)))

-- the list first, then the fields by themselves, then what lies before 1972, then what lies past 64 bits
unfoldable pub write_tt2000 : List ℕ → UtcFields → Result ℤ Refusal
write_tt2000 s f =
    cond (is_good s)
    (cond (is_utc_time (leaps s) f && exists ProlepticGregorian (date_of_utc f)) (write_time (leaps s) f)
    (Err (fault_with (is_utc_time (leaps s) f) ProlepticGregorian (date_of_utc f))))
    (Err BadLeapSeconds)
