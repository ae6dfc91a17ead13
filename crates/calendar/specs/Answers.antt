-- The answers of the two public calls: the date of a day number, and the day number of a date.
use Rattle.std.specs.Prelude.{Bool, true, ◌&&◌, cond, ℕ, zero, suc, leb, ℤ, negsuc, Result, Ok, Err}
use Rattle.std.proofs.Math.IntN.{suc_ℤ}
use Rattle.refusal.specs.declared.Refusal.{Refusal}
use Rattle.refusal.specs.declared.Refusal.TheVariants.{ImpossibleField, OutOfRange, MissingDate, DroppedDate}
use Rattle.calendar.specs.Calendar.{date_of, exists, dropped, in_years}
use Rattle.calendar.specs.Order.{same_date}
use Rattle.calendar.specs.declared.Calendar.{Calendar}
use Rattle.calendar.specs.declared.Date.{Date}

-- the date of day number n; refused where its year lies past -9999 to 9999
unfoldable pub date_answer : Calendar → ℤ → Result Date Refusal
date_answer c n = cond (in_years (date_of c n).year) (Ok (date_of c n)) (Err OutOfRange)

-- the first of the k day numbers from z on whose date is x, or the number after them
unfoldable pub number_from : Calendar → Date → ℕ → ℤ → ℤ
number_from c x zero z = z
number_from c x (suc k) z = cond (same_date (date_of c z) x) z (number_from c x k (suc_ℤ z))

-- the day number of a date of the years -9999 to 9999: `date_of` read backwards. Their days all lie within five million days of 1970
unfoldable pub day_number : Calendar → Date → ℤ
day_number c x = number_from c x 10000000 (negsuc 4999999)

-- ---- a mistyped date told from a missing one: document 02, CR 5

-- some date has month m, and some date has day d: no date of any of the six calendars has another (proofs/Possible.antt)
abbrev pub is_month : ℕ → Bool
is_month m = leb 1 m && leb m 12

abbrev pub is_month_day : ℕ → Bool
is_month_day d = leb 1 d && leb d 31

abbrev pub is_possible : ℕ → ℕ → Bool
is_possible m d = is_month m && is_month_day d

-- What is wrong with a date that does not exist, or with what stands beside it, a time of day or a zone: `rest` says that each field there
-- is possible. First comes a field that no date has, whichever it is (4); else the calendar dropped the date (13), or lacks the year or the
-- day (12)
unfoldable pub fault_with : Bool → Calendar → Date → Refusal
fault_with rest c x = cond (rest && is_possible x.month x.day) (cond (dropped c x) DroppedDate MissingDate) ImpossibleField

-- before these, a year past the range (5)
unfoldable pub refusal_with : Bool → Calendar → Date → Refusal
refusal_with rest c x = cond (in_years x.year) (fault_with rest c x) OutOfRange

-- the day number of a date with what stands beside it
unfoldable pub day_with : Bool → Calendar → Date → Result ℤ Refusal
day_with rest c x = cond (rest && (in_years x.year && exists c x)) (Ok (day_number c x)) (Err (refusal_with rest c x))

-- the day number of a date alone
abbrev pub day_answer : Calendar → Date → Result ℤ Refusal
day_answer c x = day_with true c x
