-- The answers of the C boundary about days and instants: the number, and zeros beside a refusal. A definition with the name of a call is
-- what that call promises.
use Rattle.std.specs.Prelude.{ℕ, ℤ, pos, Result, Ok, Err}
use Rattle.refusal.specs.Number.{number_of}
use Rattle.refusal.specs.declared.Refusal.{Refusal}
use Rattle.calendar.specs.Answers.{date_answer, day_answer}
use Rattle.calendar.specs.declared.Date.{Date}
use Rattle.instant.specs.Instant.{fields_answer}
use Rattle.codes.specs.Codes.{calendar_given}
use Rattle.uppinalo.specs.declared.days.UppinaloDateAnswer.{UppinaloDateAnswer}
use Rattle.uppinalo.specs.declared.days.UppinaloDayAnswer.{UppinaloDayAnswer}
use Rattle.uppinalo.specs.declared.days.UppinaloFieldsAnswer.{UppinaloFieldsAnswer}
use Rattle.calendar.specs.declared.Calendar.{Calendar}
use Rattle.instant.specs.declared.Fields.{Fields}

-- ---- a date

abbrev pub no_date : Refusal → UppinaloDateAnswer
no_date r = record { number = number_of r; date = record { year = pos 0; month = 0; day = 0 } }

abbrev pub of_date : Result Date Refusal → UppinaloDateAnswer
of_date (Ok d) = record { number = 0; date = d }
of_date (Err r) = no_date r

abbrev pub date_by_code : Result Calendar Refusal → ℤ → UppinaloDateAnswer
date_by_code (Ok c) n = of_date (date_answer c n)
date_by_code (Err r) n = no_date r

abbrev pub uppinalo_date_of_day : ℕ → Date → ℤ → UppinaloDateAnswer
uppinalo_date_of_day calendar cutover n = date_by_code (calendar_given calendar cutover) n

-- ---- a day number

abbrev pub no_day : Refusal → UppinaloDayAnswer
no_day r = record { number = number_of r; day = pos 0 }

abbrev pub of_day : Result ℤ Refusal → UppinaloDayAnswer
of_day (Ok n) = record { number = 0; day = n }
of_day (Err r) = no_day r

abbrev pub day_by_code : Result Calendar Refusal → Date → UppinaloDayAnswer
day_by_code (Ok c) x = of_day (day_answer c x)
day_by_code (Err r) x = no_day r

abbrev pub uppinalo_day_of_date : ℕ → Date → Date → UppinaloDayAnswer
uppinalo_day_of_date calendar cutover x = day_by_code (calendar_given calendar cutover) x

-- ---- fields

abbrev pub no_fields : Refusal → UppinaloFieldsAnswer
no_fields r = record { number = number_of r; fields = record { year = pos 0; month = 0; day = 0; hour = 0; minute = 0; second = 0; microsecond = 0 } }

abbrev pub of_fields : Result Fields Refusal → UppinaloFieldsAnswer
of_fields (Ok f) = record { number = 0; fields = f }
of_fields (Err r) = no_fields r

abbrev pub fields_by_code : Result Calendar Refusal → ℤ → UppinaloFieldsAnswer
fields_by_code (Ok c) t = of_fields (fields_answer c t)
fields_by_code (Err r) t = no_fields r

abbrev pub uppinalo_fields_of : ℕ → Date → ℤ → UppinaloFieldsAnswer
uppinalo_fields_of calendar cutover t = fields_by_code (calendar_given calendar cutover) t
