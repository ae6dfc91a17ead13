-- The answers of the C boundary about TT2000 and UTC: the number, and zeros beside a refusal. A definition with the name of a call is what that
-- call promises.
use Rattle.std.specs.Prelude.{List, ℕ, ℤ, pos, Result, Ok, Err}
use Rattle.refusal.specs.Number.{number_of}
use Rattle.refusal.specs.declared.Refusal.{Refusal}
use Rattle.tt2000.specs.Tt2000.{read_tt2000, write_tt2000}
use Rattle.tt2000.specs.declared.UtcFields.{UtcFields}
use Rattle.uppinalo.specs.declared.utc.UppinaloUtcFieldsAnswer.{UppinaloUtcFieldsAnswer}
use Rattle.uppinalo.specs.declared.utc.UppinaloTt2000Answer.{UppinaloTt2000Answer}

-- ---- fields

abbrev pub no_utc_fields : Refusal → UppinaloUtcFieldsAnswer
no_utc_fields r = record { number = number_of r; fields = record { year = pos 0; month = 0; day = 0; hour = 0; minute = 0; second = 0; nanosecond = 0 } }

abbrev pub of_utc : Result UtcFields Refusal → UppinaloUtcFieldsAnswer
of_utc (Ok f) = record { number = 0; fields = f }
of_utc (Err r) = no_utc_fields r

-- s is the list of leap seconds
abbrev pub uppinalo_read_tt2000 : List ℕ → ℤ → UppinaloUtcFieldsAnswer
uppinalo_read_tt2000 s t = of_utc (read_tt2000 s t)

-- ---- a TT2000

abbrev pub no_tt2000 : Refusal → UppinaloTt2000Answer
no_tt2000 r = record { number = number_of r; tt2000 = pos 0 }

abbrev pub of_tt2000 : Result ℤ Refusal → UppinaloTt2000Answer
of_tt2000 (Ok t) = record { number = 0; tt2000 = t }
of_tt2000 (Err r) = no_tt2000 r

abbrev pub uppinalo_write_tt2000 : List ℕ → UtcFields → UppinaloTt2000Answer
uppinalo_write_tt2000 s f = of_tt2000 (write_tt2000 s f)
