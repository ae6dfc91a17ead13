-- The date rule of document 01, "The units text", as grammar data: a date, its time, the time's zone, each from its last part up.
-- An optional part names the value that it has where it is absent.
use Rattle.std.specs.Prelude.{ℕ, ◌-◌, ◌*◌, ◌^◌, Bool, false, cond, List, length, leb, eqb}
use Prim.Native.Char.{code}
use Rattle.std.proofs.Math.Option.{none, some}
use Rattle.grammar.specs.Grammar.{Grammar, one, run, ◌▸◌, ◌or◌, give}
use Rattle.grammar.specs.Rules.{◌⇒◌, bytes, any_of, char, optional, digit, decimal, number, two, spelled}
use Rattle.date_text.specs.declared.Zone.{Zone}
use Rattle.date_text.specs.declared.Time.{Time}
use Rattle.date_text.specs.declared.WrittenDate.{WrittenDate}

-- a plus or a minus, and whether it is a minus
abbrev pub sign : Grammar Bool
sign = give (λ (b : ℕ). eqb b (code "-")) (one (any_of (bytes "+-")))

-- ---- a zone: a space or none, and then a name of UTC in capitals or small letters, or a sign and hours of two digits, after which
-- minutes of two digits may follow, with a colon before them or none

abbrev pub utc : Zone
utc = record { behind = false; hours = 0; minutes = 0 }

abbrev pub zone_minutes : Grammar ℕ
zone_minutes = optional 0 (optional 0 (char ":") ⇒ two)

abbrev pub zone_of : Bool × (ℕ × ℕ) → Zone
zone_of v = record { behind = v.0; hours = v.1.0; minutes = v.1.1 }

abbrev pub zone_offset : Grammar Zone
zone_offset = give zone_of (sign ▸ two ▸ zone_minutes)

abbrev pub utc_name : List ℕ → Grammar Zone
utc_name w = give (λ (n : Unit {0}). utc) (spelled w)

abbrev pub zone_name : Grammar Zone
zone_name = utc_name (bytes "Z") or utc_name (bytes "UTC") or utc_name (bytes "GMT")

abbrev pub zone : Grammar Zone
zone = optional 0 (char " ") ⇒ (zone_offset or zone_name)

-- ---- a time: T or one space, hour, minute, second and decimal places of the second, each only after the one before, and a zone

-- 1 to 6 decimal places, in millionths
abbrev pub fraction : Grammar ℕ
fraction = run digit digit (λ s. cond (leb (length s) 6) (some (decimal 0 s * 10 ^ (6 - length s))) none)

abbrev pub fraction_part : Grammar ℕ
fraction_part = optional 0 (char "." ⇒ fraction)

abbrev pub second_part : Grammar (ℕ × ℕ)
second_part = optional (0, 0) (char ":" ⇒ number 2 ▸ fraction_part)

abbrev pub minute_part : Grammar (ℕ × (ℕ × ℕ))
minute_part = optional (0, (0, 0)) (char ":" ⇒ number 2 ▸ second_part)

abbrev pub zone_part : Grammar Zone
zone_part = optional utc zone

abbrev pub time_parts : ℕ × ((ℕ × (ℕ × ℕ)) × Zone) → Time
time_parts v = record { hour = v.0; minute = v.1.0.0; second = v.1.0.1.0; microsecond = v.1.0.1.1; zone = v.1.1 }

abbrev pub time : Grammar Time
time = one (any_of (bytes "T ")) ⇒ give time_parts (number 2 ▸ minute_part ▸ zone_part)

-- ---- a date: a sign or none, a year of 1 to 4 digits, month, day and time, each only after the one before

abbrev pub midnight : Time
midnight = record { hour = 0; minute = 0; second = 0; microsecond = 0; zone = utc }

abbrev pub time_part : Grammar Time
time_part = optional midnight time

abbrev pub day_part : Grammar (ℕ × Time)
day_part = optional (1, midnight) (char "-" ⇒ number 2 ▸ time_part)

abbrev pub month_part : Grammar (ℕ × (ℕ × Time))
month_part = optional (1, (1, midnight)) (char "-" ⇒ number 2 ▸ day_part)

abbrev pub date_parts : Bool × (ℕ × (ℕ × (ℕ × Time))) → WrittenDate
date_parts v = record { negative = v.0; year = v.1.0; month = v.1.1.0; day = v.1.1.1.0; time = v.1.1.1.1 }

abbrev pub date_rule : Grammar WrittenDate
date_rule = give date_parts (optional false sign ▸ number 4 ▸ month_part)
