-- The parts of a reading, and of an instant that is written: the refusal, or the number.
use Rattle.std.specs.Prelude.{Bool, true, false, ℕ, ℤ, pos, Result, Ok, Err}
use Rattle.std.proofs.Math.Option.{Option, none, some}
use Rattle.refusal.specs.declared.Refusal.{Refusal}
use Rattle.axis_types.specs.declared.OffsetReading.{OffsetReading}

-- whether nothing is refused
abbrev pub is_none : Option Refusal → Bool
is_none none = true
is_none (some r) = false

-- ---- a reading

-- an instant and whether it is the exact time, or a refusal
abbrev pub Reading : Type 0
Reading = Result (ℤ × Bool) Refusal

abbrev pub refusal_of : Reading → Option Refusal
refusal_of (Ok (t, exact)) = none
refusal_of (Err r) = some r

-- whether an offset was read
abbrev pub is_read : Reading → Bool
is_read r = is_none (refusal_of r)

-- the instant; 0 beside a refusal
abbrev pub instant_of : Reading → ℤ
instant_of (Ok (t, exact)) = t
instant_of (Err r) = pos 0

-- ---- an offset that is read alone

-- a reading whose day was stepped back by k days
abbrev pub with_days_back : Reading → ℕ → Result OffsetReading Refusal
with_days_back (Ok (t, exact)) k = Ok (record { instant = t; exact = exact; days_back = k })
with_days_back (Err r) k = Err r

-- ---- an instant that is written

abbrev pub offset_refusal : Result ℤ Refusal → Option Refusal
offset_refusal (Ok n) = none
offset_refusal (Err r) = some r

-- the offset; 0 beside a refusal
abbrev pub offset_of : Result ℤ Refusal → ℤ
offset_of (Ok n) = n
offset_of (Err r) = pos 0
