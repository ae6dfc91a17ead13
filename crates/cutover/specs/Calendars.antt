-- A calendar with a cutover: document 02, CR 8. Which cutovers are allowed is defined in specs/Cutover.antt of crate `calendar`.
use Rattle.std.specs.Prelude.{◌≡◌, cond, Result, Ok, Err}
use Rattle.refusal.specs.declared.Refusal.TheVariants.{CutoverNotAllowed}
use Rattle.calendar.specs.Cutover.{cutover_days, allowed}
use Rattle.calendar.specs.declared.Calendar.{Calendar}
use Rattle.calendar.specs.declared.Calendar.TheVariants.{Standard, ProlepticGregorian, Julian, NoLeap, AllLeap, Day360}
use Rattle.calendar.specs.declared.Date.{Date}
use Rattle.refusal.specs.declared.Refusal.{Refusal}

-- `standard` with a cutover, as the days that it lies after 1582-10-15, or refused (16)
unfoldable pub standard_with : Date → Result Calendar Refusal
standard_with x = cond (allowed x) (Ok (Standard (cutover_days x))) (Err CutoverNotAllowed)

-- `standard` takes the cutover in place of its own; no other calendar looks at it
unfoldable pub with_cutover : Calendar → Date → Result Calendar Refusal
with_cutover (Standard k) x = standard_with x
with_cutover ProlepticGregorian x = Ok ProlepticGregorian
with_cutover Julian x = Ok Julian
with_cutover NoLeap x = Ok NoLeap
with_cutover AllLeap x = Ok AllLeap
with_cutover Day360 x = Ok Day360

-- the calendar c carries the cutover x: where c is `standard`, x is allowed and is that of c; else x is any date
abbrev pub Carries : Calendar → Date → Type 0
Carries c x = with_cutover c x ≡ Ok c
