-- The numbers of the refusals tell them apart from each other and from success.
use mathlib.Core.Path.{◌≡◌, refl, sym, ap, ◌∙◌}
use mathlib.Core.List.{List, [], ◌∷◌}
use Prim.Native.Nat.{ℕ, ◌-◌}
use native.Mathlib.Omega.{arith}
use lib.ListN.{get_or}
use Rattle.refusal.specs.Number.{number_of}
use Rattle.refusal.specs.declared.Refusal.{Refusal}
use Rattle.refusal.specs.declared.Refusal.TheVariants.{TextTooLong, UnknownCalendar, IllFormed, ImpossibleField, OutOfRange, Inexact, NoRoom, NotFinite, PartRecord, NotATime, NotOpen, MissingDate, DroppedDate, BadLeapSeconds, Before1972, CutoverNotAllowed}

-- the refusals in the order of their numbers, from 1
refusals : List Refusal
refusals = TextTooLong ∷ UnknownCalendar ∷ IllFormed ∷ ImpossibleField ∷ OutOfRange ∷ Inexact ∷ NoRoom ∷ NotFinite ∷ PartRecord ∷ NotATime ∷ NotOpen ∷ MissingDate ∷ DroppedDate ∷ BadLeapSeconds ∷ Before1972 ∷ CutoverNotAllowed ∷ []

numbered : ℕ → Refusal
numbered n = get_or refusals (n - 1) NotFinite

back : (r : Refusal) → numbered (number_of r) ≡ r
unfolding numbered refusals
back TextTooLong = refl
back UnknownCalendar = refl
back IllFormed = refl
back ImpossibleField = refl
back OutOfRange = refl
back Inexact = refl
back NoRoom = refl
back NotFinite = refl
back PartRecord = refl
back NotATime = refl
back NotOpen = refl
back MissingDate = refl
back DroppedDate = refl
back BadLeapSeconds = refl
back Before1972 = refl
back CutoverNotAllowed = refl

pub one_number : (r q : Refusal) → number_of r ≡ number_of q → r ≡ q
one_number r q e = sym (back r) ∙ (ap numbered e ∙ back q)

pub not_success : (r : Refusal) → number_of r ≡ 0 → ⊥
unfolding numbered refusals
not_success r e = let k : number_of r ≡ 1 = ap number_of (sym (back r) ∙ ap numbered e) in omega arith
