-- The numbers of the refusals: document 01's table, row by row, with those that document 02 adds.
use Rattle.std.specs.Prelude.{ℕ}
use Rattle.refusal.specs.declared.Refusal.{Refusal}
use Rattle.refusal.specs.declared.Refusal.TheVariants.{TextTooLong, UnknownCalendar, IllFormed, ImpossibleField, OutOfRange, Inexact, NoRoom, NotFinite, PartRecord, NotATime, NotOpen, MissingDate, DroppedDate, BadLeapSeconds, Before1972, CutoverNotAllowed}

abbrev pub number_of : Refusal → ℕ
number_of TextTooLong = 1
number_of UnknownCalendar = 2
number_of IllFormed = 3
number_of ImpossibleField = 4
number_of OutOfRange = 5
number_of Inexact = 6
number_of NoRoom = 7
number_of NotFinite = 8
number_of PartRecord = 9
number_of NotATime = 10
number_of NotOpen = 11
number_of MissingDate = 12
number_of DroppedDate = 13
number_of BadLeapSeconds = 14
number_of Before1972 = 15
number_of CutoverNotAllowed = 16
