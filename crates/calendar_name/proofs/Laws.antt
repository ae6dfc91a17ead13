-- Calendar names: what an answer says of one, the empty name, and the others.
use Prim.Native.Nat.{ℕ, ◌≤◌}
use native.Mathlib.Omega.{arith}
use mathlib.Core.Path.{◌≡◌, refl}
use mathlib.Core.List.{List, [], ◌∷◌}
use mathlib.Core.Option.{Option, some}
use lib.ListN.{length}
use Rattle.std.specs.Prelude.{Option as Answer}
use Rattle.grammar.specs.Answers.{answered}
use Rattle.grammar.proofs.Answers.{answer_back}
use Rattle.word_table.specs.Table.{lookup}
use Rattle.calendar.specs.declared.Calendar.{Calendar}
use Rattle.calendar_name.specs.Names.{calendar_names, calendar_of, calendar_named}

-- what an answer says of the name
abbrev pub calendar_in : Answer Calendar → Option Calendar
calendar_in r = answered r

pub named_back : (o : Option Calendar) (r : Answer Calendar) → r ≡ calendar_named o → o ≡ calendar_in r
named_back o r e = answer_back o r e

pub name_empty : (w : List ℕ) → length w ≡ 0 → calendar_of w ≡ some (Calendar.Standard 0)
unfolding calendar_of
name_empty [] h = refl
name_empty (b ∷ s) h = absurd (omega arith)

pub name_listed : (w : List ℕ) → 1 ≤ length w → calendar_of w ≡ lookup calendar_names w
unfolding calendar_of
name_listed [] h = absurd (omega arith)
name_listed (b ∷ s) h = refl
