-- `units_text::period_of` meets its contract. The word's number is looked up in the table: the keys of an arm all stand for the arm's
-- period, and a number that is no key of any arm is in no row. The table has one word of more than eight letters.
use native.Mathlib.Omega.{arith}
use Prim.Native.Nat.{ℕ}
use mathlib.Core.Path.{◌≡◌, sym, ◌∙◌, refl, ap}
use mathlib.Core.List.{[], ◌∷◌, List, ◌++◌}
use Rattle.grammar.specs.Rules.{bytes}
use Rattle.axis_types.specs.declared.Period.{Period}
use Rattle.word_table.specs.Table.{lookup}
use Rattle.word_table.proofs.Words.{numbers, by_number, each_key, no_key}
use Rattle.units_text.specs.UnitsRule.{alone, plural, period_words}
use Rattle.units_text.proofs.Words.{period_packed, period_long}
use Rattle.units_text.proofs.period_of.Goals as goal
use Rattle.units_text.proofs.period_of.Goals.{After-packed_of}

pub returns-then-d-gt8 : goal.returns-then-d-gt8
returns-then-d-gt8 c = period_long c.args.d.now _ c.if-d-gt8.true (sym c.same_bytes.ensures ∙ c.if-same_bytes.false)

-- the table gives the word what it gives the word's number
number : (c : After-packed_of) → lookup period_words c.args.d.now ≡ by_number period_words c.packed_of.result
number c =
    period_packed c.args.d.now c.requires.in_bounds c.requires.d_value ∙ ap (by_number period_words) (sym c.packed_of.ensures)

-- the keys of the arms, from the least up
abbrev milliseconds : List ℕ
milliseconds = numbers (bytes "msec" ∷ bytes "msecs" ∷ bytes "millisec" ∷ [])

abbrev seconds : List ℕ
seconds = numbers (bytes "s" ∷ bytes "sec" ∷ bytes "secs" ∷ bytes "second" ∷ bytes "seconds" ∷ [])

abbrev minutes : List ℕ
minutes = numbers (bytes "min" ∷ bytes "mins" ∷ bytes "minute" ∷ bytes "minutes" ∷ [])

abbrev hours : List ℕ
hours = numbers (bytes "hr" ∷ bytes "hrs" ∷ bytes "hour" ∷ bytes "hours" ∷ [])

abbrev days : List ℕ
days = numbers (bytes "day" ∷ bytes "days" ∷ [])

abbrev weeks : List ℕ
weeks = numbers (bytes "week" ∷ bytes "weeks" ∷ [])

abbrev months : List ℕ
months = numbers (bytes "mon" ∷ bytes "mons" ∷ bytes "month" ∷ bytes "months" ∷ [])

abbrev years : List ℕ
years = numbers (bytes "yr" ∷ bytes "yrs" ∷ bytes "year" ∷ bytes "years" ∷ [])

pub returns-in-7883951835570201955 : goal.returns-in-7883951835570201955
returns-in-7883951835570201955 c = number (goal.at.returns-in-7883951835570201955 c).After-packed_of ∙ each_key period_words milliseconds Period.Millisecond _ (refl, (refl, (refl, tt))) c.in-7883951835570201955.is

pub returns-in-126879297138276 : goal.returns-in-126879297138276
returns-in-126879297138276 c = number (goal.at.returns-in-126879297138276 c).After-packed_of ∙ each_key period_words seconds Period.Second _ (refl, (refl, (refl, (refl, (refl, tt))))) c.in-126879297138276.is

pub returns-in-120299592184933 : goal.returns-in-120299592184933
returns-in-120299592184933 c = number (goal.at.returns-in-120299592184933 c).After-packed_of ∙ each_key period_words minutes Period.Minute _ (refl, (refl, (refl, (refl, tt)))) c.in-120299592184933.is

pub returns-in-1752135026 : goal.returns-in-1752135026
returns-in-1752135026 c = number (goal.at.returns-in-1752135026 c).After-packed_of ∙ each_key period_words hours Period.Hour _ (refl, (refl, (refl, (refl, tt)))) c.in-1752135026.is

pub returns-in-6578553 : goal.returns-in-6578553
returns-in-6578553 c = number (goal.at.returns-in-6578553 c).After-packed_of ∙ each_key period_words days Period.Day _ (refl, (refl, tt)) c.in-6578553.is

pub returns-in-2003133803 : goal.returns-in-2003133803
returns-in-2003133803 c = number (goal.at.returns-in-2003133803 c).After-packed_of ∙ each_key period_words weeks Period.Week _ (refl, (refl, tt)) c.in-2003133803.is

pub returns-in-470020945000 : goal.returns-in-470020945000
returns-in-470020945000 c = number (goal.at.returns-in-470020945000 c).After-packed_of ∙ each_key period_words months Period.Month _ (refl, (refl, (refl, (refl, tt)))) c.in-470020945000.is

pub returns-in-2036687218 : goal.returns-in-2036687218
returns-in-2036687218 c = number (goal.at.returns-in-2036687218 c).After-packed_of ∙ each_key period_words years Period.Year _ (refl, (refl, (refl, (refl, tt)))) c.in-2036687218.is

pub returns-in_default : goal.returns-in_default
returns-in_default c =
    let x = c.packed_of.result in
    let r = c.in_default.in_default-own.rest in
    number (goal.at.returns-in_default c).After-packed_of
    ∙ rw (
      no_key (numbers (plural "millisec" ++ plural "msec")) milliseconds x refl (omega arith) r.0.0.0.0.0.0.0.1,
      no_key (numbers (plural "second" ++ plural "sec" ++ alone "s")) seconds x refl (omega arith) r.0.0.0.0.0.0.1,
      no_key (numbers (plural "minute" ++ plural "min")) minutes x refl (omega arith) r.0.0.0.0.0.1,
      no_key (numbers (plural "hour" ++ plural "hr")) hours x refl (omega arith) r.0.0.0.0.1,
      no_key (numbers (plural "day")) days x refl (omega arith) r.0.0.0.1,
      no_key (numbers (plural "week")) weeks x refl (omega arith) r.0.0.1,
      no_key (numbers (plural "month" ++ plural "mon")) months x refl (omega arith) r.0.1,
      no_key (numbers (plural "year" ++ plural "yr")) years x refl (omega arith) r.1,
    )
