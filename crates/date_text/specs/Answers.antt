-- What the answers of the functions say was found in a text.
use Rattle.std.specs.Prelude.{ℕ, List, Option as Answer}
use Rattle.std.proofs.Math.Option.{Option}
use Rattle.grammar.specs.Reader.{Scan}
use Rattle.grammar.specs.Answers.{answer, value_in}
use Rattle.date_text.specs.declared.Zone.{Zone}
use Rattle.date_text.specs.declared.Time.{Time}
use Rattle.date_text.specs.declared.WrittenDate.{WrittenDate}

abbrev pub zone_in : List ℕ → Answer (Zone × ℕ) → Scan Zone
zone_in s o = value_in s o

abbrev pub second_in : List ℕ → Answer ((ℕ × ℕ) × ℕ) → Scan (ℕ × ℕ)
second_in s o = value_in s o

abbrev pub minute_in : List ℕ → Answer ((ℕ × (ℕ × ℕ)) × ℕ) → Scan (ℕ × (ℕ × ℕ))
minute_in s o = value_in s o

abbrev pub time_in : List ℕ → Answer (Time × ℕ) → Scan Time
time_in s o = value_in s o

abbrev pub day_in : List ℕ → Answer ((ℕ × Time) × ℕ) → Scan (ℕ × Time)
day_in s o = value_in s o

abbrev pub month_in : List ℕ → Answer ((ℕ × (ℕ × Time)) × ℕ) → Scan (ℕ × (ℕ × Time))
month_in s o = value_in s o

abbrev pub written_in : List ℕ → Answer (WrittenDate × ℕ) → Scan WrittenDate
written_in s o = value_in s o

-- the answer to a whole text
abbrev pub written_answer : Option WrittenDate → Answer WrittenDate
written_answer o = answer o
