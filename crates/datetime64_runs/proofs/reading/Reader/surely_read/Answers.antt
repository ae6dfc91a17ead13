-- `datetime64_runs::reading::Reader::surely_read` meets its contract: proofs/Sure.antt.
use Rattle.std.specs.Prelude.{Ok}
use mathlib.Core.Path.{◌≡◌, sym, ◌∙◌, subst}
use mathlib.Core.List.{List}
use mathlib.Core.Option.{none}
use Prim.Native.Nat.{ℕ}
use lib.IntN.{ℤ, pos}
use lib.ListN.{length, get_or}
use Rattle.signed.specs.Bias.{biased}
use Rattle.axis_types.specs.Reading.{refusal_of}
use Rattle.runs.specs.Run.{checked}
use Rattle.datetime64_type.specs.Units.{unit_row_of}
use Rattle.datetime64_type.specs.declared.Datetime64Type.{Datetime64Type}
use Rattle.datetime64_number.specs.Numbers.{read_number}
use Rattle.datetime64_number.specs.Conversions.{Reads}
use Rattle.datetime64_number.proofs.Units.{near_good, multiple_good}
use Rattle.datetime64_runs.specs.Records.{record_number, records_in}
use Rattle.datetime64_runs.specs.Runs.{read_record}
use Rattle.datetime64_runs.proofs.Cuts.{numbers_in}
use Rattle.datetime64_runs.proofs.Sure.{Before, none_refused, mapped}
use Rattle.datetime64_runs.proofs.reading.Reader.surely_read.Goals as goal

-- records whose numbers are all read
module _ (t : Datetime64Type) (s : List ℕ) where
  abbrev number : ℕ → ℤ
  number i = get_or (numbers_in t.order s) i (pos 0)

  all_good : Before (λ (i : ℕ). refusal_of (read_number t.unit (number i)) ≡ none) (length (numbers_in t.order s)) → checked (read_record t) (records_in s) ≡ Ok tt
  all_good f =
      let refusal = λ (n : ℤ). refusal_of (read_number t.unit n) in
      sym (mapped refusal (record_number t.order) (records_in s)) ∙ none_refused refusal (pos 0) (numbers_in t.order s) f

pub returns-in-Calendar : goal.returns-in-Calendar
returns-in-Calendar c =
    let t = c.args.self.t in
    let s = c.args.bytes.now in
    let row = subst (Reads (unit_row_of t.unit)) c.in-Calendar.is c.args.self.reads in
    λ h.
    all_good t s
    (λ i g. let p = c.all_between.ensures h i g in near_good t.unit c.in-Calendar.part row.0 c.near_bounds.result c.near_bounds.ensures (number t s i) p.0 p.1)

pub returns-then-all_between : goal.returns-then-all_between
returns-then-all_between c =
    let t = c.args.self.t in
    let s = c.args.bytes.now in
    let row = subst (Reads (unit_row_of t.unit)) c.in-Fixed.is c.args.self.reads in
    λ h.
    all_good t s
    (λ i g.
    let n = number t s i in
    let p = c.all_between-then-several_at_once.ensures c.if-all_between.true i g in
    multiple_good t.unit c.in-Fixed.ratio row n p.0 (c.bounds.ensures.all (biased n) p.1))

pub returns-else-several_at_once : goal.returns-else-several_at_once
returns-else-several_at_once c =
    let t = c.args.self.t in
    let s = c.args.bytes.now in
    let row = subst (Reads (unit_row_of t.unit)) c.in-Fixed.is c.args.self.reads in
    λ h.
    all_good t s
    (λ i g. let p = c.all_multiples.ensures h i g in multiple_good t.unit c.in-Fixed.ratio row (number t s i) p.0 p.1)
