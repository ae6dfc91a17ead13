-- `datetime64_runs::reading::Reader::write_each` meets its contract: `Writing` of crate `runs`.
use mathlib.Core.Path.{◌≡◌, sym, ap, ◌∙◌}
use mathlib.Core.Bool.{true}
use mathlib.Core.List.{List, []}
use Prim.Native.Nat.{ℕ, ◌<◌}
use native.Mathlib.Omega.{arith}
use lib.IntN.{ℤ}
use lib.ListN.{length, get_or}
use mir.Syntax.{w64}
use mir.Val.{SFits, to_z, of_z}
use mir.ValLaws.{to_z-of_z}
use Rattle.axis_types.specs.Reading.{is_read, instant_of}
use Rattle.runs.proofs.Passes.{writing_starts, writing_read, writing_on, writing_ends}
use Rattle.datetime64_number.specs.Numbers.{read_number}
use Rattle.datetime64_runs.specs.Records.{record_count, record_number, records_in}
use Rattle.datetime64_runs.proofs.Sure.{machine_fits}
use Rattle.datetime64_runs.proofs.Cuts.{record_count_lem, record_at}
use Rattle.datetime64_runs.proofs.reading.Reader.write_each.Given.{Over}
use Rattle.datetime64_runs.proofs.reading.Reader.write_each.Goals as goal
use Rattle.datetime64_runs.proofs.reading.Reader.write_each.Goals.{After-number_at}

-- a place of the loop is one of a record
placed : (s : List ℕ) (i : ℕ) → i < record_count s → i < length (records_in s)
placed s i h = omega (arith, record_count_lem s)

module _ (g : Over) (n : After-number_at g) where
  -- the number that is found there
  abbrev number : ℤ
  number = to_z w64 (of_z w64 n.number_at.result)

  -- is one of 64 bits, is the record's, and is read
  number_fits : SFits w64 number
  number_fits = machine_fits n.number_at.result (record { sfits = n.number_at.type_inv })

  found : number ≡ record_number n.args.self.t.order (get_or (records_in n.args.bytes.now) n.loop-i.i [])
  found =
      to_z-of_z w64 n.number_at.result (record { sfits = n.number_at.type_inv })
      ∙ (n.number_at.ensures ∙ ap (record_number n.args.self.t.order) (sym (record_at n.args.bytes.now n.loop-i.i n.loop-i-test.true)))

  is_good : is_read (read_number n.args.self.t.unit number) ≡ true
  is_good = ap (λ (m : ℤ). is_read (read_number n.args.self.t.unit m)) found ∙ writing_read [] n.loop-i.invariant (placed n.args.bytes.now n.loop-i.i n.loop-i-test.true)

pub loop-i-init : goal.loop-i-init
loop-i-init g c = writing_starts (omega (arith, c.requires.room, record_count_lem c.args.bytes.now)) c.requires.read

pub instant-requires : goal.instant-requires
instant-requires g c = c.requires.callable (number g c) (number_fits g c) (is_good g c)

pub loop-i-preserved : goal.loop-i-preserved
loop-i-preserved g c =
    let n = (goal.at.loop-i-preserved g c).After-number_at in
    writing_on {read = λ (r : List ℕ). read_number c.args.self.t.unit (record_number c.args.self.t.order r)} [] c.loop-i.invariant (placed c.args.bytes.now c.loop-i.i c.loop-i-test.true) (record { sfits = c.instant.type_inv })
    (c.requires.gives (number g n) c.instant.result (number_fits g n) (is_good g n) c.instant.ensures ∙ ap (λ (m : ℤ). instant_of (read_number c.args.self.t.unit m)) (found g n))

pub returns : goal.returns
returns g c = writing_ends c.loop-i.invariant (omega (arith, c.loop-i-test.false, record_count_lem c.args.bytes.now))
