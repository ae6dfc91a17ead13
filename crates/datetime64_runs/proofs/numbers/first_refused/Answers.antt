-- `datetime64_runs::numbers::first_refused` meets its contract: `Checking` of crate `runs`.
use Rattle.std.specs.Prelude.{Result}
use mathlib.Core.Path.{◌≡◌, sym, ap, ◌∙◌}
use mathlib.Core.Option.{Option}
use native.Mathlib.Omega.{arith}
use lib.IntN.{ℤ, pos}
use lib.ListN.{get_or}
use mir.Syntax.{w64}
use mir.Val.{SFits, to_z, of_z}
use mir.ValLaws.{to_z-of_z}
use Rattle.refusal.specs.declared.Refusal.{Refusal}
use Rattle.runs.proofs.Passes.{checking_on, checking_stops, checking_ends}
use Rattle.datetime64_number.specs.Conversions.{refusal_in}
use Rattle.datetime64_runs.proofs.Sure.{machine_fits}
use Rattle.datetime64_runs.proofs.numbers.first_refused.Given as given
use Rattle.datetime64_runs.proofs.numbers.first_refused.Goals as goal
use Rattle.datetime64_runs.proofs.numbers.first_refused.Goals.{After-check}

module _ (g : given.Over) (k : After-check g) where
  -- the number at the place, and as the machine has it
  abbrev number : ℤ
  number = get_or (g.N.Numbers.numbers k.args.numbers) k.loop-place.place (pos 0)

  abbrev seen : ℤ
  seen = to_z w64 (of_z w64 k.at.result)

  number_fits : SFits w64 k.at.result
  number_fits = record { sfits = k.at.type_inv }

  found : seen ≡ number
  found = to_z-of_z w64 k.at.result number_fits ∙ k.at.ensures

  -- what is refused of it
  checked_number : (refusal : ℤ → Option Refusal) → ((n : ℤ) (r : Result (Unit {0}) Refusal) → SFits w64 n → given.F-post g k.args.check n r → refusal_in r ≡ refusal n) → {q : Result (Unit {0}) Refusal} → k.check.result ≡ q → refusal number ≡ refusal_in q
  checked_number refusal tells h = sym (ap refusal found) ∙ (sym (tells seen k.check.result (machine_fits k.at.result number_fits) k.check.ensures) ∙ ap refusal_in h)

pub returns-in-Err : goal.returns-in-Err
returns-in-Err g c =
    λ refusal tells.
    checking_stops (pos 0) (c.loop-place.invariant refusal tells) (omega (arith, c.loop-place-test.true, c.count-place-end.ensures))
    (checked_number g ((goal.at.returns-in-Err g c).After-check) refusal tells c.in-Err.is)

pub loop-place-preserved : goal.loop-place-preserved
loop-place-preserved g c =
    λ refusal tells.
    checking_on (pos 0) (c.loop-place.invariant refusal tells) (omega (arith, c.loop-place-test.true, c.count-place-end.ensures))
    (checked_number g ((goal.at.loop-place-preserved g c).After-check) refusal tells c.in_default.is)

pub returns : goal.returns
returns g c = λ refusal tells. checking_ends (c.loop-place.invariant refusal tells) (omega (arith, c.loop-place-test.false, c.count-place-end.ensures))
