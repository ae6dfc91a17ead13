use mathlib.Core.Option.{Option}
use lib.IntN.{ℤ}
use mir.Syntax.{w64}
use mir.Val.{SFits}
use Rattle.std.specs.Prelude.{Result}
use mathlib.Core.Path.{◌≡◌}
use Rattle.refusal.specs.declared.Refusal.{Refusal}
use Rattle.runs.proofs.Passes.{Checking}
use Rattle.datetime64_number.specs.Conversions.{refusal_in}
use Rattle.datetime64_runs.proofs.numbers.first_refused.Given as goal

abbrev pub invariant-loop-place : goal.invariant-loop-place
invariant-loop-place g l =
    (refusal : ℤ → Option Refusal) → ((n : ℤ) (r : Result (Unit {0}) Refusal) → SFits w64 n → goal.F-post g l.check n r → refusal_in r ≡ refusal n)
    → Checking refusal (g.N.Numbers.numbers l.numbers) l.place
