use Prim.Native.Nat.{ℕ}
use lib.IntN.{pos}
use lib.ListN.{get_or}
use mir.Syntax.{w64}
use mir.Val.{SFits}
use Rattle.signed.specs.Bias.{biased}
use Rattle.ratio.specs.Multiples.{IsMultiple}
use Rattle.datetime64_runs.proofs.Sure.{Before}
use Rattle.datetime64_runs.proofs.numbers.all_multiples.Given as goal

abbrev pub invariant-loop-i : goal.invariant-loop-i
invariant-loop-i g l = Before (λ (j : ℕ). let n = get_or (g.N.Numbers.numbers l.numbers) j (pos 0) in SFits w64 n × IsMultiple l.ratio (biased n)) l.i
