-- What an answer says is what it answers.
use Rattle.std.specs.Prelude.{◌≡◌, Option as Answer}
use Rattle.std.proofs.Common.{sym, ap}
use Rattle.std.proofs.Math.Option.{Option, none, some}
use Rattle.grammar.specs.Answers.{answer, answered}

pub answer_back : {A : Type 0} (o : Option A) (r : Answer A) → r ≡ answer o → o ≡ answered r
answer_back none r e = ap answered (sym e)
answer_back (some v) r e = ap answered (sym e)
