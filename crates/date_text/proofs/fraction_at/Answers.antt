-- `date_text::fraction_at` meets its contract: the run of digits is what the reader takes, and its length decides.
use native.Mathlib.Omega.{arith}
use Prim.Native.Nat.{ℕ, ◌+◌, ◌-◌, ◌*◌, ◌^◌}
use mathlib.Core.Path.{◌≡◌, sym, ap, ap₂, ◌∙◌}
use lib.ListN.{length, drop}
use Rattle.grammar.specs.Reader.{front, found}
use Rattle.grammar.specs.Rules.{digit, decimal}
use Rattle.grammar.proofs.Classes.{front_every}
use Rattle.grammar.proofs.Places.{run_end, run_part, run_left}
use Rattle.grammar.proofs.Steps.{run_empty}
use Rattle.date_text.proofs.Steps.{fraction_long, fraction_is}
use Rattle.date_text.proofs.fraction_at.Goals as goal

pub returns-then-e-at : goal.returns-then-e-at
returns-then-e-at c = run_empty _ _ _ _ (omega arith)

pub returns-then-n-gt6 : goal.returns-then-n-gt6
returns-then-n-gt6 c =
    let a = c.args in
    let p = run_part digit a.s.now a.at c.run_end-e.result c.run_end-e.ensures in
    let l = ap length p in
    fraction_long (drop a.at a.s.now) (omega arith)

pub returns : goal.returns
returns c =
    let a = c.args in
    let e = c.run_end-e.result in
    let x = drop a.at a.s.now in
    let q : e ≡ a.at + length (front digit x) = c.run_end-e.ensures in
    let p = run_part digit a.s.now a.at e q in
    let l = ap length p in
    fraction_is x (omega arith) (omega arith)
    ∙ ap₂ found
    (sym (c.millionths.ensures ∙ ap₂ (λ (v n : ℕ). v * 10 ^ (6 - n)) (c.decimal_of.ensures.value ∙ ap (decimal 0) p) l))
    (sym (run_left digit a.s.now a.at e q))

pub decimal_of-requires-clause-d_value : goal.decimal_of-requires-clause-d_value
decimal_of-requires-clause-d_value c =
    let a = c.args in
    let p = run_part digit a.s.now a.at c.run_end-e.result c.run_end-e.ensures in
    rw p (front_every digit (drop a.at a.s.now))

pub slice_bounds-d-end : goal.slice_bounds-d-end
slice_bounds-d-end c = run_end digit c.args.s.now c.args.at c.run_end-e.result c.run_end-e.ensures c.if-e-at.false
