-- `grammar::two_digits` meets its contract: each `return` is a step of the reader.
use Rattle.std.proofs.Common.{ℕ, ◌+◌, ◌≤◌, ◌<◌, ◌≡◌, true, sym, ◌∙◌, List, length, drop, arith, slice_index_or}
use Rattle.grammar.specs.Grammar.{starts}
use Rattle.grammar.specs.Rules.{digit}
use Rattle.grammar.proofs.Places.{starts_lt}
use Rattle.grammar.proofs.Steps.{digit_here, two_is, two_no, two_half}
use Rattle.grammar.proofs.two_digits.Goals as goal
use Rattle.grammar.proofs.two_digits.Goals.{Then-next_in-2, else-next_in-via-then-next_in+else-next_in-2, else-next_in-via-else-next_in}

-- two digits stand at the place
record Both (s : List ℕ) (at : ℕ) : Type 0 where
  yes0 : starts digit (drop at s) ≡ true
  yes1 : starts digit (drop (at + 1) s) ≡ true
  in1 : at + 1 < length s
  low0 : 48 ≤ slice_index_or s at 0
  low1 : 48 ≤ slice_index_or s (at + 1) 0

both : (c : Then-next_in-2) → Both c.args.s.now c.args.at
both c =
    let a = c.args in
    let s = a.s.now in
    let y0 = sym c.next_in.ensures ∙ c.if-next_in.true in
    let y1 = sym c.next_in-then-next_in.ensures ∙ c.if-next_in-2.true in
    record {
      yes0 = y0;
      yes1 = y1;
      in1 = starts_lt digit s (a.at + 1) y1;
      low0 = (digit_here s a.at y0).0;
      low1 = (digit_here s (a.at + 1) y1).0;
    }

pub overflow_add-at : goal.overflow_add-at
overflow_add-at c = let a = c.args in let h = starts_lt digit a.s.now a.at (sym c.next_in.ensures ∙ c.if-next_in.true) in omega arith

pub bounds-s-at : goal.bounds-s-at
bounds-s-at c = let h = both (goal.at.bounds-s-at c).Then-next_in-2 in omega arith

pub overflow_sub-s : goal.overflow_sub-s
overflow_sub-s c = (both (goal.at.overflow_sub-s c).Then-next_in-2).low0

pub overflow_add-at-then-next_in-2 : goal.overflow_add-at-then-next_in-2
overflow_add-at-then-next_in-2 c = let h = both (goal.at.overflow_add-at-then-next_in-2 c).Then-next_in-2 in omega arith

pub bounds-s-at-then-next_in-2 : goal.bounds-s-at-then-next_in-2
bounds-s-at-then-next_in-2 c = (both (goal.at.bounds-s-at-then-next_in-2 c).Then-next_in-2).in1

pub overflow_sub-s-then-next_in-2 : goal.overflow_sub-s-then-next_in-2
overflow_sub-s-then-next_in-2 c = (both (goal.at.overflow_sub-s-then-next_in-2 c).Then-next_in-2).low1

pub overflow_add-result-then-next_in-2 : goal.overflow_add-result-then-next_in-2
overflow_add-result-then-next_in-2 c = let h = both (goal.at.overflow_add-result-then-next_in-2 c).Then-next_in-2 in omega arith

pub returns-then-next_in-2 : goal.returns-then-next_in-2
returns-then-next_in-2 c =
    let a = c.args in
    let h = both (goal.at.returns-then-next_in-2 c).Then-next_in-2 in
    two_is a.s.now a.at _ h.yes0 h.yes1 (omega (arith, c.from-tens.ensures, c.from-ones.ensures))

pub returns : goal.returns
returns c =
    let a = c.args in
    elim c.else-next_in.branch [
      | else-next_in-via-then-next_in+else-next_in-2 w ↦ two_half a.s.now a.at (sym c.next_in.ensures ∙ w.if-next_in.true) (sym w.next_in-then-next_in.ensures ∙ w.if-next_in-2.false)
      | else-next_in-via-else-next_in w ↦ two_no a.s.now a.at (sym c.next_in.ensures ∙ w.if-next_in.false)
    ]
