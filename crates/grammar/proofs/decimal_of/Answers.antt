-- `grammar::decimal_of` meets its contract: the goals; Invariants.antt has the loop's invariant.
use Rattle.std.proofs.Common.{ℕ, ◌+◌, ◌-◌, ◌*◌, ◌≤◌, ◌<◌, ◌≡◌, true, List, length, drop, refl, arith, slice_index_or}
use Rattle.grammar.specs.Grammar.{every}
use Rattle.grammar.specs.Rules.{digit, decimal}
use Rattle.grammar.proofs.Numerals.{numeral_below, numeral_next, numeral_end}
use Rattle.grammar.proofs.Places.{span_at}
use Rattle.grammar.proofs.decimal_of.Goals as goal

-- in a turn: the byte is a digit's, the next value makes the same number with the digits that are then left, and the number is small
record Turn (d : List ℕ) (v i b : ℕ) : Type 0 where
  low : 48 ≤ b
  next : decimal (v * 10 + (b - 48)) (drop (i + 1) d) ≡ decimal 0 d
  grows : v * 10 + (b - 48) ≤ decimal 0 d
  small : decimal 0 d < 1000000

turn : (d : List ℕ) (v i : ℕ) → every digit d ≡ true → length d ≤ 6 → i < length d → decimal v (drop i d) ≡ decimal 0 d → Turn d v i (slice_index_or d i 0)
turn d v i e l h q =
    let g = span_at 48 57 d i e h in
    let n = numeral_next 10 48 (omega arith) d v i (slice_index_or d i 0) h refl q in
    record {
      low = g.0;
      next = n.0;
      grows = n.1;
      small = numeral_below 10 48 (omega arith) d 6 e l;
    }

pub overflow_mul-v : goal.overflow_mul-v
overflow_mul-v c =
    let t = turn c.args.d.now c.loop-b.v c.loop-b.b-index c.requires.d_value c.requires.d_len_bound (omega arith) c.loop-b.invariant in
    omega arith

pub overflow_sub-b : goal.overflow_sub-b
overflow_sub-b c =
    let t = turn c.args.d.now c.loop-b.v c.loop-b.b-index c.requires.d_value c.requires.d_len_bound (omega arith) c.loop-b.invariant in
    omega arith

pub overflow_add-v : goal.overflow_add-v
overflow_add-v c =
    let t = turn c.args.d.now c.loop-b.v c.loop-b.b-index c.requires.d_value c.requires.d_len_bound (omega arith) c.loop-b.invariant in
    omega (arith, c.from.ensures)

pub returns-clause-upper_bound : goal.returns-clause-upper_bound
returns-clause-upper_bound c =
    let d = c.args.d.now in
    rw (numeral_end 10 48 d c.loop-b.v c.loop-b.b-index (omega arith) c.loop-b.invariant) (numeral_below 10 48 (omega arith) d (length d) c.requires.d_value (omega arith))
