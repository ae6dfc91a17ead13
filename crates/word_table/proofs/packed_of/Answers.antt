-- `word_table::packed_of` meets its contract: the goals; Invariants.antt has the loop's invariant.
use Rattle.std.proofs.Common.{ℕ, ◌+◌, ◌-◌, ◌*◌, ◌≤◌, ◌<◌, ◌≡◌, List, length, drop, refl, arith, slice_index_or}
use Rattle.grammar.specs.Rules.{numeral}
use Rattle.grammar.proofs.Numerals.{numeral_below, numeral_next}
use Rattle.word_table.specs.Packed.{packed}
use Rattle.word_table.proofs.Packed.{are_bytes}
use Rattle.word_table.proofs.packed_of.Goals as goal

-- in a turn: the next value makes the same number with the bytes that are then left, and the number fits
record Turn (d : List ℕ) (v i b : ℕ) : Type 0 where
  next : numeral 256 0 (v * 256 + b) (drop (i + 1) d) ≡ packed d
  grows : v * 256 + b ≤ packed d
  small : packed d < 18446744073709551616

turn : (d : List ℕ) (v i : ℕ) → length d ≤ 8 → ((k : ℕ) → slice_index_or d k 0 < 256) → i < length d → numeral 256 0 v (drop i d) ≡ packed d → Turn d v i (slice_index_or d i 0)
turn d v i l f h q =
    let n = numeral_next 256 0 (omega arith) d v i (slice_index_or d i 0) h refl q in
    let z : slice_index_or d i 0 - 0 ≡ slice_index_or d i 0 = omega arith in
    record {
      next = rw z at n.0;
      grows = rw z at n.1;
      small = numeral_below 256 0 (omega arith) d 8 (are_bytes d f) l;
    }

pub overflow_mul-v : goal.overflow_mul-v
overflow_mul-v c =
    let t = turn c.args.d.now c.loop-b.v c.loop-b.b-index c.requires (λ i. omega (arith, c.type_inv.d i)) (omega arith) c.loop-b.invariant in
    omega arith

pub overflow_add-v : goal.overflow_add-v
overflow_add-v c =
    let t = turn c.args.d.now c.loop-b.v c.loop-b.b-index c.requires (λ i. omega (arith, c.type_inv.d i)) (omega arith) c.loop-b.invariant in
    omega (arith, c.from.ensures)
