-- `offset_text::number_to` meets its contract: the goals; Invariants.antt has the loop's invariant.
use Rattle.std.proofs.Common.{ℕ, ◌+◌, ◌*◌, ◌^◌, ◌≤◌, ◌<◌, ◌≡◌, List, length, drop, sym, ◌∙◌, arith}
use native.Mathlib.Nat.{pow-le-pow_right}
use Rattle.offset_text.specs.Closed.{digits_from}
use Rattle.offset_text.proofs.Digits.{digits_next, digits_stop, power_next}
use Rattle.offset_text.proofs.number_to.Goals as goal
use Rattle.offset_text.proofs.number_to.Goals.{Else-base-d}

pub returns-in_err-d : goal.returns-in_err-d
returns-in_err-d c =
    let l = c.loop-b in
    rw c.from_residual.ensures (sym l.invariant.same ∙ digits_stop c.args.base l.v l.b-index 16 c.args.s.now (omega arith) (sym c.in_err-d.ensures) c.requires.le_base.1)

-- the next value, which is below the power that all digits can reach
record Turn (base v i d : ℕ) (s : List ℕ) : Type 0 where
  below : v * base + d < base ^ (i + 1)
  small : v * base + d < 2 ^ 64
  same : digits_from base (v * base + d) (drop (i + 1) s) ≡ digits_from base 0 s

turn : (c : Else-base-d) → let l = c.loop-b in let a = c.args in Turn a.base l.v l.b-index c.in_ok-d.d a.s.now
turn c =
    let l = c.loop-b in
    let a = c.args in
    let d = c.in_ok-d.d in
    let b = power_next a.base l.v l.b-index d l.invariant.below c.if-base-d.false in
    let p : a.base ^ (l.b-index + 1) ≤ a.base ^ length a.s.now = pow-le-pow_right c.requires.le_base.0 (omega arith) in
    record {
      below = b;
      small = omega arith;
      same = digits_next a.base l.v l.b-index d a.s.now (omega arith) (sym c.in_ok-d.ensures) c.if-base-d.false ∙ l.invariant.same;
    }

pub overflow_mul-v : goal.overflow_mul-v
overflow_mul-v c = let t = turn c in omega arith

pub overflow_add-v : goal.overflow_add-v
overflow_add-v c = let t = turn c in omega arith

pub loop-b-preserved : goal.loop-b-preserved
loop-b-preserved c = let t = turn (goal.at.loop-b-preserved c).Else-base-d in record { below = t.below; same = t.same }
