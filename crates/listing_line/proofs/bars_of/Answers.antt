-- `listing_line::bars_of` meets its contract: each search finds the next text between bars.
use native.Mathlib.Omega.{arith}
use Prim.Native.Nat.{◌+◌}
use mathlib.Core.Path.{◌≡◌, ap, ◌∙◌}
use mathlib.Core.List.{List, ◌∷◌}
use Prim.Native.Nat.{ℕ}
use lib.ListN.{drop}
use Rattle.listing_line.specs.Line.{parted, of_parts}
use Rattle.listing_line.specs.Closed.{part}
use Rattle.listing_line.proofs.Parts.{bar_found, bar_missing, too_many}
use Rattle.listing_line.proofs.bars_of.Goals as goal
use Rattle.listing_line.proofs.bars_of.Goals.{Else-a-n, Else-b-n}

pub returns-then-a-n : goal.returns-then-a-n
returns-then-a-n c = ap of_parts (bar_missing c.args.line.now 0 c.find-a.result c.find-a.ensures.value (omega arith) c.if-a-n.true)

-- the text before the first bar
one : (c : Else-a-n) → parted c.args.line.now ≡ part 0 c.find-a.result c.args.line.now ∷ parted (drop (c.find-a.result + 1) c.args.line.now)
one c = bar_found c.args.line.now 0 c.find-a.result c.find-a.ensures.value (omega arith)

pub returns-then-b-n : goal.returns-then-b-n
returns-then-b-n c =
    let s = c.args.line.now in
    let a = c.find-a.result in
    ap of_parts (one (goal.at.returns-then-b-n c).Else-a-n ∙ ap (◌∷◌ (part 0 a s)) (bar_missing s (a + 1) c.find-b.result c.find-b.ensures.value (omega arith) c.if-b-n.true))

-- the text between the first two bars
between : (c : Else-b-n) → let s = c.args.line.now in let a = c.find-a.result in let b = c.find-b.result in parted s ≡ part 0 a s ∷ part (a + 1) b s ∷ parted (drop (b + 1) s)
between c =
    let s = c.args.line.now in
    let a = c.find-a.result in
    bar_found s 0 a c.find-a.ensures.value (omega arith) ∙ ap (◌∷◌ (part 0 a s)) (bar_found s (a + 1) c.find-b.result c.find-b.ensures.value (omega arith))

pub returns-then-find-n : goal.returns-then-find-n
returns-then-find-n c =
    let s = c.args.line.now in
    let a = c.find-a.result in
    let b = c.find-b.result in
    record {
      first = omega arith;
      second = omega arith;
      parts = between (goal.at.returns-then-find-n c).Else-b-n ∙ ap (λ (t : List (List ℕ)). part 0 a s ∷ part (a + 1) b s ∷ t) (bar_missing s (b + 1) c.find.result c.find.ensures.value (omega arith) c.if-find-n.true);
    }

pub returns : goal.returns
returns c =
    let s = c.args.line.now in
    let a = c.find-a.result in
    let b = c.find-b.result in
    ap of_parts (between (goal.at.returns c).Else-b-n ∙ ap (λ (t : List (List ℕ)). part 0 a s ∷ part (a + 1) b s ∷ t) (bar_found s (b + 1) c.find.result c.find.ensures.value (omega arith)))
    ∙ too_many _ _ _ (drop (c.find.result + 1) s)
