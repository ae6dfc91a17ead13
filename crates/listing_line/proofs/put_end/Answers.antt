-- `listing_line::put_end` meets its contract.
use native.Mathlib.Omega.{arith}
use mathlib.Core.Path.{◌≡◌, sym, ap, ◌∙◌}
use mathlib.Core.Bool.{Bool, true, false}
use mathlib.Core.List.{List, ◌++◌}
use Prim.Native.Nat.{ℕ, ◌≤◌}
use lib.ListN.{length, drop}
use Rattle.iso_form.specs.Form.{over}
use Rattle.iso_form.proofs.Laws.{whole_over}
use Rattle.listing_line.specs.Line.{rounded_text, newline}
use Rattle.listing_line.proofs.put_end.Goals as goal

-- what stands after ISO text, at the front of long enough room
ended : (b exact : Bool) (room : List ℕ) → exact ≡ b → length (rounded_text b ++ newline) ≤ length room → (rounded_text b ++ newline) ++ drop (length (rounded_text b ++ newline)) room ≡ over (rounded_text exact ++ newline) room
ended b exact room e h = sym (whole_over (rounded_text b ++ newline) room h) ∙ ap (λ (x : Bool). over (rounded_text x ++ newline) room) (sym e)

pub returns-then-exact-clause-room_after : goal.returns-then-exact-clause-room_after
returns-then-exact-clause-room_after c = c.copy.ensures.copied ∙ ended true c.args.exact c.args.room.now c.if-exact.true (omega arith)

pub returns-clause-room_after : goal.returns-clause-room_after
returns-clause-room_after c = c.copy-2.ensures.copied ∙ ended false c.args.exact c.args.room.now c.if-exact.false (omega arith)
