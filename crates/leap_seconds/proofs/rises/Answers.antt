-- `leap_seconds::rises` meets its contract. The invariant: the whole test is the test of the records that are left, after the last day and count.
use Prim.Native.Nat.{ℕ, suc, ◌+◌, ◌-◌, ◌*◌, ◌<◌, ◌^◌}
use mathlib.Core.Path.{◌≡◌, sym, ap, ◌∙◌}
use mathlib.Core.List.{List, ◌∷◌}
use native.Mathlib.Omega.{arith}
use lib.IntN.{pos}
use mir.Syntax.{w64}
use mir.ValLaws.{to_z_pos}
use Rattle.leap_seconds.specs.Leaps.{Leap, leap_at, leaps_from, rises_from, word_at}
use Rattle.leap_seconds.specs.Closed.{day_at}
use Rattle.leap_seconds.proofs.Testing.{word_negative, not_natural, rises_next, not_later, negative_day, other_count, leaps_next, leaps_end}
use Rattle.leap_seconds.proofs.rises.Goals as goal
use Rattle.leap_seconds.proofs.rises.Goals.{After-word_at-day, then-day-last-via-then-day-last, then-day-last-via-else-day-last+then-day, then-day-last-via-else-day-last+else-day+then-word_at-i}

-- the record of a turn, and those after it
module _ (c : After-word_at-day) where
  abbrev s : List ℕ
  s = c.args.s.now

  abbrev i : ℕ
  i = c.loop-i.i

  abbrev last : ℕ
  last = c.loop-i.last

  abbrev rest : List Leap
  rest = leaps_from (c.args.n - (i + 1)) (i + 1) s

  turn : rises_from (pos 730) 10 (leaps_from (c.args.n - 1) 1 s) ≡ rises_from (pos last) (9 + i) (leap_at s i ∷ rest)
  turn = c.loop-i.invariant.1 ∙ ap (rises_from (pos last) (9 + i)) (leaps_next s c.args.n i c.loop-i-test.true)

  is : day_at s i ≡ c.word_at-day.result
  is = sym c.word_at-day.ensures

pub returns-then-day-last : goal.returns-then-day-last
returns-then-day-last c =
    let r = (goal.at.returns-then-day-last c).After-word_at-day in
    let d = day_at (s r) (i r) in
    sym
    (turn r
    ∙ elim c.then-day-last.branch [
      | then-day-last-via-then-day-last w ↦
          let small : d < 2 ^ 63 = omega (arith, is r, r.loop-i.invariant.0) in
          not_later (last r) (9 + i r) (leap_at (s r) (i r)) (rest r) d (omega (arith, is r)) (to_z_pos w64 d small)
      | then-day-last-via-else-day-last+then-day w ↦ negative_day (last r) (9 + i r) (leap_at (s r) (i r)) (rest r) (2 ^ 64 - suc d) (word_negative d (omega (arith, is r)))
      | then-day-last-via-else-day-last+else-day+then-word_at-i w ↦
          let e = w.word_at.ensures in
          let f = w.if-word_at-i.true in
          other_count (last r) (9 + i r) (leap_at (s r) (i r)) (rest r) (not_natural (word_at (s r) (16 * i r + 8)) (suc (9 + i r)) (λ h. omega arith))
    ])

count_next : (i : ℕ) → suc (9 + i) ≡ 9 + (i + 1)
count_next i = omega arith

pub loop-i-preserved : goal.loop-i-preserved
loop-i-preserved c =
    let w = (goal.at.loop-i-preserved c).After-word_at-day in
    let d = day_at (s w) (i w) in
    let k = word_at (s w) (16 * i w + 8) in
    let e = c.word_at.ensures in
    let small : d < 2 ^ 63 = omega (arith, is w) in
    let count : k ≡ suc (9 + i w) = omega arith in (
      omega arith,
      turn w
          ∙ (rises_next (last w) (9 + i w) (leap_at (s w) (i w)) (rest w) d (omega (arith, is w)) (to_z_pos w64 d small) (to_z_pos w64 k (omega arith) ∙ ap pos count)
          ∙ (λ j. rises_from (pos (is w j)) (count_next (i w) j) (rest w))),
    )

pub returns : goal.returns
unfolding rises_from
returns c =
    let b = c in
    let a = b.args in
    sym (b.loop-i.invariant.1 ∙ ap (rises_from (pos b.loop-i.last) (9 + b.loop-i.i)) (leaps_end a.s.now a.n b.loop-i.i c.loop-i-test.false))
