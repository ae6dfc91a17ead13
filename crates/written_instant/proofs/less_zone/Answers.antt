-- `written_instant::less_zone` meets its contract: the zone is added or taken off, and the range tested.
use native.Mathlib.Omega.{arith}
use Prim.Native.Nat.{◌≤◌, ◌<◌}
use mathlib.Core.Path.{◌≡◌, sym, ap, ◌∙◌}
use mathlib.Core.Bool.{Bool, true}
use mir.ValLaws.{to_z-of_z}
use mir.Syntax.{w64}
use lib.IntN.{◌-ℤ◌}
use Rattle.instant.proofs.Range.{near}
use Rattle.signed.specs.Bias.{unbiased}
use Rattle.signed.proofs.Machine.{crossed}
use Rattle.signed.specs.Sign.{with_sign}
use Rattle.date_text.specs.declared.Zone.{Zone}
use Rattle.written_instant.specs.Instants.{zone_length, ranged, is_zone}
use Rattle.written_instant.proofs.Laws.{taken_off, added, zone_parts}
use Rattle.written_instant.proofs.less_zone.Goals as goal
use Rattle.written_instant.proofs.less_zone.Goals.{After-biased-k}

-- the zone's length is less than a day
zone_small : (z : Zone) → is_zone z ≡ true → zone_length z < 86400000000
zone_small z h = let w = zone_parts z h in omega (arith, w.0, w.1)

-- the instant as a number with its bias of 2^63, which is far from both ends of 64 bits
module _ (b : After-biased-k) where
  raised : unbiased b.biased-k.result ≡ b.args.t
  raised = crossed b.args.t b.biased-k.result b.ranges.t b.biased-k.ensures

  close : (8646911284551352320 ≤ b.biased-k.result) × (b.biased-k.result < 9799832789158199296)
  close = near b.args.c b.args.t b.biased-k.result raised b.requires.1

pub overflow_add-k : goal.overflow_add-k
overflow_add-k c = record { fits = omega (arith, (close (goal.at.overflow_add-k c).After-biased-k).1, zone_small c.args.z c.requires.0) }

pub returns-then-z : goal.returns-then-z
returns-then-z c =
    let u = c in
    let b = (goal.at.returns-then-z c).After-biased-k in
    let a = b.args in
    c.ranged_instant.ensures
    ∙ ap (ranged a.c) (to_z-of_z w64 u.unbiased.result (record { sfits = u.unbiased.type_inv }) ∙ (u.unbiased.ensures ∙ (added a.t b.biased-k.result (zone_length a.z) (raised b) ∙ ap (λ (s : Bool). a.t -ℤ with_sign s (zone_length a.z)) (sym u.if-z.true))))

pub overflow_sub-k : goal.overflow_sub-k
overflow_sub-k c = omega (arith, (close (goal.at.overflow_sub-k c).After-biased-k).0, zone_small c.args.z c.requires.0)

pub returns : goal.returns
returns c =
    let u = c in
    let b = (goal.at.returns c).After-biased-k in
    let a = b.args in
    c.ranged_instant-2.ensures
    ∙ ap (ranged a.c) (to_z-of_z w64 u.unbiased-2.result (record { sfits = u.unbiased-2.type_inv }) ∙ (u.unbiased-2.ensures ∙ (taken_off a.t b.biased-k.result (zone_length a.z) (raised b) (omega (arith, (close b).0, zone_small a.z b.requires.0)) ∙ ap (λ (s : Bool). a.t -ℤ with_sign s (zone_length a.z)) (sym u.if-z.false))))
