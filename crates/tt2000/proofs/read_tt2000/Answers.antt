-- `tt2000::read_tt2000` meets its contract.
use Rattle.std.specs.Prelude.{Result, Ok}
use mathlib.Core.Path.{◌≡◌, ap, ◌∙◌}
use mathlib.Core.Bool.{true, false}
use mathlib.Core.List.{List}
use Prim.Native.Nat.{ℕ, ◌-◌, ◌/◌, ◌%◌}
use native.Mathlib.Omega.{arith}
use lib.IntN.{ℤ, ◌-ℤ◌}
use Rattle.signed.specs.Bias.{unbiased}
use Rattle.signed.proofs.Machine.{crossed}
use Rattle.leap_seconds.specs.Leaps.{leaps, is_good}
use Rattle.leap_seconds.specs.declared.Moment.{Moment}
use Rattle.leap_seconds.proofs.Listed.{listed}
use Rattle.leap_seconds.proofs.Moments.{moment_small}
use Rattle.tt2000.specs.Tt2000.{start_of, utc_fields_at, after_start, read_tt2000}
use Rattle.tt2000.proofs.Numbers.{before_start, from_start}
use Rattle.tt2000.proofs.read_tt2000.Goals as goal
use Rattle.tt2000.proofs.read_tt2000.Goals.{After-biased-k}
use Rattle.refusal.specs.declared.Refusal.{Refusal}
use Rattle.tt2000.specs.declared.UtcFields.{UtcFields}

pub returns-in_default : goal.returns-in_default
unfolding read_tt2000
returns-in_default c = let e : is_good c.args.s.now ≡ false = c.in_default.ensures in rw e

-- a good list, and the number by its sum with 2^63
module _ (c : After-biased-k) where
  abbrev s : List ℕ
  s = c.in-Some.list.bytes.now

  good : is_good s ≡ true
  good = c.in-Some.list.good

  abbrev k : ℕ
  k = c.biased-k.result

  answered : (r : Result UtcFields Refusal) → r ≡ after_start (leaps s) (unbiased k -ℤ start_of (leaps s)) → r ≡ read_tt2000 c.args.s.now c.args.t
  unfolding read_tt2000
  answered r e = e ∙ rw good (ap (λ (z : ℤ). after_start (leaps s) (z -ℤ start_of (leaps s))) (crossed c.args.t k c.ranges.t c.biased-k.ensures)) ∙ ap (λ (b : List ℕ). read_tt2000 b c.args.t) c.in-Some.ensures

pub returns-then-k : goal.returns-then-k
returns-then-k c = let b = (goal.at.returns-then-k c).After-biased-k in answered b _ (before_start (s b) (listed (s b) (good b)) (k b) (omega (arith, c.if-k.true)))

pub utc_fields-requires : goal.utc_fields-requires
utc_fields-requires c =
    let b = (goal.at.utc_fields-requires c).After-biased-k in
    let n = k b - (9223372036854775808 - 883655957816000000) in
    let r = moment_small (s b) (listed (s b) (good b)) (n / 1000000000) in
    let e = c.moment_at-m.ensures in
    (omega (arith, r.0, ap (λ (m : Moment). m.day) e), omega (arith, r.1, ap (λ (m : Moment). m.second) e), omega arith)

pub returns : goal.returns
returns c =
    let m = c in
    let b = (goal.at.returns c).After-biased-k in
    let n = k b - (9223372036854775808 - 883655957816000000) in
    answered b _ (ap Ok (c.utc_fields.ensures ∙ ap (λ (t : Moment). utc_fields_at t (n % 1000000000)) m.moment_at-m.ensures) ∙ from_start (s b) (listed (s b) (good b)) (k b) n (omega (arith, m.if-k.false)))
