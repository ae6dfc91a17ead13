-- `tt2000::write_tt2000` meets its contract.
use Rattle.std.proofs.Common.{sym, ap, ◌∙◌, false, ◌≡◌, List, ℕ}
use Rattle.leap_seconds.specs.Leaps.{is_good}
use Rattle.tt2000.specs.Tt2000.{write_tt2000}
use Rattle.tt2000.proofs.Writing.{impossible_time}
use Rattle.tt2000.proofs.write_tt2000.Goals as goal

pub returns-in_default : goal.returns-in_default
unfolding write_tt2000
returns-in_default c = let e : is_good c.args.s.now ≡ false = c.in_default.ensures in rw e

pub returns-then-not-is_utc_time : goal.returns-then-not-is_utc_time
returns-then-not-is_utc_time c =
    let l = c.in-Some.list in
    sym (impossible_time l.bytes.now c.args.f l.good (sym c.is_utc_time.ensures ∙ c.if-not-is_utc_time.true)) ∙ ap (λ (s : List ℕ). write_tt2000 s c.args.f) c.in-Some.ensures
