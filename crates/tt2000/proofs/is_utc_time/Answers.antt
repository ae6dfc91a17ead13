-- `tt2000::is_utc_time` meets its contract.
use mathlib.Core.Path.{sym, ◌∙◌}
use mathlib.Core.Bool.{◌&&◌, and-false, and-true}
use lib.Dec.{ltb}
use borrow.Author.Tests.{lt-ltb, le-ltb}
use Rattle.leap_seconds.specs.Leaps.{leaps}
use Rattle.tt2000.specs.Tt2000.{is_second, is_utc_time}
use Rattle.tt2000.proofs.is_utc_time.Goals as goal

pub returns-then-f-ge24 : goal.returns-then-f-ge24
unfolding is_utc_time
returns-then-f-ge24 c = let f = c.args.f in rw (le-ltb f.hour 24 c.if-f-ge24.true)

pub returns-then-f-ge60 : goal.returns-then-f-ge60
unfolding is_utc_time
returns-then-f-ge60 c =
    let f = c.args.f in
    rw (le-ltb f.minute 60 c.if-f-ge60.true, and-false (ltb f.hour 24))

pub returns-then-f-ge1000000000 : goal.returns-then-f-ge1000000000
unfolding is_utc_time
returns-then-f-ge1000000000 c =
    let a = c.args in
    rw (le-ltb a.f.nanosecond 1000000000 c.if-f-ge1000000000.true, and-false (is_second (leaps a.list.bytes.now) a.f), and-false (ltb a.f.hour 24 && ltb a.f.minute 60))

pub returns : goal.returns
unfolding is_utc_time
returns c =
    let f = c.args.f in
    c.is_second.ensures
    ∙ rw (lt-ltb f.hour 24 c.if-f-ge24.false, lt-ltb f.minute 60 c.if-f-ge60.false, lt-ltb f.nanosecond 1000000000 c.if-f-ge1000000000.false) (sym (and-true (is_second (leaps c.args.list.bytes.now) f)))
