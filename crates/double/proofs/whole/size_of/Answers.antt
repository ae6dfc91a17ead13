-- `double::whole::size_of` meets its contract. proofs/WholeSize.antt has the arithmetic.
use borrow.Author.Rules.{rules}
use Rattle.double.proofs.WholeSize.{large, no_size, under_one, shifted_up, shifted_down, left_over}
use Rattle.double.proofs.whole.size_of.Goals as goal

pub returns-then-p-ge1087 : goal.returns-then-p-ge1087
returns-then-p-ge1087 c = large c.args.p.field c.args.p.digits c.if-p-ge1087.true

pub returns-then-p-eq0 : goal.returns-then-p-eq0
returns-then-p-eq0 c = no_size c.args.p.field c.args.p.digits c.if-p-eq0.true

pub returns-then-p-lt1023 : goal.returns-then-p-lt1023
returns-then-p-lt1023 c = under_one c.args.p.field c.args.p.digits c.if-p-lt1023.true c.args.p.short c.if-p-eq0.false

pub returns-then-p-gt1075 : goal.returns-then-p-gt1075
returns-then-p-gt1075 c = shifted_up c.args.p.field c.args.p.digits c.if-p-gt1075.true c.if-p-ge1087.false c.args.p.short

pub returns-then-n-p : goal.returns-then-n-p
returns-then-n-p c = shifted_down c.args.p.field c.args.p.digits (search rules) c.if-p-gt1075.false c.args.p.short c.if-n-p.true

pub returns-else-n-p : goal.returns-else-n-p
returns-else-n-p c = left_over c.args.p.field c.args.p.digits (search rules) c.if-p-gt1075.false c.args.p.short c.if-n-p.false
