-- `double::Pattern::scaled_size` meets its contract. proofs/Scaling.antt has the arithmetic.
use mathlib.Core.Path.{subst}
use Prim.Native.Nat.{ℕ, ◌+◌, ◌-◌, ◌^◌}
use borrow.Author.Rules.{rules}
use Rattle.rounding.specs.Rounding.{RoundedTo}
use Rattle.double.proofs.Scaling.{little, placed}
use Rattle.double.proofs.Pattern.scaled_size.Goals as goal

pub returns-then-self-scale : goal.returns-then-self-scale
returns-then-self-scale c =
    little c.args.scale c.args.self.field c.args.self.digits c.args.self.short c.if-self-scale.true

pub returns : goal.returns
returns c =
    let r = c.round_high in
    placed c.args.scale r.result c.args.self.field c.args.self.digits (search rules) c.requires
    (subst (λ (n : ℕ). RoundedTo r.result n (2 ^ (64 + (1021 + c.args.scale.shift - c.args.self.field)))) c.product-n.ensures r.ensures)
