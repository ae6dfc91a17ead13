-- `rounding::round_high` meets its contract. proofs/HighShift.antt has the arithmetic.
use Rattle.std.proofs.Common.{◌≡◌, ℕ, ◌+◌, ◌-◌, ◌*◌, ◌/◌, ◌%◌, ◌^◌, ◌<◌, sym, ap, ◌∙◌, subst, arith, nat_eq}
use Rattle.std.proofs.Math.Nat.{div-add-mod'}
use Rattle.std.specs.Float.Ieee.Nearest.{closest}
use Rattle.rounding.specs.Rounding.{is_exact}
use Rattle.rounding.specs.Steps.{sticky_of, increment_of}
use Rattle.rounding.proofs.HighShift.{rest_fits, count_fits, rounded}
use Rattle.rounding.proofs.round_high.Goals as goal
use Rattle.rounding.proofs.round_high.Goals.{After-sticky, After-increment-more}

-- the two words, and the rest by what the two calls promise
module _ (c : After-sticky) where
  abbrev high : ℕ
  high = c.args.n / 2 ^ 64

  abbrev low : ℕ
  low = c.args.n % 2 ^ 64

  abbrev top : ℕ
  top = high * 2 ^ (64 - c.args.shift) % 2 ^ 64

  rest_is : top + c.sticky.result ≡ top + sticky_of low
  rest_is = ap (λ (n : ℕ). top + n) c.sticky.ensures

more_is : (c : After-increment-more) → c.increment-more.result ≡ increment_of (top c.before + sticky_of (low c.before)) (high c.before / 2 ^ c.args.shift % 2)
more_is c = c.increment-more.ensures ∙ ap (λ (n : ℕ). increment_of n (high c.before / 2 ^ c.args.shift % 2)) (rest_is c.before)

pub overflow_add-rest : goal.overflow_add-rest
overflow_add-rest c = record { fits = subst (λ (n : ℕ). n < 2 ^ 64) (sym (rest_is c)) (rest_fits (high c) (low c) c.args.shift c.requires.0 c.requires.1) }

pub overflow_add-result : goal.overflow_add-result
overflow_add-result c =
    let s = c in
    record { fits = subst (λ (n : ℕ). s.args.n / 2 ^ 64 / 2 ^ s.args.shift + n < 2 ^ 64) (sym (more_is c)) (count_fits (high c.before) s.args.shift (top c.before + sticky_of (low c.before)) s.requires.0 (omega arith)) }

pub returns : goal.returns
returns c =
    let r = rounded (high c.before) (low c.before) c.args.shift c.requires.0 c.requires.1 (omega arith) in
    let words : high c.before * 2 ^ 64 + low c.before ≡ c.args.n = div-add-mod' c.args.n (2 ^ 64) in
    record {
      nearest = ap (λ (n : ℕ). high c.before / 2 ^ c.args.shift + n) (more_is c) ∙ (r.0 ∙ ap (λ (n : ℕ). closest n (2 ^ (64 + c.args.shift))) words);
      exactly = ap (λ (n : ℕ). nat_eq n 0) (rest_is c.before) ∙ (r.1 ∙ ap (λ (n : ℕ). is_exact n (2 ^ (64 + c.args.shift))) words);
    }
