-- Codes that name nothing.
use Rattle.std.specs.Prelude.{Result, Ok, Err, Option, Some, None}
use mathlib.Core.Path.{◌≡◌, refl, sym, ap, ◌∙◌}
use Prim.Native.Nat.{ℕ, zero, suc}
use native.Mathlib.Omega.{arith}
use Rattle.refusal.specs.declared.Refusal.{Refusal}
use Rattle.refusal.specs.declared.Refusal.TheVariants.{UnknownCalendar, IllFormed, CutoverNotAllowed}
use Rattle.calendar.specs.declared.Calendar.{Calendar}
use Rattle.codes.specs.Codes.{coded_calendar, coded_period, coded_mode, axis_in, axis_with, coded_axis}
use Rattle.cutover.specs.Calendars.{with_cutover}
use Rattle.cutover.proofs.Theorems.{only_16}
use Rattle.axis_types.specs.declared.Period.{Period}
use Rattle.axis_types.specs.declared.Mode.{Mode}
use Rattle.codes.specs.declared.UppinaloAxis.{UppinaloAxis}

pub unknown_calendar : (n : ℕ) → (n ≡ 0 → ⊥) → (n ≡ 1 → ⊥) → (n ≡ 2 → ⊥) → (n ≡ 3 → ⊥) → (n ≡ 4 → ⊥) → (n ≡ 5 → ⊥) → None ≡ coded_calendar n
unknown_calendar zero a b c d e f = absurd (a refl)
unknown_calendar (suc zero) a b c d e f = absurd (b refl)
unknown_calendar (suc (suc zero)) a b c d e f = absurd (c refl)
unknown_calendar (suc (suc (suc zero))) a b c d e f = absurd (d refl)
unknown_calendar (suc (suc (suc (suc zero)))) a b c d e f = absurd (e refl)
unknown_calendar (suc (suc (suc (suc (suc zero))))) a b c d e f = absurd (f refl)
unknown_calendar (suc (suc (suc (suc (suc (suc n)))))) a b c d e f = refl

pub unknown_period : (n : ℕ) → (n ≡ 0 → ⊥) → (n ≡ 1 → ⊥) → (n ≡ 2 → ⊥) → (n ≡ 3 → ⊥) → (n ≡ 4 → ⊥) → (n ≡ 5 → ⊥) → (n ≡ 6 → ⊥) → (n ≡ 7 → ⊥) → None ≡ coded_period n
unknown_period zero a b c d e f g h = absurd (a refl)
unknown_period (suc zero) a b c d e f g h = absurd (b refl)
unknown_period (suc (suc zero)) a b c d e f g h = absurd (c refl)
unknown_period (suc (suc (suc zero))) a b c d e f g h = absurd (d refl)
unknown_period (suc (suc (suc (suc zero)))) a b c d e f g h = absurd (e refl)
unknown_period (suc (suc (suc (suc (suc zero))))) a b c d e f g h = absurd (f refl)
unknown_period (suc (suc (suc (suc (suc (suc zero)))))) a b c d e f g h = absurd (g refl)
unknown_period (suc (suc (suc (suc (suc (suc (suc zero))))))) a b c d e f g h = absurd (h refl)
unknown_period (suc (suc (suc (suc (suc (suc (suc (suc n)))))))) a b c d e f g h = refl

pub unknown_mode : (n : ℕ) → (n ≡ 0 → ⊥) → (n ≡ 1 → ⊥) → None ≡ coded_mode n
unknown_mode zero a b = absurd (a refl)
unknown_mode (suc zero) a b = absurd (b refl)
unknown_mode (suc (suc n)) a b = refl

-- an axis is refused for its calendar, then for its period or its mode, then for its cutover
module _ (a : UppinaloAxis) (r : Refusal) (e : coded_axis a ≡ Err r) where
  -- where it is known what the codes name
  as_named : (c : Option Calendar) (p : Option Period) (m : Option Mode) → coded_calendar a.calendar ≡ c → coded_period a.period ≡ p → coded_mode a.mode ≡ m → axis_with c p m a ≡ Err r
  unfolding coded_axis
  as_named c p m f g h = (λ i. axis_with (sym f i) (sym g i) (sym h i) a) ∙ e

  pub refused_calendar : coded_calendar a.calendar ≡ None → r ≡ UnknownCalendar
  refused_calendar f = let k = as_named None (coded_period a.period) (coded_mode a.mode) f refl refl in cc

  module _ (c : Calendar) (f : coded_calendar a.calendar ≡ Some c) where
    pub refused_period : coded_period a.period ≡ None → r ≡ IllFormed
    refused_period g = let k = as_named (Some c) None (coded_mode a.mode) f g refl in cc

    module _ (p : Period) (g : coded_period a.period ≡ Some p) where
      pub refused_mode : coded_mode a.mode ≡ None → r ≡ IllFormed
      refused_mode h = let k = as_named (Some c) (Some p) None f g h in cc

      pub refused_cutover : (m : Mode) → coded_mode a.mode ≡ Some m → r ≡ CutoverNotAllowed
      refused_cutover m h = go (with_cutover c a.cutover) refl (as_named (Some c) (Some p) (Some m) f g h)
        where
          go : (q : Result Calendar Refusal) → with_cutover c a.cutover ≡ q → axis_in q p m a ≡ Err r → r ≡ CutoverNotAllowed
          go (Ok d) q k = absurd (let z : ◌≡◌ {A = ℕ} 0 1 = cc in omega arith)
          go (Err s) q k = only_16 c a.cutover r (q ∙ (let i : s ≡ r = cc in ap Err i))
