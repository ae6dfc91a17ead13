-- `calendar::ordinal::is_dropped` meets its contract.
use Rattle.std.specs.Prelude.{Option, Some, None}
use Rattle.std.specs.Option.{is_some}
use mathlib.Core.Path.{◌≡◌, refl, sym, ap, ◌∙◌}
use mathlib.Core.Bool.{Bool, true, false, not, ◌&&◌, true≢false}
use Prim.Native.Nat.{ℕ}
use Rattle.calendar.specs.Calendar.{date, exists, dropped, has_year_zero}
use Rattle.calendar.specs.Closed.{year_at, has_day_at, before_place, counts, DayOrNone}
use Rattle.calendar.specs.declared.Calendar.{Calendar}
use Rattle.calendar.specs.declared.Date.{Date}
use Rattle.calendar.specs.declared.place.Place.{Place}
use Rattle.calendar.specs.declared.rule.Rule.{Rule}
use Rattle.calendar.proofs.Counting.{dropped_by_lem}
use Rattle.calendar.proofs.ordinal.is_dropped.Goals as goal
use Rattle.calendar.proofs.ordinal.is_dropped.Goals.{then-is_before, else-is_before}

-- what the three tests settle
settled : (c : Calendar) (y month day : ℕ) (a b t : Bool) → before_place y month day (counts c).from ≡ a → has_day_at (counts c).early y month day ≡ b → exists c (date (year_at (has_year_zero c) y) month day) ≡ t
    → (a && (b && not t)) ≡ dropped c (date (year_at (has_year_zero c) y) month day)
settled c y month day a b t e f g = sym (dropped_by_lem c y month day ∙ (λ i. e i && (f i && not (g i))))

-- the first two, by what they answer
before : (c : Calendar) (y month day : ℕ) (p : Place) (a : Bool) {t : Bool} → p ≡ (counts c).from → a ≡ before_place y month day p → a ≡ t → before_place y month day (counts c).from ≡ t
before c y month day p a f e h = ap (before_place y month day) (sym f) ∙ (sym e ∙ h)

has : (c : Calendar) (y month day : ℕ) (r : Rule) (b : Bool) {t : Bool} → r ≡ (counts c).early → b ≡ has_day_at r y month day → b ≡ t → has_day_at (counts c).early y month day ≡ t
has c y month day r b f e h = ap (λ (q : Rule). has_day_at q y month day) (sym f) ∙ (sym e ∙ h)

-- the third
no_number : (c : Calendar) (x : Date) (n : Option ℕ) (r : Bool) → DayOrNone c x n → is_some n ≡ not r → r ≡ not (exists c x)
no_number c x (Some n) true h e = absurd (true≢false e)
no_number c x (Some n) false h e = sym (ap not h.0)
no_number c x None true h e = sym (ap not h)
no_number c x None false h e = absurd (true≢false (sym e))

pub returns-then-has_day : goal.returns-then-has_day
returns-then-has_day c =
    let x = c.args in
    no_number x.c (date (year_at (has_year_zero x.c) x.y) x.month x.day) c.biased_day.result c.is_none.result c.biased_day.ensures c.is_none.ensures
    ∙ elim c.if-is_before.branch [
      | then-is_before w ↦
          settled x.c x.y x.month x.day true true _ (before x.c x.y x.month x.day c.from_of.result c.is_before.result c.from_of.ensures c.is_before.ensures w.if-is_before.true)
          (has x.c x.y x.month x.day w.rule_of.result w.has_day.result w.rule_of.ensures w.has_day.ensures (sym w.value-is ∙ c.if-has_day.true)) refl
      | else-is_before w ↦ absurd (true≢false (sym c.if-has_day.true ∙ (w.value-is ∙ w.if-is_before.false)))
    ]

pub returns-else-has_day : goal.returns-else-has_day
returns-else-has_day c =
    let x = c.args in
    c.if-has_day.false
    ∙ elim c.if-is_before.branch [
      | then-is_before w ↦
          settled x.c x.y x.month x.day true false _ (before x.c x.y x.month x.day c.from_of.result c.is_before.result c.from_of.ensures c.is_before.ensures w.if-is_before.true)
          (has x.c x.y x.month x.day w.rule_of.result w.has_day.result w.rule_of.ensures w.has_day.ensures (sym w.value-is ∙ c.if-has_day.false)) refl
      | else-is_before w ↦ settled x.c x.y x.month x.day false _ _ (before x.c x.y x.month x.day c.from_of.result c.is_before.result c.from_of.ensures c.is_before.ensures w.if-is_before.false) refl refl
    ]
