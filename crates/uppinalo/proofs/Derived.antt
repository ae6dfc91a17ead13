-- Demand 2, texts: too long, an unknown name, a cutover that is not allowed, then ill-formed exactly where the grammar does not derive them.
use Rattle.std.specs.Prelude.{Result, Ok, Err, ℤ}
use mathlib.Core.Path.{◌≡◌, sym, ap, ◌∙◌}
use mathlib.Core.List.{List}
use mathlib.Core.Option.{Option, none, some}
use Prim.Native.Nat.{ℕ, ◌≤◌}
use native.Mathlib.Omega.{arith}
use lib.ListN.{length}
use Rattle.refusal.specs.declared.Refusal.{Refusal}
use Rattle.refusal.specs.declared.Refusal.TheVariants.{TextTooLong, UnknownCalendar, CutoverNotAllowed}
use Rattle.calendar.specs.declared.Calendar.{Calendar}
use Rattle.calendar.specs.declared.Date.{Date}
use Rattle.cutover.specs.Calendars.{with_cutover}
use Rattle.cutover.proofs.Theorems.{only_16}
use Rattle.grammar.specs.Grammar.{Derives}
use Rattle.calendar_name.specs.Names.{calendar_of}
use Rattle.named_text.specs.Texts.{of_name, named_calendar, text_calendar}
use Rattle.named_text.proofs.Laws.{text_long, text_named, text_refused, text_derived, text_underived}
use Rattle.date_text.specs.DateRule.{date_rule}
use Rattle.date_text.specs.declared.WrittenDate.{WrittenDate}
use Rattle.date_text.proofs.Texts.{date_clear}
use Rattle.units_text.specs.UnitsRule.{units}
use Rattle.units_text.specs.declared.Units.{Units}
use Rattle.units_text.proofs.Texts.{units_clear}
use Rattle.written_instant.specs.Instants.{written_instant}
use Rattle.written_instant.proofs.Order.{written_outcome}
use Rattle.iso_text.specs.Iso.{read_iso}
use Rattle.axis_text.specs.Units.{axis_at, axis_of, read_units}
use Rattle.uppinalo.specs.Texts.{of_instant, of_axis}
use Rattle.uppinalo.specs.Demands.{TextsByGrammar, TextsBeforeGrammar}
use Rattle.axis_types.specs.declared.Axis.{Axis}

module _ (name : List ℕ) (cutover : Date) (text : List ℕ) (c : Calendar) (l : length text ≤ 128) (n : named_calendar name cutover ≡ Ok c) where
  units_later : (u : Units) → (of_axis (axis_of c u) cutover).number ≡ 3 → ⊥
  units_later u = written_outcome c u.reference (λ (a : Result ℤ Refusal). (of_axis (axis_at c u a) cutover).number ≡ 3 → ⊥) (λ t _ h. omega arith) (λ h. omega arith) (λ h. omega arith) (λ h. omega arith) (λ h. omega arith)

  date_later : (w : WrittenDate) → (of_instant (written_instant c w)).number ≡ 3 → ⊥
  date_later w = written_outcome c w (λ (a : Result ℤ Refusal). (of_instant a).number ≡ 3 → ⊥) (λ t _ h. omega arith) (λ h. omega arith) (λ h. omega arith) (λ h. omega arith) (λ h. omega arith)

  units_is : (u : Units) → Derives units text u → read_units name cutover text ≡ axis_of c u
  unfolding read_units
  units_is u d = text_derived Err units axis_of name cutover text c l n u units_clear d

  iso_is : (w : WrittenDate) → Derives date_rule text w → read_iso name cutover text ≡ written_instant c w
  unfolding read_iso
  iso_is w d = text_derived Err date_rule written_instant name cutover text c l n w date_clear d

  pub texts : TextsByGrammar name cutover text c
  unfolding read_units read_iso
  texts =
      record {
        units_refused = ((λ h u d. units_later u (sym (ap (λ (a : Result Axis Refusal). (of_axis a cutover).number) (units_is u d)) ∙ h)), λ f. ap (λ (a : Result Axis Refusal). (of_axis a cutover).number) (text_underived Err units axis_of name cutover text c l n f));
        iso_refused = ((λ h w d. date_later w (sym (ap (λ (a : Result ℤ Refusal). (of_instant a).number) (iso_is w d)) ∙ h)), λ f. ap (λ (a : Result ℤ Refusal). (of_instant a).number) (text_underived Err date_rule written_instant name cutover text c l n f));
        units_read = λ u d. ap (λ (a : Result Axis Refusal). of_axis a cutover) (units_is u d);
        iso_read = λ w d. ap of_instant (iso_is w d);
      }

pub before_texts : (name : List ℕ) (cutover : Date) (text : List ℕ) → TextsBeforeGrammar name cutover text
unfolding read_units read_iso
before_texts name cutover text =
    record {
      units_long = λ h. units_no TextTooLong (text_long name cutover text h);
      iso_long = λ h. iso_no TextTooLong (text_long name cutover text h);
      units_name = λ l n. units_no UnknownCalendar (unnamed l n);
      iso_name = λ l n. iso_no UnknownCalendar (unnamed l n);
      units_cutover = λ l c n r e. units_no CutoverNotAllowed (not_allowed l c n r e);
      iso_cutover = λ l c n r e. iso_no CutoverNotAllowed (not_allowed l c n r e);
    }
  where
    units_no : (r : Refusal) → Err r ≡ text_calendar name cutover text → of_axis (read_units name cutover text) cutover ≡ of_axis (Err r) cutover
    units_no r e = ap (λ (a : Result Axis Refusal). of_axis a cutover) (sym (text_refused Err units axis_of name cutover text r e))

    iso_no : (r : Refusal) → Err r ≡ text_calendar name cutover text → of_instant (read_iso name cutover text) ≡ of_instant (Err r)
    iso_no r e = ap of_instant (sym (text_refused Err date_rule written_instant name cutover text r e))

    unnamed : length text ≤ 128 → calendar_of name ≡ none → Err UnknownCalendar ≡ text_calendar name cutover text
    unnamed l n = text_named name cutover text (Err UnknownCalendar) l (ap (λ (o : Option Calendar). of_name o cutover) n)

    not_allowed : length text ≤ 128 → (c : Calendar) → calendar_of name ≡ some c → (r : Refusal) → with_cutover c cutover ≡ Err r → Err CutoverNotAllowed ≡ text_calendar name cutover text
    not_allowed l c n r e =
        text_named name cutover text (Err CutoverNotAllowed) l (ap (λ (o : Option Calendar). of_name o cutover) n ∙ (e ∙ ap Err (only_16 c cutover r e)))
