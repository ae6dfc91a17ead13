-- The round trip: reading the text of an instant gives the instant, in every calendar and for every instant in the years -9999 to 9999.
-- So no two instants of one calendar share a text.
use Rattle.std.specs.Prelude.{Ok, Err}
use Prim.Native.Nat.{ℕ, ◌≤◌}
use native.Mathlib.Omega.{arith}
use mathlib.Core.Path.{◌≡◌, refl, sym, ap, subst, ◌∙◌}
use mathlib.Core.List.{List}
use mathlib.Core.Option.{some}
use lib.IntN.{ℤ, pos, negsuc, nat_abs, +ℤ_idr}
use lib.ListN.{length}
use Rattle.grammar.specs.Reader.{read}
use Rattle.calendar.specs.Calendar.{date_of}
use Rattle.calendar.specs.declared.Calendar.{Calendar}
use Rattle.calendar.proofs.Existing.{valid_of}
use Rattle.calendar.proofs.Theorems.{dates_exist}
use Rattle.instant.specs.Instant.{day_of, time_of, fields_at, fields_answer, instant_answer}
use Rattle.instant.specs.declared.Fields.{Fields}
use Rattle.instant.proofs.Theorems.{shown, time_small, instant_of_fields}
use Rattle.date_text.specs.DateRule.{utc, date_rule}
use Rattle.iso_form.proofs.Back.{Formed, read_back}
use Rattle.iso_form.proofs.Laws.{iso_length_lem}
use Rattle.signed.specs.Sign.{with_sign}
use Rattle.written_instant.specs.Instants.{local_fields, ranged, less_zone, written_instant}
use Rattle.named_text.proofs.Laws.{text_named, text_read}
use Rattle.named_text.specs.Texts.{named_calendar}
use Rattle.calendar.specs.declared.Date.{Date}
use Rattle.iso_text.proofs.Laws.{year_small}
use Rattle.iso_text.specs.Iso.{is_negative, utc_date, text_of, read_iso}

signed_back : (y : ℤ) → with_sign (is_negative y) (nat_abs y) ≡ y
signed_back (pos n) = refl
signed_back (negsuc n) = refl

module _ (c : Calendar) (t : ℤ) (f : Fields) (e : fields_answer c t ≡ Ok f) where
  -- the fields of an instant fit the form
  formed_at : Formed (utc_date (fields_at (date_of c (day_of t)) (time_of t)))
  formed_at =
      let x = date_of c (day_of t) in
      let v = valid_of c x (dates_exist c (day_of t)) in
      let s = time_small t in
      record {
        year = year_small x.year (shown c t f e).inside;
        month = omega (arith, v.month_high);
        day = omega (arith, v.day_high);
        hour = omega arith;
        minute = omega arith;
        second = omega arith;
        microsecond = omega arith;
        zone = refl;
      }

  formed : Formed (utc_date f)
  formed = subst (λ (g : Fields). Formed (utc_date g)) (shown c t f e).is formed_at

  read_text_lem : read date_rule (text_of f) ≡ some (utc_date f)
  read_text_lem = read_back (utc_date f) formed

  local_back : local_fields (utc_date f) ≡ f
  local_back = λ i. record { year = signed_back f.year i; month = f.month; day = f.day; hour = f.hour; minute = f.minute; second = f.second; microsecond = f.microsecond }

  instant_back : written_instant c (utc_date f) ≡ Ok t
  unfolding written_instant
  instant_back =
      let r : ranged c t ≡ Ok t = rw (shown c t f e).inside in
      ap (λ (g : Fields). less_zone c utc (instant_answer c g)) local_back
      ∙ (ap (less_zone c utc) (instant_of_fields c t f e)
      ∙ (ap (ranged c) (+ℤ_idr t) ∙ r))

  -- reading the text of an instant gives the instant, under every name of its calendar, with its cutover
  pub round_trip : (name : List ℕ) (x : Date) → named_calendar name x ≡ Ok c → read_iso name x (text_of f) ≡ Ok t
  unfolding read_iso
  round_trip name x n =
      let l : length (text_of f) ≤ 128 = omega (arith, iso_length_lem (utc_date f)) in
      sym (text_read Err date_rule written_instant name x (text_of f) c (some (utc_date f)) (text_named name x (text_of f) (Ok c) l n) read_text_lem) ∙ instant_back

-- no two instants of one calendar share a text
pub one_text : (c : Calendar) (t u : ℤ) (f g : Fields) → fields_answer c t ≡ Ok f → fields_answer c u ≡ Ok g → text_of f ≡ text_of g → t ≡ u
one_text c t u f g p q e =
    let x = instant_back c t f p in
    let y = instant_back c u g q in
    let a = read_text_lem c t f p in
    let b = read_text_lem c u g q in
    let w : utc_date f ≡ utc_date g = (cc) in
    let z : Ok t ≡ Ok u = sym x ∙ (ap (written_instant c) w ∙ y) in
    cc
