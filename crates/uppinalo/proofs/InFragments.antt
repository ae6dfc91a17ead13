-- A units text in fragments: it is read as the joined text is, and 11 is exactly for a state that is not open.
use Rattle.std.specs.Prelude.{Result, Err, ℤ}
use mathlib.Core.Path.{◌≡◌, refl, sym, ap, ◌∙◌}
use mathlib.Core.Bool.{Bool, true, false, true≢false}
use mathlib.Core.List.{List}
use Prim.Native.Nat.{ℕ}
use native.Mathlib.Omega.{arith}
use lib.Dec.{eqb, leb, ltb}
use lib.ListN.{length, take}
use borrow.Author.Tests.{eq-eqb, le-leb, lt-ltb, le-ltb, eqb-true, leb-true, ltb-true, ltb-false}
use Rattle.signed.proofs.Tests.{both, and_parts, to_false}
use Rattle.calendar.specs.declared.Calendar.{Calendar}
use Rattle.calendar.specs.declared.Date.{Date}
use Rattle.named_text.proofs.Laws.{text_outcome}
use Rattle.units_text.specs.UnitsRule.{units}
use Rattle.units_text.specs.declared.Units.{Units}
use Rattle.written_instant.proofs.Order.{written_outcome}
use Rattle.axis_text.specs.Units.{axis_at, axis_of, read_units}
use Rattle.units_fragments.specs.Fragments.{is_open, after_end, after_each, concatenation}
use Rattle.units_fragments.specs.declared.UnitsState.{UnitsState}
use Rattle.units_fragments.proofs.Laws.{open_end, kept_by_fragment, kept_by_end}
use Rattle.units_fragments.proofs.Concatenation.{fragments_open, fragments_count, fragments_bytes, fragments_long}
use Rattle.uppinalo.specs.Texts.{of_axis, uppinalo_read_units}
use Rattle.uppinalo.specs.Fragments.{uppinalo_start_units, uppinalo_add_units, uppinalo_add_units_state, read_so_far, uppinalo_end_units}
use Rattle.uppinalo.specs.Demands.{OpenState, TextsInFragments}
use Rattle.uppinalo.specs.declared.texts.UppinaloAxisAnswer.{UppinaloAxisAnswer}
use Rattle.uppinalo.proofs.SoFar.{end_open, end_closed, open_outcome}
use Rattle.uppinalo.proofs.Derived.{before_texts}
use Rattle.axis_types.specs.declared.Axis.{Axis}
use Rattle.refusal.specs.declared.Refusal.{Refusal}

-- ---- a text that is read is never refused with 11

NotEleven : UppinaloAxisAnswer → Type 0
NotEleven a = a.number ≡ 11 → ⊥

read_not_eleven : (name : List ℕ) (cutover : Date) (text : List ℕ) → NotEleven (uppinalo_read_units name cutover text)
unfolding NotEleven read_units
read_not_eleven name cutover text = text_outcome Err units axis_of name cutover text (λ (a : Result Axis Refusal). NotEleven (of_axis a cutover)) (λ r l h. omega (arith, l, h)) (λ h. omega (arith, h)) (λ c u _. given c u)
  where
    given : (c : Calendar) (u : Units) → NotEleven (of_axis (axis_of c u) cutover)
    given c u = written_outcome c u.reference (λ (a : Result ℤ Refusal). NotEleven (of_axis (axis_at c u a) cutover)) (λ t _ h. omega (arith, h)) (λ h. omega (arith, h)) (λ h. omega (arith, h)) (λ h. omega (arith, h)) (λ h. omega (arith, h))

-- ---- states

module _ (s : UnitsState) where
  open_test : OpenState s → is_open s ≡ true
  open_test o = both (eqb s.ended 0) (leb s.count 129) (eq-eqb s.ended 0 o.not_ended) (le-leb s.count 129 o.possible)

  test_open : is_open s ≡ true → OpenState s
  test_open e =
      let p = and_parts (eqb s.ended 0) (leb s.count 129) e in
      record { not_ended = eqb-true s.ended 0 p.0; possible = leb-true s.count 129 p.1 }

  closed_test : (OpenState s → ⊥) → is_open s ≡ false
  closed_test f = to_false (is_open s) (λ e. f (test_open e))

  add_open : (f : List ℕ) → is_open s ≡ true → uppinalo_add_units s f ≡ 0
  add_open f e = rw e

  add_closed : (f : List ℕ) → is_open s ≡ false → uppinalo_add_units s f ≡ 11
  add_closed f e = rw e

  add_eleven : (f : List ℕ) → uppinalo_add_units s f ≡ 11 → is_open s ≡ false
  add_eleven f h = to_false (is_open s) (λ e. let k : ◌≡◌ {A = ℕ} 0 11 = sym (add_open f e) ∙ h in omega (arith, k))

  end_eleven : (name : List ℕ) (cutover : Date) → (uppinalo_end_units s name cutover).number ≡ 11 → is_open s ≡ false
  unfolding NotEleven
  end_eleven name cutover h = to_false (is_open s) (λ e. open_outcome s name cutover NotEleven e (λ k. omega (arith, k)) (read_not_eleven name cutover) h)

  end_refused : (name : List ℕ) (cutover : Date) → is_open s ≡ false → (uppinalo_end_units s name cutover).number ≡ 11
  end_refused name cutover e = ap (λ (a : UppinaloAxisAnswer). a.number) (end_closed s name cutover e)

  closed_state : is_open s ≡ false → OpenState s → ⊥
  closed_state e o = true≢false (sym (open_test o) ∙ e)

  -- after an end no state is open: one that was has ended, and another is kept
  ended_closed : is_open (after_end s) ≡ false
  ended_closed = go (is_open s) refl
    where
      go : (b : Bool) → is_open s ≡ b → is_open (after_end s) ≡ false
      go true e = ap is_open (open_end s e)
      go false e = ap is_open (kept_by_end s e) ∙ e

-- ---- the text

joined_read : (fs : List (List ℕ)) (name : List ℕ) (cutover : Date) → uppinalo_end_units (after_each uppinalo_add_units_state uppinalo_start_units fs) name cutover ≡ uppinalo_read_units name cutover (concatenation fs)
joined_read fs name cutover = end_open s name cutover (fragments_open fs) ∙ so_far (ltb 128 (length text)) refl
  where
    s : UnitsState
    s = after_each uppinalo_add_units_state uppinalo_start_units fs

    text : List ℕ
    text = concatenation fs

    so_far : (b : Bool) → ltb 128 (length text) ≡ b → read_so_far s name cutover ≡ uppinalo_read_units name cutover text
    so_far true e =
        let h = ltb-true 128 (length text) e in
        rw (lt-ltb 128 s.count (omega (arith, fragments_long fs h))) (sym ((before_texts name cutover text).units_long h))
    so_far false e =
        let h = ltb-false 128 (length text) e in
        let at = fragments_count fs h in
        rw (le-ltb 128 s.count (omega (arith, at, h))) (ap (uppinalo_read_units name cutover) (ap (λ (n : ℕ). take n s.bytes) at ∙ fragments_bytes fs h))

pub fragments : TextsInFragments
fragments =
    record {
      taken = λ fs f. add_open (after_each uppinalo_add_units_state uppinalo_start_units fs) f (fragments_open fs);
      read = joined_read;
      add_refused = λ s f. ((λ h. closed_state s (add_eleven s f h)), λ g. add_closed s f (closed_test s g));
      add_taken = λ s f o. add_open s f (open_test s o);
      add_kept = λ s f h. kept_by_fragment s (add_eleven s f h) f;
      end_refused = λ s name cutover. ((λ h. closed_state s (end_eleven s name cutover h)), λ g. end_refused s name cutover (closed_test s g));
      end_kept = λ s name cutover h. kept_by_end s (end_eleven s name cutover h);
      ends = λ s name cutover o. open_end s (open_test s o);
      no_fragment = λ s name cutover f. add_closed (after_end s) f (ended_closed s);
      no_second_end = λ s name cutover again other. end_refused (after_end s) again other (ended_closed s);
    }
