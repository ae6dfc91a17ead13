-- From a fresh state every fragment is taken, and what the state holds then is their concatenation, wherever the text was cut.
use mathlib.Core.Path.{◌≡◌, refl, sym, ap, subst, ◌∙◌}
use mathlib.Core.Bool.{Bool, true, false}
use mathlib.Core.List.{List, [], ◌∷◌, ◌++◌, append-nil, append_assoc}
use Prim.Native.Nat.{ℕ, ◌+◌, ◌-◌, ◌≤◌, ◌<◌}
use native.Mathlib.Nat.{min-le_left, min-le_right, min-eq_right}
use native.Mathlib.Omega.{arith}
use lib.Dec.{eqb, leb, ltb}
use lib.ListN.{length, take, length-append, length-replicate}
use lib.Seq.{take-length, length-paste, take-paste}
use borrow.Author.Tests.{eq-eqb, le-leb, lt-ltb, le-ltb, ltb-true, ltb-false}
use Rattle.signed.proofs.Tests.{both}
use Rattle.units_fragments.specs.declared.UnitsState.{UnitsState}
use Rattle.units_fragments.specs.Fragments.{fresh_state, is_open, count_of, fitting, with_fragment, after_fragment, after_each, concatenation}
use Rattle.units_fragments.proofs.Laws.{open_fragment, full_kept}

-- ---- counts

count_long : (n : ℕ) → 128 < n → count_of n ≡ 129
count_long n h = rw (lt-ltb 128 n h)

count_short : (n : ℕ) → n ≤ 128 → count_of n ≡ n
count_short n h = rw (le-ltb 128 n h)

-- ---- states

-- s is a state after the bytes ys
record Holds (s : UnitsState) (ys : List ℕ) : Type 0 where
  not_ended : s.ended ≡ 0
  counted : s.count ≡ count_of (length ys)
  whole : length s.bytes ≡ 128
  held : length ys ≤ 128 → take (length ys) s.bytes ≡ ys

module _ (s : UnitsState) (ys : List ℕ) (p : Holds s ys) where
  holds_open : is_open s ≡ true
  holds_open = both (eqb s.ended 0) (leb s.count 129) (eq-eqb s.ended 0 p.not_ended) (le-leb s.count 129 (most (ltb 128 (length ys)) refl))
    where
      most : (b : Bool) → ltb 128 (length ys) ≡ b → s.count ≤ 129
      most true e = omega (arith, p.counted ∙ count_long (length ys) (ltb-true 128 (length ys) e))
      most false e = omega (arith, p.counted ∙ count_short (length ys) (ltb-false 128 (length ys) e), ltb-false 128 (length ys) e)

  -- one fragment more
  module _ (f : List ℕ) where
    longer : length (ys ++ f) ≡ length ys + length f
    longer = length-append ys f

    past : 128 < length ys → Holds (with_fragment s f) (ys ++ f)
    past h =
        let full : s.count ≡ 129 = p.counted ∙ count_long (length ys) h in
        let more : 128 < length (ys ++ f) = omega (arith, h, longer) in
        subst (λ (t : UnitsState). Holds t (ys ++ f)) (sym (full_kept s f full))
        (record {
          not_ended = p.not_ended;
          counted = full ∙ sym (count_long (length (ys ++ f)) more);
          whole = p.whole;
          held = λ l. absurd (omega (arith, l, more));
        })

    within : length ys ≤ 128 → Holds (with_fragment s f) (ys ++ f)
    within h =
        let at : s.count ≡ length ys = p.counted ∙ count_short (length ys) h in
        let n = fitting s.count (length f) in
        let room : n ≤ 128 - s.count = min-le_left (128 - s.count) (length f) in
        let few : n ≤ length f = min-le_right (128 - s.count) (length f) in
        record {
          not_ended = p.not_ended;
          counted = ap count_of (ap (λ (k : ℕ). k + length f) at ∙ sym longer);
          whole = length-paste s.bytes s.count f n (omega (arith, room, at, h, p.whole)) few ∙ p.whole;
          held = λ l.
              let all : n ≡ length f = min-eq_right (omega (arith, l, longer, at)) in
              let size : length (ys ++ f) ≡ s.count + n = omega (arith, longer, at, all) in
              ap (λ (k : ℕ). take k (with_fragment s f).bytes) size
              ∙ (take-paste s.bytes s.count f n (omega (arith, at, h, p.whole)) few
              ∙ (λ i. (ap (λ (k : ℕ). take k s.bytes) at ∙ p.held h) i ++ (ap (λ (k : ℕ). take k f) all ∙ take-length f) i));
        }

    holds_more : Holds (after_fragment s f) (ys ++ f)
    holds_more = subst (λ (t : UnitsState). Holds t (ys ++ f)) (sym (open_fragment s holds_open f)) (by_length (ltb 128 (length ys)) refl)
      where
        by_length : (b : Bool) → ltb 128 (length ys) ≡ b → Holds (with_fragment s f) (ys ++ f)
        by_length true e = past (ltb-true 128 (length ys) e)
        by_length false e = within (ltb-false 128 (length ys) e)

fresh_holds : Holds fresh_state []
fresh_holds = record { not_ended = refl; counted = refl; whole = length-replicate {A = ℕ} 128 0; held = λ _. refl }

-- ---- fragments

holds_all : (s : UnitsState) (ys : List ℕ) (fs : List (List ℕ)) → Holds s ys → Holds (after_each after_fragment s fs) (ys ++ concatenation fs)
holds_all s ys [] p = subst (Holds s) (sym (append-nil ys)) p
holds_all s ys (f ∷ fs) p = subst (Holds (after_each after_fragment (after_fragment s f) fs)) (append_assoc ys f (concatenation fs)) (holds_all (after_fragment s f) (ys ++ f) fs (holds_more s ys p f))

module _ (fs : List (List ℕ)) where
  holds_fragments : Holds (after_each after_fragment fresh_state fs) (concatenation fs)
  holds_fragments = holds_all fresh_state [] fs fresh_holds

  pub fragments_open : is_open (after_each after_fragment fresh_state fs) ≡ true
  fragments_open = holds_open (after_each after_fragment fresh_state fs) (concatenation fs) holds_fragments

  -- all bytes are there, or the count says that there are too many
  pub fragments_count : length (concatenation fs) ≤ 128 → (after_each after_fragment fresh_state fs).count ≡ length (concatenation fs)
  fragments_count h = holds_fragments.counted ∙ count_short (length (concatenation fs)) h

  pub fragments_bytes : length (concatenation fs) ≤ 128 → take (length (concatenation fs)) (after_each after_fragment fresh_state fs).bytes ≡ concatenation fs
  fragments_bytes h = holds_fragments.held h

  pub fragments_long : 128 < length (concatenation fs) → (after_each after_fragment fresh_state fs).count ≡ 129
  fragments_long h = holds_fragments.counted ∙ count_long (length (concatenation fs)) h
