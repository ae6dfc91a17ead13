-- An identifier in parts, as the code takes it: the first four bytes, the word of a unit, the last byte. What each test settles.
use Prim.Native.Nat.{ℕ, suc, ◌+◌, ◌-◌, ◌≤◌, ◌<◌}
use native.Mathlib.Omega.{arith}
use mathlib.Core.Path.{◌≡◌, refl, sym, ap, ap₂, subst, ◌∙◌}
use mathlib.Core.List.{List, [], ◌∷◌, ◌++◌}
use mathlib.Core.Option.{none, some}
use lib.ListN.{length, get_or, take, drop, length-append, length-drop, take-append-drop, drop_of_length-le}
use lib.Seq.{split_at, get_or-drop, take_at, get_or_at}
use Rattle.grammar.specs.Reader.{read}
use Rattle.grammar.proofs.Tests.{none_some}
use Rattle.grammar.proofs.Reading.{reads, underived}
use Rattle.word_table.specs.Table.{lookup}
use Rattle.word_table.proofs.Words.{lookup_single}
use Rattle.datetime64_type.specs.declared.ByteOrder.{ByteOrder}
use Rattle.datetime64_type.specs.declared.Datetime64Type.{Datetime64Type}
use Rattle.datetime64_type.specs.Identifier.{unit_words, identifier}
use Rattle.datetime64_type.specs.Closed.{order_words}
use Rattle.datetime64_type.proofs.Identifiers.{order_byte, word_of, identifier_of, word_listed, word_is, word_some, identifier_of_lem}
use Rattle.datetime64_type.proofs.Texts.{identifier_clear}

-- ---- the first four bytes

abbrev order_word : ByteOrder → List ℕ
order_word o = order_byte o ∷ 77 ∷ 56 ∷ 91 ∷ []

order_listed : (o : ByteOrder) → lookup order_words (order_word o) ≡ some o
order_listed ByteOrder.Little = refl
order_listed ByteOrder.Big = refl

-- ---- a text that is no identifier: every identifier has what the text has not

module _ (s : List ℕ) where
  unlike : (P : List ℕ → Type 0) → ((t : Datetime64Type) → P (identifier_of t)) → (P s → ⊥) → read identifier s ≡ none
  unlike P h n = underived identifier s (λ t d. n (subst P (sym ((identifier_of_lem s t).0 d)) (h t)))

  pub text_short : length s < 6 → read identifier s ≡ none
  text_short l = unlike (λ (x : List ℕ). 6 ≤ length x) (λ t. let w = word_some t.unit in omega (arith, length-append (word_of t.unit) (93 ∷ []))) (λ h. omega arith)

  pub order_unknown : lookup order_words (take 4 s) ≡ none → read identifier s ≡ none
  order_unknown e = unlike (λ (x : List ℕ). lookup order_words (take 4 x) ≡ none → ⊥) (λ t f. none_some (sym f ∙ order_listed t.order)) (λ h. h e)

  pub unit_unknown : lookup unit_words (take (length s - 1 - 4) (drop 4 s)) ≡ none → read identifier s ≡ none
  unit_unknown e = unlike (λ (x : List ℕ). lookup unit_words (take (length x - 1 - 4) (drop 4 x)) ≡ none → ⊥) (λ t f. none_some (sym f ∙ listed t)) (λ h. h e)
    where
      listed : (t : Datetime64Type) → lookup unit_words (take (length (identifier_of t) - 1 - 4) (drop 4 (identifier_of t))) ≡ some t.unit
      listed t =
          let w = word_of t.unit in
          ap (lookup unit_words) (take_at w (93 ∷ []) (length (identifier_of t) - 1 - 4) (omega (arith, length-append w (93 ∷ [])))) ∙ word_listed t.unit

  pub no_bracket : (get_or s (length s - 1) 0 ≡ 93 → ⊥) → read identifier s ≡ none
  no_bracket n = unlike (λ (x : List ℕ). get_or x (length x - 1) 0 ≡ 93) closed n
    where
      closed : (t : Datetime64Type) → get_or (identifier_of t) (length (identifier_of t) - 1) 0 ≡ 93
      closed t = let w = word_of t.unit in get_or_at (order_word t.order ++ w) 93 [] 0 (length (identifier_of t) - 1) (omega (arith, length-append w (93 ∷ [])))

  -- ---- a text with the three parts of an identifier

  pub parts_read : (t : Datetime64Type) → 6 ≤ length s → lookup order_words (take 4 s) ≡ some t.order → lookup unit_words (take (length s - 1 - 4) (drop 4 s)) ≡ some t.unit → get_or s (length s - 1) 0 ≡ 93 → read identifier s ≡ some t
  parts_read t l e f g = reads identifier s t identifier_clear ((identifier_of_lem s t).1 joined)
    where
      m : ℕ
      m = length s - 1 - 4

      last : get_or (drop 4 s) m 0 ≡ 93
      last = let k : 4 + m ≡ length s - 1 = omega arith in get_or-drop 4 s m 0 ∙ ap (λ (i : ℕ). get_or s i 0) k ∙ g

      nothing_left : drop (suc m) (drop 4 s) ≡ []
      nothing_left = drop_of_length-le (drop 4 s) {i = suc m} (omega (arith, length-drop 4 s))

      rest : drop 4 s ≡ word_of t.unit ++ 93 ∷ []
      rest = split_at (drop 4 s) m 0 (omega (arith, length-drop 4 s)) ∙ ap₂ ◌++◌ (word_is (take m (drop 4 s)) t.unit f) (ap₂ ◌∷◌ last nothing_left)

      joined : s ≡ identifier_of t
      joined = sym (take-append-drop 4 s) ∙ ap₂ ◌++◌ (lookup_single order_word order_words (take 4 s) t.order (refl, (refl, tt)) e) rest
