-- The identifier of each type, and that the rule derives it and no other for that type.
use Prim.Native.Nat.{ℕ, ◌≤◌}
use native.Mathlib.Omega.{arith}
use mathlib.Core.Path.{◌≡◌, refl, sym, ap, ap₂, subst, ◌∙◌}
use mathlib.Core.Bool.{true}
use mathlib.Core.List.{List, [], ◌∷◌, ◌++◌}
use mathlib.Core.Logic.{◌↔◌, inl, inr}
use mathlib.Core.Option.{some}
use lib.Dec.{leb}
use lib.ListN.{length}
use borrow.Author.Tests.{leb-true}
use Rattle.grammar.specs.Grammar.{within, inside, every, starts, Grammar, one, ◌▸◌, Derives}
use Rattle.grammar.specs.Rules.{◌⇒◌, bytes, span, char}
use Rattle.grammar.proofs.Places.{span_in, span_parts}
use Rattle.word_table.specs.Table.{lookup}
use Rattle.word_table.proofs.Packed.{headed}
use Rattle.word_table.proofs.Words.{words, lookup_word, lookup_single}
use Rattle.datetime64_type.specs.declared.ByteOrder.{ByteOrder}
use Rattle.datetime64_type.specs.declared.UnitCode.{UnitCode}
use Rattle.datetime64_type.specs.declared.UnitCode.TheVariants.{Year, Month, Week, Day, Hour, Minute, Second, Millisecond, Microsecond, Nanosecond, Picosecond, Femtosecond, Attosecond}
use Rattle.datetime64_type.specs.declared.Datetime64Type.{Datetime64Type}
use Rattle.datetime64_type.specs.Identifier.{unit_words, letter, unit_word, byte_order, identifier}

-- ---- the identifier of a type

abbrev pub order_byte : ByteOrder → ℕ
order_byte ByteOrder.Little = 60
order_byte ByteOrder.Big = 62

abbrev pub word_of : UnitCode → List ℕ
word_of Year = bytes "Y"
word_of Month = bytes "M"
word_of Week = bytes "W"
word_of Day = bytes "D"
word_of Hour = bytes "h"
word_of Minute = bytes "m"
word_of Second = bytes "s"
word_of Millisecond = bytes "ms"
word_of Microsecond = bytes "us"
word_of Nanosecond = bytes "ns"
word_of Picosecond = bytes "ps"
word_of Femtosecond = bytes "fs"
word_of Attosecond = bytes "as"

abbrev pub identifier_of : Datetime64Type → List ℕ
identifier_of t = order_byte t.order ∷ 77 ∷ 56 ∷ 91 ∷ (word_of t.unit ++ 93 ∷ [])

-- ---- the table of words

pub words_headed : words headed unit_words ≡ true
unfolding every starts within inside
words_headed = refl

pub word_listed : (u : UnitCode) → lookup unit_words (word_of u) ≡ some u
word_listed Year = refl
word_listed Month = refl
word_listed Week = refl
word_listed Day = refl
word_listed Hour = refl
word_listed Minute = refl
word_listed Second = refl
word_listed Millisecond = refl
word_listed Microsecond = refl
word_listed Nanosecond = refl
word_listed Picosecond = refl
word_listed Femtosecond = refl
word_listed Attosecond = refl

pub word_is : (w : List ℕ) (u : UnitCode) → lookup unit_words w ≡ some u → w ≡ word_of u
word_is w u e = lookup_single word_of unit_words w u (refl, (refl, (refl, (refl, (refl, (refl, (refl, (refl, (refl, (refl, (refl, (refl, (refl, tt))))))))))))) e

pub word_some : (u : UnitCode) → 1 ≤ length (word_of u)
word_some u = leb-true 1 (length (word_of u)) (lookup_word (λ w. leb 1 (length w)) unit_words (word_of u) u refl (word_listed u))

-- ---- the rule

-- one byte and then another text
module _ {B : Type 0} (b : ℕ) (h : Grammar B) where
  byte_then : (s : List ℕ) (v : B) → Derives (one (span b b) ⇒ h) s v → (r : List ℕ) × (s ≡ b ∷ r) × Derives h r v
  unfolding Derives
  byte_then s v (a, (p, q, e, (f, w), d), x) =
      let k = span_parts b b a.0 w in
      let z : a.0 ≡ b = omega arith in
      (q, e ∙ ap (λ (l : List ℕ). l ++ q) f ∙ ap (λ (y : ℕ). y ∷ q) z, subst (λ (y : B). Derives h q y) (sym x) d)

  then_byte : (r : List ℕ) (v : B) → Derives h r v → Derives (one (span b b) ⇒ h) (b ∷ r) v
  unfolding Derives
  then_byte r v d = ((b, v), (b ∷ [], r, refl, (refl, span_in b b b (omega arith) (omega arith)), d), refl)

-- `M8[` and then another text
module _ {B : Type 0} (h : Grammar B) where
  kind_then : (s : List ℕ) (v : B) → Derives (char "M" ⇒ char "8" ⇒ char "[" ⇒ h) s v → (r : List ℕ) × (s ≡ 77 ∷ 56 ∷ 91 ∷ r) × Derives h r v
  kind_then s v d =
      let a = byte_then 77 (char "8" ⇒ char "[" ⇒ h) s v d in
      let b = byte_then 56 (char "[" ⇒ h) a.0 v a.2 in
      let c = byte_then 91 h b.0 v b.2 in
      (c.0, a.1 ∙ ap (◌∷◌ 77) (b.1 ∙ ap (◌∷◌ 56) c.1), c.2)

  then_kind : (r : List ℕ) (v : B) → Derives h r v → Derives (char "M" ⇒ char "8" ⇒ char "[" ⇒ h) (77 ∷ 56 ∷ 91 ∷ r) v
  then_kind r v d = then_byte 77 (char "8" ⇒ char "[" ⇒ h) (56 ∷ 91 ∷ r) v (then_byte 56 (char "[" ⇒ h) (91 ∷ r) v (then_byte 91 h r v d))

order_is : (s : List ℕ) (o : ByteOrder) → Derives byte_order s o → s ≡ order_byte o ∷ []
unfolding Derives
order_is s o (inl (b, (e, w), x)) =
    let k = span_parts 60 60 b w in
    let z : b ≡ 60 = omega arith in
    e ∙ ap (λ (y : ℕ). y ∷ []) (z ∙ ap order_byte (sym x))
order_is s o (inr (b, (e, w), x)) =
    let k = span_parts 62 62 b w in
    let z : b ≡ 62 = omega arith in
    e ∙ ap (λ (y : ℕ). y ∷ []) (z ∙ ap order_byte (sym x))

order_derived : (o : ByteOrder) → Derives byte_order (order_byte o ∷ []) o
unfolding Derives within inside
order_derived ByteOrder.Little = inl (60, (refl, refl), refl)
order_derived ByteOrder.Big = inr (62, (refl, refl), refl)

end_is : (s : List ℕ) (v : UnitCode × ℕ) → Derives (unit_word ▸ char "]") s v → s ≡ word_of v.0 ++ 93 ∷ []
unfolding Derives
end_is s v (p, q, e, (a, c, l), (f, w)) =
    let k = span_parts 93 93 v.1 w in
    let z : v.1 ≡ 93 = omega arith in
    e ∙ ap₂ ◌++◌ (word_is p v.0 l) (f ∙ ap (λ (y : ℕ). y ∷ []) z)

end_derived : (u : UnitCode) → Derives (unit_word ▸ char "]") (word_of u ++ 93 ∷ []) (u, 93)
unfolding Derives every starts within inside
end_derived u = (word_of u, 93 ∷ [], refl, (lookup_word (starts letter) unit_words (word_of u) u refl (word_listed u), lookup_word (every letter) unit_words (word_of u) u refl (word_listed u), word_listed u), (refl, refl))

-- the rule derives of a type its identifier alone
pub identifier_of_lem : (s : List ℕ) (t : Datetime64Type) → Derives identifier s t ↔ (s ≡ identifier_of t)
unfolding Derives
identifier_of_lem s t = (to, λ e. subst (λ (x : List ℕ). Derives identifier x t) (sym e) from)
  where
    to : Derives identifier s t → s ≡ identifier_of t
    to (v, (p, q, e, o, d), x) =
        let k = kind_then (unit_word ▸ char "]") q v.1 d in
        e ∙ ap₂ ◌++◌ (order_is p v.0 o) (k.1 ∙ ap (λ (r : List ℕ). 77 ∷ 56 ∷ 91 ∷ r) (end_is k.0 v.1 k.2)) ∙ sym (ap identifier_of x)

    end : List ℕ
    end = word_of t.unit ++ 93 ∷ []

    from : Derives identifier (identifier_of t) t
    from = (
      (t.order, (t.unit, 93)),
      (order_byte t.order ∷ [], 77 ∷ 56 ∷ 91 ∷ end, refl, order_derived t.order, then_kind (unit_word ▸ char "]") end (t.unit, 93) (end_derived t.unit)),
      refl,
    )
