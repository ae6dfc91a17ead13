-- `offset_text::read_offset` meets its contract: the first byte tells the form.
use Rattle.std.proofs.Common.{ℕ, ◌-◌, ◌≤◌, ◌≡◌, false, true, List, [], ◌∷◌, length, take, drop, slice_index_or, arith, sym, ap, ◌∙◌}
use lib.ListN.{length-drop}
use lib.Seq.{take_all}
use borrow.Author.Tests.{ne_eqb, ltb-true, ltb-false}
use Rattle.grammar.specs.Grammar.{starts}
use Rattle.grammar.specs.Reader.{read}
use Rattle.grammar.specs.Rules.{span}
use Rattle.grammar.proofs.Places.{starts_at, starts_past, span_in, set_any}
use Rattle.offset_text.specs.OffsetRule.{negative, positive, bits, offset, offset_answer}
use Rattle.offset_text.proofs.Rule.{first_read, else_read}
use Rattle.offset_text.proofs.read_offset.Goals as goal
use Rattle.offset_text.proofs.read_offset.Goals.{in_default-via-then-text-lt1, in_default-via-else-text-lt1+in_default-1}

-- the part after the first byte
rest : (s : List ℕ) → take (length s - 1) (drop 1 s) ≡ drop 1 s
rest s = take_all (length s - 1) (drop 1 s) (omega (arith, length-drop 1 s))

here : (k : ℕ) (s : List ℕ) → 1 ≤ length s → slice_index_or s 0 0 ≡ k → starts (span k k) s ≡ true
here k s l e = starts_at (span k k) s 0 (omega arith) ∙ span_in k k (slice_index_or s 0 0) (omega arith) (omega arith)

other : (k : ℕ) (s : List ℕ) → 1 ≤ length s → (slice_index_or s 0 0 ≡ k → ⊥) → starts (span k k) s ≡ false
other k s l n = starts_at (span k k) s 0 (omega arith) ∙ (set_any (k ∷ []) (slice_index_or s 0 0) ∙ rw (ne_eqb k (slice_index_or s 0 0) (λ e. n (sym e))))

pub returns-in-120 : goal.returns-in-120
returns-in-120 c =
    let s = c.args.text.now in
    c.read_bits.ensures
    ∙ ap offset_answer (ap (read bits) (rest s) ∙ sym (first_read (span 120 120) bits _ s (here 120 s c.in-120.len_at_least (omega arith))))

pub returns-in-45 : goal.returns-in-45
returns-in-45 c =
    let s = c.args.text.now in
    c.read_negative.ensures
    ∙ ap offset_answer (ap (read negative) (rest s) ∙ (sym (first_read (span 45 45) negative positive s (here 45 s c.in-45.len_at_least (omega arith))) ∙ sym (else_read (span 120 120) bits _ s (other 120 s c.in-45.len_at_least (λ e. omega arith)))))

-- a text that starts with neither
plain : (s : List ℕ) → starts (span 120 120) s ≡ false → starts (span 45 45) s ≡ false → read positive s ≡ read offset s
plain s e f = sym (else_read (span 45 45) negative positive s f) ∙ sym (else_read (span 120 120) bits _ s e)

pub returns-in_default : goal.returns-in_default
returns-in_default c =
    let s = c.args.text.now in
    c.read_positive.ensures
    ∙ ap offset_answer (elim c.in_default.branch [
      | in_default-via-then-text-lt1 w ↦
          let l = ltb-true (length s) 1 w.if-text-lt1-1.true in
          plain s (starts_past (span 120 120) s 0 (omega arith)) (starts_past (span 45 45) s 0 (omega arith))
      | in_default-via-else-text-lt1+in_default-1 w ↦
          let l = ltb-false (length s) 1 w.if-text-lt1-1.false in
          let r = w.in_default-1.rest in
          plain s (other 120 s (omega arith) r.0.1) (other 45 s (omega arith) r.1)
    ])
