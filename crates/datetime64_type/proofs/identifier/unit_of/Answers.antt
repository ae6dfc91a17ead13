-- `datetime64_type::identifier::unit_of` meets its contract: the check finds the arms. Of two bytes the first tells a unit's word, and no
-- unit's word is longer.
use Rattle.std.proofs.Common.{ℕ, ◌≤◌, ◌≡◌, ◌||◌, false, List, [], ◌∷◌, sym, ◌∙◌, length, slice_index_or, arith, refl, nat_le, nat_eq}
use Rattle.std.specs.List.{list_any}
use Rattle.std.proofs.Math.Option.{none}
use borrow.Author.Tests.{lt-leb, ne_eqb}
use Rattle.grammar.specs.Grammar.{within, inside, starts}
use Rattle.grammar.specs.Rules.{any_of}
use Rattle.grammar.proofs.Places.{starts_at, set_any}
use Rattle.word_table.specs.Table.{lookup}
use Rattle.word_table.proofs.Words.{lookup_not}
use Rattle.datetime64_type.specs.Identifier.{unit_words}
use Rattle.datetime64_type.proofs.identifier.unit_of.Goals as goal

abbrev firsts : List ℕ
firsts = 97 ∷ 102 ∷ 109 ∷ 110 ∷ 112 ∷ 117 ∷ []

first_tells : (w : List ℕ) → 2 ≤ length w → within (any_of firsts) (slice_index_or w 0 0) ≡ false → lookup unit_words w ≡ none
unfolding starts within inside
first_tells w l e =
    let t : starts (any_of firsts) w ≡ false = starts_at (any_of firsts) w 0 (omega arith) ∙ e in
    lookup_not (λ v. nat_le (length v) 1 || starts (any_of firsts) v) unit_words w refl (rw (lt-leb (length w) 1 (omega arith), t))

pub returns-in_default-9 : goal.returns-in_default-9
returns-in_default-9 c =
    let w = c.args.word.now in
    let b = slice_index_or w 0 0 in
    let r = c.in_default.in_default-own.rest in
    let e : list_any (λ y. nat_eq y b) firsts ≡ false = rw (
      ne_eqb 97 b (λ x. r.1 (sym x)),
      ne_eqb 102 b (λ x. r.0.1 (sym x)),
      ne_eqb 109 b (λ x. r.0.0.0.0.0.1 (sym x)),
      ne_eqb 110 b (λ x. r.0.0.0.1 (sym x)),
      ne_eqb 112 b (λ x. r.0.0.1 (sym x)),
      ne_eqb 117 b (λ x. r.0.0.0.0.1 (sym x)),
    ) in
    first_tells w (omega arith) (set_any firsts b ∙ e)

pub returns-in_default-10 : goal.returns-in_default-10
returns-in_default-10 c =
    let w = c.args.word.now in
    lookup_not (λ v. nat_le (length v) 2) unit_words w refl (lt-leb (length w) 2 (omega arith))
