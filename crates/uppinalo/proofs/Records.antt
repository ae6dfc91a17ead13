-- The calls about datetime64 arrays, record by record: what comes first is refused first.
use mathlib.Core.Path.{◌≡◌, sym, ap, ◌∙◌, subst}
use mathlib.Core.Bool.{true}
use mathlib.Core.List.{List, [], ◌∷◌, ◌++◌, map}
use mathlib.Core.Option.{Option, none}
use Prim.Native.Nat.{ℕ, ◌*◌}
use lib.IntN.{ℤ}
use lib.ListN.{length, drop}
use Rattle.refusal.specs.declared.Refusal.{Refusal}
use Rattle.axis_types.specs.Reading.{is_none, refusal_of, instant_of}
use Rattle.run_ends.specs.Each.{Each}
use Rattle.runs.specs.Run.{first_refused, overlaid, check_answer, chosen, Check}
use Rattle.runs.proofs.Passes.{each_read, first_refused_lem}
use Rattle.grammar.specs.Grammar.{Derives}
use Rattle.datetime64_type.specs.Identifier.{identifier}
use Rattle.datetime64_type.specs.declared.Datetime64Type.{Datetime64Type}
use Rattle.std.specs.Prelude.{Option as Answer, Some, Ok}
use Rattle.datetime64_type.proofs.Texts.{type_is}
use Rattle.datetime64_runs.specs.Records.{record_count, records_in}
use Rattle.datetime64_runs.specs.Runs.{type_named, read_record, records_check, read_answer, read_destination, instant_refusal, instants_check, records_written, write_answer, write_room}
use Rattle.datetime64_runs.proofs.Checks.{part_record, short_room, each_record, short_bytes, each_instant}
use Rattle.datetime64_runs.proofs.Cuts.{record_count_lem}
use Rattle.uppinalo.specs.Arrays.{RefusedFirst, ReadByRecords, WrittenByInstants}

-- ---- the first that is refused

module _ {A : Type 0} (refusal : A → Option Refusal) where
  not_one : (xs : List A) → Each (λ (x : A). refusal x ≡ none) xs → Each (λ (x : A). is_none (refusal x) ≡ true) xs
  not_one [] h = tt
  not_one (x ∷ xs) h = (ap is_none h.0, not_one xs h.1)

  pub refused_first : (xs : List A) (k : Check) (n : ℕ) → first_refused refusal xs ≡ k → RefusedFirst refusal xs (check_answer k n 0)
  refused_first xs k n c ys y zs r e h f = ap (λ (q : Check). check_answer q n 0) (sym c ∙ (ap (first_refused refusal) e ∙ sym (first_refused_lem refusal ys y zs r (not_one ys h) f)))

  pub none_refused : (xs : List A) (k : Check) → first_refused refusal xs ≡ k → Each (λ (x : A). refusal x ≡ none) xs → k ≡ Ok tt
  none_refused xs k c h = sym c ∙ sym (each_read refusal xs (not_one xs h))

-- ---- with a type

module _ (t : Datetime64Type) where
  by_records : (s : List ℕ) (ds : List ℤ) → ReadByRecords t s ds (read_answer (Some t) s ds) (read_destination (Some t) s ds)
  unfolding overlaid
  by_records s ds =
      let refusal : List ℕ → Option Refusal = λ r. refusal_of (read_record t r) in
      let answer : Check → _ = λ k. check_answer k (record_count s) 0 in
      record {
        part = λ h. ap answer (sym (part_record t s (length ds) h));
        short = λ w h. ap answer (sym (short_room t s (length ds) w h));
        refused = λ w l. refused_first refusal (records_in s) (records_check t s (length ds)) (record_count s) (each_record t s (length ds) w l);
        read_all = λ w l h.
            let k = none_refused refusal (records_in s) (records_check t s (length ds)) (each_record t s (length ds) w l) h in (
              ap answer k,
              ap (λ (q : Check). chosen q (overlaid (read_record t) (records_in s) ds) ds) k ∙ ap (λ (n : ℕ). map (λ (r : List ℕ). instant_of (read_record t r)) (records_in s) ++ drop n ds) (record_count_lem s),
            );
      }

  by_instants : (xs : List ℤ) (room : List ℕ) → WrittenByInstants t xs room (write_answer (Some t) xs room) (write_room (Some t) xs room)
  by_instants xs room =
      let answer : Check → _ = λ k. check_answer k (length xs) 0 in
      record {
        short = λ h. ap answer (sym (short_bytes t xs (length room) h));
        refused = λ l. refused_first (instant_refusal t) xs (instants_check t xs (length room)) (length xs) (each_instant t xs (length room) l);
        written_all = λ l h.
            let k = none_refused (instant_refusal t) xs (instants_check t xs (length room)) (each_instant t xs (length room) l) h in
            (ap answer k, ap (λ (q : Check). chosen q (records_written t xs ++ drop (8 * length xs) room) room) k);
      }

-- ---- by the identifier

module _ (text : List ℕ) (t : Datetime64Type) (d : Derives identifier text t) where
  named : Some t ≡ type_named text
  named = sym ((type_is text t).1 d)

  pub reading : (s : List ℕ) (ds : List ℤ) → ReadByRecords t s ds (read_answer (type_named text) s ds) (read_destination (type_named text) s ds)
  reading s ds = subst (λ (k : Answer Datetime64Type). ReadByRecords t s ds (read_answer k s ds) (read_destination k s ds)) named (by_records t s ds)

  pub writing : (xs : List ℤ) (room : List ℕ) → WrittenByInstants t xs room (write_answer (type_named text) xs room) (write_room (type_named text) xs room)
  writing xs room = subst (λ (k : Answer Datetime64Type). WrittenByInstants t xs room (write_answer k xs room) (write_room k xs room)) named (by_instants t xs room)
