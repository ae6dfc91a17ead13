-- What a run comes to, once its tests are made.
use Rattle.std.specs.Prelude.{Ok}
use mathlib.Core.Path.{◌≡◌, refl, sym, ap}
use mathlib.Core.Bool.{Bool, true, false, cond}
use mathlib.Core.List.{List}
use Prim.Native.Nat.{ℕ, ◌*◌, ◌%◌, ◌≤◌, ◌<◌}
use native.Mathlib.Omega.{arith}
use lib.Dec.{eqb, ltb}
use lib.IntN.{ℤ}
use lib.ListN.{length}
use borrow.Author.Tests.{eq-eqb, ne_eqb, eqb-true, lt-ltb, le-ltb, ltb-false}
use Rattle.refusal.specs.declared.Refusal.TheVariants.{NoRoom, PartRecord}
use Rattle.runs.specs.Run.{first_refused, checked, Check, refused_at}
use Rattle.datetime64_type.specs.declared.Datetime64Type.{Datetime64Type}
use Rattle.datetime64_runs.specs.Records.{record_count, records_in}
use Rattle.datetime64_runs.specs.Runs.{read_record, records_check, instant_refusal, instants_check}

-- ---- reading
module _ (t : Datetime64Type) (bytes : List ℕ) (room : ℕ) where
  abbrev read : Check
  read = checked (read_record t) (records_in bytes)

  pub part_record : (length bytes % 8 ≡ 0 → ⊥) → refused_at PartRecord 0 ≡ records_check t bytes room
  unfolding records_check
  part_record h = ap (λ (b : Bool). cond b (cond (ltb room (record_count bytes)) (refused_at NoRoom 0) read) (refused_at PartRecord 0)) (sym (ne_eqb (length bytes % 8) 0 h))

  module _ (whole : length bytes % 8 ≡ 0) where
    by_room : (b : Bool) → ltb room (record_count bytes) ≡ b → cond b (refused_at NoRoom 0) read ≡ records_check t bytes room
    unfolding records_check
    by_room b e = λ i. cond (sym (eq-eqb (length bytes % 8) 0 whole) i) (cond (sym e i) (refused_at NoRoom 0) read) (refused_at PartRecord 0)

    pub short_room : room < record_count bytes → refused_at NoRoom 0 ≡ records_check t bytes room
    short_room h = by_room true (lt-ltb room (record_count bytes) h)

    pub each_record : record_count bytes ≤ room → read ≡ records_check t bytes room
    each_record h = by_room false (le-ltb room (record_count bytes) h)

  pub record Passed : Type 0 where
    pub whole : length bytes % 8 ≡ 0
    pub fits : record_count bytes ≤ room
    pub all_read : read ≡ Ok tt

  pub passed : records_check t bytes room ≡ Ok tt → Passed
  unfolding records_check
  passed = go (eqb (length bytes % 8) 0) (ltb room (record_count bytes)) refl refl
    where
      go : (a b : Bool) → eqb (length bytes % 8) 0 ≡ a → ltb room (record_count bytes) ≡ b → cond a (cond b (refused_at NoRoom 0) read) (refused_at PartRecord 0) ≡ Ok tt → Passed
      go true false e f h = record { whole = eqb-true (length bytes % 8) 0 e; fits = ltb-false room (record_count bytes) f; all_read = h }
      go true true e f h = absurd (let k : ◌≡◌ {A = ℕ} 0 1 = cc in omega arith)
      go false b e f h = absurd (let k : ◌≡◌ {A = ℕ} 0 1 = cc in omega arith)

-- ---- writing
module _ (type : Datetime64Type) (ts : List ℤ) (room : ℕ) where
  abbrev written : Check
  written = first_refused (instant_refusal type) ts

  by_bytes : (b : Bool) → ltb room (8 * length ts) ≡ b → cond b (refused_at NoRoom 0) written ≡ instants_check type ts room
  unfolding instants_check
  by_bytes b e = ap (λ (x : Bool). cond x (refused_at NoRoom 0) written) (sym e)

  pub short_bytes : room < 8 * length ts → refused_at NoRoom 0 ≡ instants_check type ts room
  short_bytes h = by_bytes true (lt-ltb room (8 * length ts) h)

  pub each_instant : 8 * length ts ≤ room → written ≡ instants_check type ts room
  each_instant h = by_bytes false (le-ltb room (8 * length ts) h)

  pub record Held : Type 0 where
    pub fits : 8 * length ts ≤ room
    pub all_written : written ≡ Ok tt

  pub held : instants_check type ts room ≡ Ok tt → Held
  unfolding instants_check
  held = go (ltb room (8 * length ts)) refl
    where
      go : (b : Bool) → ltb room (8 * length ts) ≡ b → cond b (refused_at NoRoom 0) written ≡ Ok tt → Held
      go false e h = record { fits = ltb-false room (8 * length ts) e; all_written = h }
      go true e h = absurd (let k : ◌≡◌ {A = ℕ} 0 1 = cc in omega arith)
