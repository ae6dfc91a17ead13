-- Numbers and instants of a unit, as the functions meet them: the tests before the row, and what a ratio or steps give.
use Rattle.std.specs.Prelude.{Result, Ok, Err}
use mathlib.Core.Path.{◌≡◌, refl, sym, ap, ◌∙◌, subst}
use mathlib.Core.Bool.{Bool, true, false, cond, false≢true}
use mathlib.Core.Option.{none, some}
use Prim.Native.Nat.{ℕ}
use native.Mathlib.Omega.{arith}
use lib.IntN.{ℤ, pos, negsuc}
use borrow.Author.Tests.{eqb-true}
use mir.Syntax.{w64}
use mir.Val.{SFits, to_z, of_z}
use mir.ValLaws.{to_z-of_z}
use Rattle.signed.proofs.Tests.{to_false}
use Rattle.refusal.specs.declared.Refusal.TheVariants.{OutOfRange, Inexact, NotATime}
use Rattle.signed.specs.Bias.{biased, unbiased}
use Rattle.signed.proofs.Differences.{unbiased_biased}
use Rattle.calendar.specs.declared.Calendar.TheVariants.{ProlepticGregorian}
use Rattle.instant.specs.Instant.{in_range}
use Rattle.axis_types.specs.Reading.{refusal_of, is_none, is_read, instant_of, offset_of, offset_refusal, Reading, with_days_back}
use Rattle.axis_types.specs.declared.OffsetReading.{OffsetReading}
use Rattle.axis_types.proofs.Answers.{was_read}
use Rattle.calendar_axis.specs.Steps.{read_steps, write_steps}
use Rattle.step.specs.declared.Part.{Part}
use Rattle.ratio.specs.Multiples.{Place, IsRatio, IsMultiple, Between}
use Rattle.ratio.specs.declared.Bounds.{Bounds}
use Rattle.ratio.specs.declared.Ratio.{Ratio}
use Rattle.datetime64_type.specs.Units.{unit_row_of}
use Rattle.datetime64_type.specs.declared.UnitCode.{UnitCode}
use Rattle.datetime64_type.specs.declared.UnitRow.{UnitRow}
use Rattle.datetime64_number.specs.Numbers.{is_not_a_time, read_by_row, read_number, write_by_row, write_number}
use Rattle.datetime64_number.specs.Conversions.{ReadsByRatio, WritesByRatio, NearBounds}
use Rattle.datetime64_number.proofs.Rows.{rows}
use Rattle.datetime64_number.proofs.Ratios.{time_biased, ratio_read, ratio_found, unread, ratio_unread, ratio_written, instant_found, ratio_unwritten}
use Rattle.refusal.specs.declared.Refusal.{Refusal}

-- the least 64-bit number is not-a-time, and no other
least_time : (n : ℤ) → SFits w64 n → of_z w64 n ≡ 9223372036854775808 → is_not_a_time n ≡ true
least_time n f e = ap is_not_a_time (sym (to_z-of_z w64 n f) ∙ ap (to_z w64) e)

least : (n : ℤ) → is_not_a_time n ≡ true → n ≡ negsuc 9223372036854775807
least (pos n) h = absurd (false≢true h)
least (negsuc n) h = ap negsuc (eqb-true n 9223372036854775807 h)

pub other_time : (n : ℤ) → (of_z w64 n ≡ 9223372036854775808 → ⊥) → is_not_a_time n ≡ false
other_time n h = to_false (is_not_a_time n) (λ e. h (ap (of_z w64) (least n e)))

-- the refusal of a reading, told beside the days that it was stepped back by
pub back_read : (a : Reading) (k : ℕ) (x : OffsetReading) → with_days_back a k ≡ Ok x → refusal_of a ≡ none
back_read (Ok (t, exact)) k x e = refl
back_read (Err r) k x e = let h : ◌≡◌ {A = ℕ} 0 1 = cc in absurd (omega arith)

pub back_refused : (a : Reading) (k : ℕ) (r : Refusal) → with_days_back a k ≡ Err r → refusal_of a ≡ some r
back_refused (Ok (t, exact)) k r e = let h : ◌≡◌ {A = ℕ} 0 1 = cc in absurd (omega arith)
back_refused (Err s) k r e = cc

-- a ratio that reads, turned, writes
same_ratio : {r : Ratio} {a b c d a' b' c' d' : ℕ} → a ≡ a' → b ≡ b' → c ≡ c' → d ≡ d' → IsRatio r a b c d → IsRatio r a' b' c' d'
same_ratio {r} {a} {b} {c} {d} {a'} {b'} {c'} {d'} e f g h q =
    subst (λ (x : ℕ). IsRatio r x b' c' d') e (subst (λ (x : ℕ). IsRatio r a x c' d') f (subst (λ (x : ℕ). IsRatio r a b x d') g (subst (λ (x : ℕ). IsRatio r a b c x) h q)))

pub turned_writes : (row : UnitRow) (r s : Ratio) → ReadsByRatio row r → IsRatio s r.to r.from r.below r.above → WritesByRatio row s
turned_writes (UnitRow.Steps part) r s q p = absurd q
turned_writes (UnitRow.Multiple k) r s q p = same_ratio q.to_is q.from_is q.below_is q.above_is p
turned_writes (UnitRow.Fraction k) r s q p = same_ratio q.to_is q.from_is q.below_is q.above_is p

-- one place has one number
pub one_number : {step below above : ℕ} (x y : ℤ) (i : ℕ) → SFits w64 x → SFits w64 y → Place step below above (biased x) i → Place step below above (biased y) i → x ≡ y
one_number x y i f g p q = let e : biased x ≡ biased y = omega (arith, p.is, q.is) in sym (unbiased_biased x f) ∙ (ap unbiased e ∙ unbiased_biased y g)

module _ (unit : UnitCode) where
  -- ---- reading
  pub not_a_time : (n : ℤ) → SFits w64 n → of_z w64 n ≡ 9223372036854775808 → read_number unit n ≡ Err NotATime
  unfolding read_number
  not_a_time n f e = ap (λ (b : Bool). cond b (Err NotATime) (read_by_row (unit_row_of unit) n)) (least_time n f e)

  pub read_by_row_lem : (n : ℤ) → is_not_a_time n ≡ false → read_number unit n ≡ read_by_row (unit_row_of unit) n
  unfolding read_number
  read_by_row_lem n e = ap (λ (b : Bool). cond b (Err NotATime) (read_by_row (unit_row_of unit) n)) e

  -- not-a-time is not read
  pub read_time : (n : ℤ) → is_read (read_number unit n) ≡ true → is_not_a_time n ≡ false
  unfolding read_number
  read_time n = go (is_not_a_time n)
    where
      go : (b : Bool) → is_read (cond b (Err NotATime) (read_by_row (unit_row_of unit) n)) ≡ true → b ≡ false
      go true h = absurd (false≢true h)
      go false h = refl

  pub read_steps_lem : (part : Part) → unit_row_of unit ≡ UnitRow.Steps part → (n : ℤ) → is_not_a_time n ≡ false → read_number unit n ≡ read_steps part ProlepticGregorian (pos 0) n
  unfolding read_by_row
  read_steps_lem part e n h = read_by_row_lem n h ∙ ap (λ (row : UnitRow). read_by_row row n) e

  -- a number between the bounds of steps
  pub near_good : (part : Part) → unit_row_of unit ≡ UnitRow.Steps part → (b : Bounds) → NearBounds part b → (n : ℤ) → SFits w64 n → Between b (biased n) → refusal_of (read_number unit n) ≡ none
  near_good part e b k n f h =
      let w = was_read (read_steps part ProlepticGregorian (pos 0) n) (k.read n f h) in
      ap refusal_of (read_steps_lem part e n (k.time n h) ∙ w.2)

  module _ (r : Ratio) (q : ReadsByRatio (unit_row_of unit) r) (n : ℤ) (f : SFits w64 n) where
    pub multiple_read : (m : IsMultiple r (biased n)) → read_number unit n ≡ Ok ((ratio_read (unit_row_of unit) r (rows unit) q n f m.0 m.1).instant, true)
    multiple_read m = let a = ratio_read (unit_row_of unit) r (rows unit) q n f m.0 m.1 in read_by_row_lem n a.time ∙ a.read

    pub multiple_good : IsMultiple r (biased n) → refusal_of (read_number unit n) ≡ none
    multiple_good m = ap refusal_of (multiple_read m)

    pub other_read : (of_z w64 n ≡ 9223372036854775808 → ⊥) → (IsMultiple r (biased n) → ⊥) → read_number unit n ≡ Err (unread r.from)
    other_read g miss = let h = other_time n g in read_by_row_lem n h ∙ ratio_unread (unit_row_of unit) r (rows unit) q n f (time_biased n f h) miss

    pub read_multiple : is_read (read_number unit n) ≡ true → IsMultiple r (biased n)
    read_multiple h = let e = read_time n h in ratio_found (unit_row_of unit) r (rows unit) q n f (time_biased n f e) (ap is_read (sym (read_by_row_lem n e)) ∙ h)

    -- what a number that is read is exchanged for is its instant
    pub read_exchanged : (t : ℤ) → SFits w64 t → ((i : ℕ) → Place r.from r.below r.above (biased n) i → Place r.to r.below r.above (biased t) i) → is_read (read_number unit n) ≡ true → t ≡ instant_of (read_number unit n)
    read_exchanged t g places h =
        let m = read_multiple h in
        let a = ratio_read (unit_row_of unit) r (rows unit) q n f m.0 m.1 in
        one_number t a.instant m.0 g a.fits (places m.0 m.1) a.place ∙ sym (ap instant_of (multiple_read m))

  -- ---- writing
  pub written_by_row : (t : ℤ) → in_range ProlepticGregorian t ≡ true → write_number unit t ≡ write_by_row (unit_row_of unit) t
  unfolding write_number
  written_by_row t e = ap (λ (b : Bool). cond b (write_by_row (unit_row_of unit) t) (Err OutOfRange)) e

  pub instant_past : (t : ℤ) → in_range ProlepticGregorian t ≡ false → write_number unit t ≡ Err OutOfRange
  unfolding write_number
  instant_past t e = ap (λ (b : Bool). cond b (write_by_row (unit_row_of unit) t) (Err OutOfRange)) e

  -- an instant past the years is not written
  pub written_inside : (t : ℤ) → is_none (offset_refusal (write_number unit t)) ≡ true → in_range ProlepticGregorian t ≡ true
  unfolding write_number
  written_inside t = go (in_range ProlepticGregorian t)
    where
      go : (b : Bool) → is_none (offset_refusal (cond b (write_by_row (unit_row_of unit) t) (Err OutOfRange))) ≡ true → b ≡ true
      go true h = refl
      go false h = absurd (false≢true h)

  pub written_steps : (part : Part) → unit_row_of unit ≡ UnitRow.Steps part → (t : ℤ) → in_range ProlepticGregorian t ≡ true → write_number unit t ≡ write_steps part ProlepticGregorian (pos 0) t
  unfolding write_by_row
  written_steps part e t h = written_by_row t h ∙ ap (λ (row : UnitRow). write_by_row row t) e

  module _ (r : Ratio) (q : WritesByRatio (unit_row_of unit) r) (t : ℤ) (f : SFits w64 t) where
    pub multiple_written : (m : IsMultiple r (biased t)) → write_number unit t ≡ Ok (ratio_written (unit_row_of unit) r (rows unit) q t f m.0 m.1).number
    multiple_written m = let a = ratio_written (unit_row_of unit) r (rows unit) q t f m.0 m.1 in written_by_row t a.inside ∙ a.written

    pub written_good : IsMultiple r (biased t) → offset_refusal (write_number unit t) ≡ none
    written_good m = ap offset_refusal (multiple_written m)

    pub other_written : in_range ProlepticGregorian t ≡ true → (IsMultiple r (biased t) → ⊥) → write_number unit t ≡ Err Inexact
    other_written h miss = written_by_row t h ∙ ratio_unwritten (unit_row_of unit) r (rows unit) q t f h miss

    pub written_multiple : is_none (offset_refusal (write_number unit t)) ≡ true → IsMultiple r (biased t)
    written_multiple h = let e = written_inside t h in instant_found (unit_row_of unit) r (rows unit) q t f e (ap (λ (a : Result ℤ Refusal). is_none (offset_refusal a)) (sym (written_by_row t e)) ∙ h)

    pub written_exchanged : (n : ℤ) → SFits w64 n → ((i : ℕ) → Place r.from r.below r.above (biased t) i → Place r.to r.below r.above (biased n) i) → is_none (offset_refusal (write_number unit t)) ≡ true → n ≡ offset_of (write_number unit t)
    written_exchanged n g places h =
        let m = written_multiple h in
        let a = ratio_written (unit_row_of unit) r (rows unit) q t f m.0 m.1 in
        one_number n a.number m.0 g a.fits (places m.0 m.1) a.place ∙ sym (ap offset_of (multiple_written m))
