-- What a reading and a writing say: day, second and nanosecond of UTC, and the number that they make.
use Rattle.std.specs.Prelude.{Result, Ok, Err}
use mathlib.Core.Path.{◌≡◌, refl, sym, ap, ◌∙◌, subst}
use mathlib.Core.Bool.{Bool, true, false, ◌&&◌, true≢false}
use mathlib.Core.List.{List}
use Prim.Native.Nat.{ℕ, ◌+◌, ◌-◌, ◌*◌, ◌/◌, ◌%◌, ◌<◌, ◌≤◌}
use native.Mathlib.Omega.{arith}
use lib.IntN.{ℤ, pos, negsuc, ◌-ℤ◌, ◌+ℤ◌}
use borrow.Author.Tests.{ltb-false}
use Rattle.refusal.specs.declared.Refusal.TheVariants.{ImpossibleField, OutOfRange, MissingDate, Before1972}
use Rattle.signed.proofs.Tests.{both, left_out, right_out}
use Rattle.signed.proofs.Differences.{sub_high, same_diff, sub_plus}
use Rattle.signed.proofs.Integers.{plus_difference}
use Rattle.calendar.specs.Calendar.{date, date_of, exists, in_years}
use Rattle.calendar.specs.Order.{earlier}
use Rattle.calendar.specs.Answers.{is_possible, day_number}
use Rattle.calendar.specs.declared.Calendar.TheVariants.{ProlepticGregorian}
use Rattle.calendar.specs.declared.Date.{Date}
use Rattle.calendar.proofs.Theorems.{date_of_number}
use Rattle.leap_seconds.specs.Leaps.{leaps, is_good}
use Rattle.leap_seconds.specs.Utc.{moment, moment_at}
use Rattle.leap_seconds.specs.Closed.{HoldsOn}
use Rattle.leap_seconds.specs.declared.Moment.{Moment}
use Rattle.leap_seconds.proofs.Listed.{Listed, listed}
use Rattle.leap_seconds.proofs.OnDays.{count_is, held}
use Rattle.leap_seconds.proofs.Moments.{InDay, reached, moment_is}
use Rattle.tt2000.specs.Tt2000.{tt_of, start_of, utc_fields_at, after_start, read_tt2000, date_of_utc, day_second, is_utc_time, in64_bits, limited, write_tt2000}
use Rattle.tt2000.specs.declared.UtcFields.{UtcFields}
use Rattle.tt2000.proofs.Numbers.{number_at, tt_is, Limited, in_bits, too_great, limits, start_is}
use Rattle.tt2000.proofs.Writing.{UtcTime, time_of_lem, impossible_time, impossible_date, missing, too_early, too_late, on_day_lem, before_1972}
use Rattle.refusal.specs.declared.Refusal.{Refusal}

module _ (s : List ℕ) (good : is_good s ≡ true) where
  pub l : Listed s
  l = listed s good

  -- the number of nanosecond n of second q of day d, on which record j holds
  abbrev pub number_on : ℕ → ℕ → ℕ → ℕ → ℤ
  number_on d q j n = number_at (d * 86400 + q + (10 + j)) n

  pub tt_on : (d q j n : ℕ) → HoldsOn s d j → tt_of (leaps s) (pos d) q n ≡ number_on d q j n
  tt_on d q j n h = tt_is (leaps s) d q n (10 + j) (count_is s l d j h)

  -- ---- reading

  pub record ReadAs (t : ℤ) (f : UtcFields) : Type 0 where
    pub day : ℕ
    pub second : ℕ
    pub leaps_before : ℕ
    pub nanosecond : ℕ
    pub in_day : InDay s l day second leaps_before
    pub small : nanosecond < 1000000000
    pub is : utc_fields_at (moment day second) nanosecond ≡ f
    pub number : number_on day second leaps_before nanosecond ≡ t

  pub read_is : (t : ℤ) → read_tt2000 s t ≡ after_start (leaps s) (t -ℤ start_of (leaps s))
  unfolding read_tt2000
  read_is t = rw good

  pub read_as : (t : ℤ) (f : UtcFields) → read_tt2000 s t ≡ Ok f → ReadAs t f
  unfolding after_start
  read_as t f h = go (t -ℤ start_of (leaps s)) refl (sym (read_is t) ∙ h)
    where
      go : (z : ℤ) → t -ℤ start_of (leaps s) ≡ z → after_start (leaps s) z ≡ Ok f → ReadAs t f
      go (negsuc n) e k = absurd (let y : ◌≡◌ {A = ℕ} 0 1 = (cc) in omega arith)
      go (pos n) e k =
          let r = reached s l (n / 1000000000) in
          let fields : utc_fields_at (moment_at (leaps s) (n / 1000000000)) (n % 1000000000) ≡ f = (cc k) in
          let at : t ≡ negsuc 883655957815999999 +ℤ pos n = sym (plus_difference (start_of (leaps s)) t) ∙ (λ i. start_is s l i +ℤ e i) in
          record {
            day = r.day;
            second = r.second;
            leaps_before = r.leaps_before;
            nanosecond = n % 1000000000;
            in_day = r.in_day;
            small = omega arith;
            is = ap (λ (m : Moment). utc_fields_at m (n % 1000000000)) (sym r.is) ∙ fields;
            number = same_diff ((r.day * 86400 + r.second + (10 + r.leaps_before)) * 1000000000 + n % 1000000000) 946727967816000000 n 883655957816000000 (omega (arith, r.sum)) ∙ sym at;
          }

  -- and back
  pub read_of : (d q j n : ℕ) → InDay s l d q j → n < 1000000000 → read_tt2000 s (number_on d q j n) ≡ Ok (utc_fields_at (moment d q) n)
  unfolding after_start
  read_of d q j n i small =
      let a = (d * 86400 + q + (10 + j)) * 1000000000 + n in
      let m = d * 86400 + q + j - 63072000 in
      let e : m * 1000000000 + n ≡ a + 883655957816000000 - 946727967816000000 = omega (arith, i.low) in
      let z : number_on d q j n -ℤ start_of (leaps s) ≡ pos (m * 1000000000 + n) = ap (λ (w : ℤ). number_on d q j n -ℤ w) (start_is s l) ∙ (sub_plus a 946727967816000000 883655957816000000 ∙ (sub_high (a + 883655957816000000) 946727967816000000 (omega (arith, i.low)) ∙ ap pos (sym e))) in
      let seconds : (m * 1000000000 + n) / 1000000000 ≡ m = omega arith in
      let rest : (m * 1000000000 + n) % 1000000000 ≡ n = omega arith in
      read_is (number_on d q j n)
      ∙ (ap (after_start (leaps s)) z
      ∙ (λ k. Ok (utc_fields_at ((ap (moment_at (leaps s)) seconds ∙ moment_is s l d q j m i (omega (arith, i.low))) k) (rest k))))

  -- ---- writing: one of the five, in their order

  pub data Outcome (f : UtcFields) : Result ℤ Refusal → Type 0 where
    impossible : (is_utc_time (leaps s) f && is_possible f.month f.day) ≡ false → Outcome f (Err ImpossibleField)
    not_there : (is_utc_time (leaps s) f && is_possible f.month f.day) ≡ true → exists ProlepticGregorian (date_of_utc f) ≡ false → Outcome f (Err MissingDate)
    early : is_utc_time (leaps s) f ≡ true → exists ProlepticGregorian (date_of_utc f) ≡ true → earlier (date_of_utc f) (date (pos 1972) 1 1) ≡ true → Outcome f (Err Before1972)
    far : is_utc_time (leaps s) f ≡ true → exists ProlepticGregorian (date_of_utc f) ≡ true → earlier (date_of_utc f) (date (pos 1972) 1 1) ≡ false → in_years f.year ≡ false → Outcome f (Err OutOfRange)
    on : (d j : ℕ) → is_utc_time (leaps s) f ≡ true → exists ProlepticGregorian (date_of_utc f) ≡ true → earlier (date_of_utc f) (date (pos 1972) 1 1) ≡ false → 730 ≤ d → date_of ProlepticGregorian (pos d) ≡ date_of_utc f → HoldsOn s d j → Outcome f (limited (number_on d (day_second f) j f.nanosecond))

  module _ (f : UtcFields) where
    abbrev x : Date
    x = date_of_utc f

    -- the day of a date of the years from 1972 on
    on_number : (z : ℤ) → is_utc_time (leaps s) f ≡ true → exists ProlepticGregorian x ≡ true → earlier x (date (pos 1972) 1 1) ≡ false → in_years f.year ≡ true → date_of ProlepticGregorian z ≡ x → Outcome f (write_tt2000 s f)
    on_number (negsuc n) a b c y e = absurd (true≢false (sym (before_1972 x (negsuc n) e) ∙ c))
    on_number (pos d) a b c y e =
        let low : 730 ≤ d = ltb-false d 730 (sym (before_1972 x (pos d) e) ∙ c) in
        let h = held s l d low in
        subst (Outcome f) (sym (on_day_lem s f good a b (pos d) c y e ∙ ap limited (tt_on d (day_second f) h.0 f.nanosecond h.1))) (on d h.0 a b c low e h.1)

    pub outcome : Outcome f (write_tt2000 s f)
    outcome = go (is_utc_time (leaps s) f) (is_possible f.month f.day) (exists ProlepticGregorian x) (earlier x (date (pos 1972) 1 1)) (in_years f.year) refl refl refl refl refl
      where
        go : (t p e b y : Bool) → is_utc_time (leaps s) f ≡ t → is_possible f.month f.day ≡ p → exists ProlepticGregorian x ≡ e → earlier x (date (pos 1972) 1 1) ≡ b → in_years f.year ≡ y → Outcome f (write_tt2000 s f)
        go false p e b y ht hp he hb hy = subst (Outcome f) (sym (impossible_time s f good ht)) (impossible (left_out (is_utc_time (leaps s) f) (is_possible f.month f.day) ht))
        go true false e b y ht hp he hb hy = subst (Outcome f) (sym (impossible_date s f good hp)) (impossible (right_out (is_utc_time (leaps s) f) (is_possible f.month f.day) hp))
        go true true false b y ht hp he hb hy = subst (Outcome f) (sym (missing s f good ht hp he)) (not_there (both (is_utc_time (leaps s) f) (is_possible f.month f.day) ht hp) he)
        go true true true true y ht hp he hb hy = subst (Outcome f) (sym (too_early s f good ht he hb)) (early ht he hb)
        go true true true false false ht hp he hb hy = subst (Outcome f) (sym (too_late s f good ht he hb hy)) (far ht he hb hy)
        go true true true false true ht hp he hb hy = on_number (day_number ProlepticGregorian x) ht he hb hy (date_of_number ProlepticGregorian x hy he)

  -- ---- what was written

  pub record WrittenAs (f : UtcFields) (t : ℤ) : Type 0 where
    pub day : ℕ
    pub leaps_before : ℕ
    pub time : UtcTime (leaps s) f
    pub low : 730 ≤ day
    pub dated : date_of ProlepticGregorian (pos day) ≡ date_of_utc f
    pub holds : HoldsOn s day leaps_before
    pub number : number_on day (day_second f) leaps_before f.nanosecond ≡ t
    pub fits : in64_bits t ≡ true

  pub written_as : (f : UtcFields) (t : ℤ) → write_tt2000 s f ≡ Ok t → WrittenAs f t
  written_as f t = go (outcome f)
    where
      limited_is : {z : ℤ} {a : Result ℤ Refusal} → Limited z a → a ≡ Ok t → (z ≡ t) × (in64_bits t ≡ true)
      limited_is {z} (in_bits e) k = let same : z ≡ t = (cc k) in (same, ap in64_bits (sym same) ∙ e)
      limited_is too_great k = absurd (let y : ◌≡◌ {A = ℕ} 0 1 = (cc) in omega arith)

      go : {a : Result ℤ Refusal} → Outcome f a → a ≡ Ok t → WrittenAs f t
      go (impossible h) k = absurd (let y : ◌≡◌ {A = ℕ} 0 1 = (cc) in omega arith)
      go (not_there h g) k = absurd (let y : ◌≡◌ {A = ℕ} 0 1 = (cc) in omega arith)
      go (early h g b) k = absurd (let y : ◌≡◌ {A = ℕ} 0 1 = (cc) in omega arith)
      go (far h g b y) k = absurd (let y : ◌≡◌ {A = ℕ} 0 1 = (cc) in omega arith)
      go (on d j h g b low e held) k =
          let w = limited_is (limits (number_on d (day_second f) j f.nanosecond)) k in
          record { day = d; leaps_before = j; time = time_of_lem (leaps s) f h; low = low; dated = e; holds = held; number = w.0; fits = w.1 }
