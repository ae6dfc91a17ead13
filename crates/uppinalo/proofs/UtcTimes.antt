-- TT2000 with leap seconds: what the crate `tt2000` proves, of the calls.
use Rattle.std.specs.Prelude.{Result, Ok, Err}
use mathlib.Core.Path.{◌≡◌, refl, sym, ap, ◌∙◌}
use mathlib.Core.Bool.{Bool, true, false, ◌&&◌, true≢false}
use mathlib.Core.List.{List}
use mathlib.Core.Logic.{◌↔◌}
use Prim.Native.Nat.{ℕ, suc, ◌+◌, ◌<◌, ◌≤◌}
use native.Mathlib.Omega.{arith}
use lib.Dec.{ltb}
use lib.IntN.{ℤ, pos, negsuc, ◌+ℤ◌, ◌-ℤ◌}
use lib.Signed.{lt_z}
use mir.Syntax.{w64}
use mir.Val.{SFits}
use borrow.Author.Tests.{lt-ltb, le-ltb, ltb-false, eq-eqb}
use Rattle.refusal.specs.declared.Refusal.TheVariants.{OutOfRange}
use Rattle.refusal.proofs.Numbers.{not_success}
use Rattle.signed.proofs.Tests.{and_parts, both}
use Rattle.signed.proofs.Differences.{sub_lt}
use Rattle.signed.proofs.Integers.{plus_difference}
use Rattle.calendar.specs.Calendar.{date, exists}
use Rattle.calendar.specs.Order.{earlier}
use Rattle.calendar.specs.Answers.{is_possible}
use Rattle.calendar.specs.declared.Calendar.TheVariants.{ProlepticGregorian}
use Rattle.calendar.proofs.AnyYear.{day_10957}
use Rattle.calendar.proofs.Existing.{exists_possible}
use Rattle.leap_seconds.specs.Leaps.{leaps, is_good}
use Rattle.leap_seconds.proofs.Listed.{Listed, listed}
use Rattle.tt2000.specs.Tt2000.{start_of, after_start, read_tt2000, date_of_utc, day_second, is_leap_date, is_second, is_utc_time, write_tt2000}
use Rattle.tt2000.specs.declared.UtcFields.{UtcFields}
use Rattle.tt2000.proofs.Numbers.{Limited, in_bits, too_great, limits, start_is}
use Rattle.tt2000.proofs.Writing.{UtcTime, time_of_lem, Second, plain, leap}
use Rattle.tt2000.proofs.Answered.{number_on, read_is, Outcome, impossible, not_there, early, far, on, outcome}
use Rattle.tt2000.proofs.Theorems as Theorems
use Rattle.uppinalo.specs.Utc.{of_utc, of_tt2000, uppinalo_read_tt2000, uppinalo_write_tt2000}
use Rattle.uppinalo.specs.UtcTimes.{utc_given, tt2000_given, BadLists, LeapSecond, ImpossibleUtc, by_date, by_hour, by_minute, by_second, by_nanosecond, UtcRefused, UtcTimes}
use Rattle.uppinalo.specs.declared.utc.UppinaloUtcFieldsAnswer.{UppinaloUtcFieldsAnswer}
use Rattle.uppinalo.specs.declared.utc.UppinaloTt2000Answer.{UppinaloTt2000Answer}
use Rattle.uppinalo.proofs.WhyRefused.{date_told}
use Rattle.refusal.specs.declared.Refusal.{Refusal}

-- ---- answers and what they say

utc_is : (a : Result UtcFields Refusal) (f : UtcFields) → of_utc a ≡ utc_given f → a ≡ Ok f
utc_is (Ok g) f h = ap Ok (ap (λ (r : UppinaloUtcFieldsAnswer). r.fields) h)
utc_is (Err r) f h = absurd (not_success r (ap (λ (a : UppinaloUtcFieldsAnswer). a.number) h))

tt2000_is : (a : Result ℤ Refusal) (t : ℤ) → of_tt2000 a ≡ tt2000_given t → a ≡ Ok t
tt2000_is (Ok u) t h = ap Ok (ap (λ (r : UppinaloTt2000Answer). r.tt2000) h)
tt2000_is (Err r) t h = absurd (not_success r (ap (λ (a : UppinaloTt2000Answer). a.number) h))

-- ---- a list that is not good

-- reading by a good list is refused with 15 alone
after_start_lem : (s : List ℕ) (z : ℤ) → (of_utc (after_start (leaps s) z)).number ≡ 14 → ⊥
unfolding after_start
after_start_lem s (pos n) h = omega arith
after_start_lem s (negsuc n) h = omega arith

-- one of the five answers of writing
module _ (s : List ℕ) (good : is_good s ≡ true) (f : UtcFields) where
  not_bad : (of_tt2000 (write_tt2000 s f)).number ≡ 14 → ⊥
  not_bad = go (outcome s good f)
    where
      held : {z : ℤ} {a : Result ℤ Refusal} → Limited z a → (of_tt2000 a).number ≡ 14 → ⊥
      held (in_bits e) h = omega arith
      held too_great h = omega arith

      go : {a : Result ℤ Refusal} → Outcome s good f a → (of_tt2000 a).number ≡ 14 → ⊥
      go (impossible g) h = omega arith
      go (not_there p g) h = omega arith
      go (early p g b) h = omega arith
      go (far p g b y) h = omega arith
      go (on d j p g b low e k) h = held (limits (number_on s good d (day_second f) j f.nanosecond)) h

pub bad_lists : (s : List ℕ) → BadLists s
unfolding read_tt2000 write_tt2000
bad_lists s = go (is_good s) refl
  where
    go : (t : Bool) → is_good s ≡ t → BadLists s
    go false e = record { reading = λ t. ((λ _. e), λ _. rw e); writing = λ f. ((λ _. e), λ _. rw e) }
    go true e = record { reading = λ t. ((λ h. absurd (after_start_lem s (t -ℤ start_of (leaps s)) (ap (λ (a : Result UtcFields Refusal). (of_utc a).number) (sym (read_is s e t)) ∙ h))), λ h. absurd (true≢false (sym e ∙ h))); writing = λ f. ((λ h. absurd (not_bad s e f h)), λ h. absurd (true≢false (sym e ∙ h))) }

module _ (s : List ℕ) (good : is_good s ≡ true) where
  abbrev l : Listed s
  l = listed s good

  -- ---- reading

  -- a number by its distance from the beginning of 1972
  number_is : (t z : ℤ) → t -ℤ start_of (leaps s) ≡ z → t ≡ negsuc 883655957815999999 +ℤ z
  number_is t z e = sym (plus_difference (start_of (leaps s)) t) ∙ (λ i. start_is s l i +ℤ e i)

  -- read, and later than the start or at it; or refused, and before it
  data Read (t : ℤ) : Type 0 where
    later : (uppinalo_read_tt2000 s t).number ≡ 0 → lt_z t (start_of (leaps s)) ≡ false → Read t
    before : (uppinalo_read_tt2000 s t).number ≡ 15 → lt_z t (start_of (leaps s)) ≡ true → Read t

  read : (t : ℤ) → Read t
  unfolding after_start
  read t = go (t -ℤ start_of (leaps s)) refl
    where
      test : (z : ℤ) → t -ℤ start_of (leaps s) ≡ z → lt_z t (start_of (leaps s)) ≡ lt_z (negsuc 883655957815999999 +ℤ z) (negsuc 883655957815999999)
      test z e = λ i. lt_z (number_is t z e i) (start_is s l i)

      number : (z : ℤ) → t -ℤ start_of (leaps s) ≡ z → (uppinalo_read_tt2000 s t).number ≡ (of_utc (after_start (leaps s) z)).number
      number z e = ap (λ (a : Result UtcFields Refusal). (of_utc a).number) (read_is s good t ∙ ap (after_start (leaps s)) e)

      go : (z : ℤ) → t -ℤ start_of (leaps s) ≡ z → Read t
      go (pos n) e = later (number (pos n) e) (test (pos n) e ∙ (sub_lt n 0 883655957816000000 ∙ le-ltb n 0 (omega arith)))
      go (negsuc n) e = before (number (negsuc n) e) (test (negsuc n) e ∙ lt-ltb 883655957815999999 (suc (883655957815999999 + n)) (omega arith))

  read_before : (t : ℤ) → ((uppinalo_read_tt2000 s t).number ≡ 15) ↔ (lt_z t (start_of (leaps s)) ≡ true)
  read_before t = go (read t)
    where
      go : Read t → ((uppinalo_read_tt2000 s t).number ≡ 15) ↔ (lt_z t (start_of (leaps s)) ≡ true)
      go (later n e) = ((λ h. absurd (omega arith)), λ h. absurd (true≢false (sym h ∙ e)))
      go (before n e) = ((λ _. e), λ _. n)

  read_later : (t : ℤ) → ((uppinalo_read_tt2000 s t).number ≡ 15 → ⊥) → (uppinalo_read_tt2000 s t).number ≡ 0
  read_later t f = go (read t)
    where
      go : Read t → (uppinalo_read_tt2000 s t).number ≡ 0
      go (later n e) = n
      go (before n e) = absurd (f n)

  -- ---- leap seconds

  leap_date_of : (f : UtcFields) → LeapSecond s f → is_leap_date (leaps s) (date_of_utc f) ≡ true
  leap_date_of f p = Theorems.leap_date_there s good (date_of_utc f) p.place p.not_first p.listed p.day_before_lem

  leap_second_of : (f : UtcFields) → f.hour ≡ 23 → f.minute ≡ 59 → f.second ≡ 60 → is_leap_date (leaps s) (date_of_utc f) ≡ true → LeapSecond s f
  leap_second_of f a b c h =
      let k = Theorems.leap_date s good (date_of_utc f) h in
      record { hour = a; minute = b; second = c; place = k.0; not_first = k.1; listed = k.2; day_before_lem = k.3 }

  -- ---- fields that are refused by themselves

  module _ (f : UtcFields) where
    -- a time of day that the date may have has no impossible field
    fine : (is_utc_time (leaps s) f && is_possible f.month f.day) ≡ true → ImpossibleUtc s f → ⊥
    fine h = go
      where
        w : (is_utc_time (leaps s) f ≡ true) × (is_possible f.month f.day ≡ true)
        w = and_parts (is_utc_time (leaps s) f) (is_possible f.month f.day) h

        t : UtcTime (leaps s) f
        t = time_of_lem (leaps s) f w.0

        second : Second (leaps s) f → 59 < f.second → (LeapSecond s f → ⊥) → ⊥
        second (plain q) g n = omega arith
        second (leap a b c d) g n = n (leap_second_of f a b c d)

        go : ImpossibleUtc s f → ⊥
        go (by_date d) = true≢false (sym w.1 ∙ (date_told (date_of_utc f)).1 d)
        go (by_hour g) = omega (arith, t.hour)
        go (by_minute g) = omega (arith, t.minute)
        go (by_second g n) = second t.second g n
        go (by_nanosecond g) = omega (arith, t.nanosecond)

    second_of_lem : LeapSecond s f → is_second (leaps s) f ≡ true
    second_of_lem p = rw (le-ltb f.second 60 (omega (arith, p.second)), eq-eqb f.hour 23 p.hour, eq-eqb f.minute 59 p.minute, eq-eqb f.second 60 p.second, leap_date_of f p)

    -- and another has one
    told : (is_utc_time (leaps s) f && is_possible f.month f.day) ≡ false → ImpossibleUtc s f
    unfolding is_utc_time
    told = go (ltb f.hour 24) (ltb f.minute 60) (is_second (leaps s) f) (ltb f.nanosecond 1000000000) (is_possible f.month f.day) refl refl refl refl refl
      where
        go : (a b c d p : Bool) → ltb f.hour 24 ≡ a → ltb f.minute 60 ≡ b → is_second (leaps s) f ≡ c → ltb f.nanosecond 1000000000 ≡ d → is_possible f.month f.day ≡ p → (((a && b) && (c && d)) && p) ≡ false → ImpossibleUtc s f
        go false b c d p ha hb hc hd hp h = by_hour (omega (arith, ltb-false f.hour 24 ha))
        go true false c d p ha hb hc hd hp h = by_minute (omega (arith, ltb-false f.minute 60 hb))
        go true true false d p ha hb hc hd hp h = by_second (late (ltb f.second 60) refl) (λ q. true≢false (sym (second_of_lem q) ∙ hc))
          where
            late : (t : Bool) → ltb f.second 60 ≡ t → 59 < f.second
            late true e = let y : is_second (leaps s) f ≡ true = rw e in absurd (true≢false (sym y ∙ hc))
            late false e = omega (arith, ltb-false f.second 60 e)
        go true true true false p ha hb hc hd hp h = by_nanosecond (omega (arith, ltb-false f.nanosecond 1000000000 hd))
        go true true true true false ha hb hc hd hp h = by_date ((date_told (date_of_utc f)).0 hp)
        go true true true true true ha hb hc hd hp h = absurd (true≢false h)

    -- ---- the numbers of writing

    number_of : {a : Result ℤ Refusal} → a ≡ write_tt2000 s f → (uppinalo_write_tt2000 s f).number ≡ (of_tt2000 a).number
    number_of e = ap (λ (a : Result ℤ Refusal). (of_tt2000 a).number) (sym e)

    -- fields that lie past 64 bits are not read
    unread : write_tt2000 s f ≡ Err OutOfRange → (t : ℤ) → SFits w64 t → uppinalo_read_tt2000 s t ≡ utc_given f → ⊥
    unread e t fits h =
        let k : Err OutOfRange ≡ Ok t = sym e ∙ Theorems.write_undoes_read s good t f fits (utc_is (read_tt2000 s t) f h) in
        absurd (let y : ◌≡◌ {A = ℕ} 0 1 = (cc) in omega arith)

    pub refused : UtcRefused s f (uppinalo_write_tt2000 s f).number
    refused = go (outcome s good f) refl
      where
        clear : is_utc_time (leaps s) f ≡ true → exists ProlepticGregorian (date_of_utc f) ≡ true → ImpossibleUtc s f → ⊥
        clear h g = fine (both (is_utc_time (leaps s) f) (is_possible f.month f.day) h (exists_possible ProlepticGregorian (date_of_utc f) g))

        -- in 1972 or later only 5 is left
        from_1972 : is_utc_time (leaps s) f ≡ true → exists ProlepticGregorian (date_of_utc f) ≡ true → earlier (date_of_utc f) (date (pos 1972) 1 1) ≡ false → (n : ℕ) → (uppinalo_write_tt2000 s f).number ≡ n → n ≤ 5 → (n ≡ 4 → ⊥)
            → ((uppinalo_write_tt2000 s f).number ≡ 5 → (t : ℤ) → SFits w64 t → uppinalo_read_tt2000 s t ≡ utc_given f → ⊥) → (((t : ℤ) → SFits w64 t → uppinalo_read_tt2000 s t ≡ utc_given f → ⊥) → (uppinalo_write_tt2000 s f).number ≡ 5) → ((n ≡ 5 → ⊥) → n ≡ 0) → UtcRefused s f (uppinalo_write_tt2000 s f).number
        from_1972 h g b n k low four unread-5 five zero-else =
            record {
              impossible = ((λ j. absurd (four (sym k ∙ j))), λ i. absurd (clear h g i));
              missing = ((λ j. absurd (omega (arith, k, j))), λ w. absurd (true≢false (sym g ∙ w.1)));
              early = ((λ j. absurd (omega (arith, k, j))), λ w. absurd (true≢false (sym w.2 ∙ b)));
              past = ((λ j. (clear h g, g, b, unread-5 j)), λ w. five w.3);
              written = λ _ _ _ no. k ∙ zero-else (λ e. no (k ∙ e));
            }

        is_past : is_utc_time (leaps s) f ≡ true → exists ProlepticGregorian (date_of_utc f) ≡ true → earlier (date_of_utc f) (date (pos 1972) 1 1) ≡ false → Err OutOfRange ≡ write_tt2000 s f → UtcRefused s f (uppinalo_write_tt2000 s f).number
        is_past h g b e = from_1972 h g b 5 (number_of e) (omega arith) (λ j. omega arith) (λ _. unread (sym e)) (λ _. number_of e) (λ no. absurd (no refl))

        is_given : (z : ℤ) → is_utc_time (leaps s) f ≡ true → exists ProlepticGregorian (date_of_utc f) ≡ true → earlier (date_of_utc f) (date (pos 1972) 1 1) ≡ false → Ok z ≡ write_tt2000 s f → UtcRefused s f (uppinalo_write_tt2000 s f).number
        is_given z h g b e = from_1972 h g b 0 (number_of e) (omega arith) (λ j. omega arith) (λ j. absurd (omega (arith, number_of e, j))) (λ w. absurd (w z (Theorems.written_fits s good f z (sym e)) (ap of_utc (Theorems.read_undoes_write s good f z (sym e))))) (λ _. refl)

        held : {z : ℤ} {a : Result ℤ Refusal} → Limited z a → a ≡ write_tt2000 s f → is_utc_time (leaps s) f ≡ true → exists ProlepticGregorian (date_of_utc f) ≡ true → earlier (date_of_utc f) (date (pos 1972) 1 1) ≡ false → UtcRefused s f (uppinalo_write_tt2000 s f).number
        held {z} (in_bits i) e h g b = is_given z h g b e
        held too_great e h g b = is_past h g b e

        go : {a : Result ℤ Refusal} → Outcome s good f a → a ≡ write_tt2000 s f → UtcRefused s f (uppinalo_write_tt2000 s f).number
        go (impossible g) e =
            let k = number_of e in
            record { impossible = ((λ _. told g), λ _. k); missing = ((λ j. absurd (omega (arith, k, j))), λ w. absurd (w.0 (told g))); early = ((λ j. absurd (omega (arith, k, j))), λ w. absurd (w.0 (told g))); past = ((λ j. absurd (omega (arith, k, j))), λ w. absurd (w.0 (told g))); written = λ no _ _ _. absurd (no k) }
        go (not_there p g) e =
            let k = number_of e in
            record { impossible = ((λ j. absurd (omega (arith, k, j))), λ i. absurd (fine p i)); missing = ((λ _. (fine p, g)), λ _. k); early = ((λ j. absurd (omega (arith, k, j))), λ w. absurd (true≢false (sym w.1 ∙ g))); past = ((λ j. absurd (omega (arith, k, j))), λ w. absurd (true≢false (sym w.1 ∙ g))); written = λ _ no _ _. absurd (no k) }
        go (early h g b) e =
            let k = number_of e in
            record { impossible = ((λ j. absurd (omega (arith, k, j))), λ i. absurd (clear h g i)); missing = ((λ j. absurd (omega (arith, k, j))), λ w. absurd (true≢false (sym g ∙ w.1))); early = ((λ _. (clear h g, g, b)), λ _. k); past = ((λ j. absurd (omega (arith, k, j))), λ w. absurd (true≢false (sym b ∙ w.2))); written = λ _ _ no _. absurd (no k) }
        go (far h g b y) e = is_past h g b e
        go (on d j h g b low dated k) e = held (limits (number_on s good d (day_second f) j f.nanosecond)) e h g b

  -- ---- all of them

  pub utc_times : UtcTimes s
  utc_times =
      record {
        before = read_before;
        start = start_is s l;
        later = read_later;
        utc = λ t f h. Theorems.number_of_fields s good t f (utc_is (read_tt2000 s t) f h);
        rises = λ t u f g h k. Theorems.rises s good t u f g (utc_is (read_tt2000 s t) f h) (utc_is (read_tt2000 s u) g k);
        written_back = λ t f fits h. ap of_tt2000 (Theorems.write_undoes_read s good t f fits (utc_is (read_tt2000 s t) f h));
        read_back = λ f t h. let k = tt2000_is (write_tt2000 s f) t h in (Theorems.written_fits s good f t k, ap of_utc (Theorems.read_undoes_write s good f t k));
        second_60 = λ t f h e. let k = Theorems.second_60 s good t f (utc_is (read_tt2000 s t) f h) e in leap_second_of f k.0 k.1 e k.2;
        leap_second = λ f p n past. ap (λ (a : Result ℤ Refusal). (of_tt2000 a).number) (Theorems.leap_second s good f (p.hour, p.minute, p.second) (omega arith) (leap_date_of f p) (λ e. past (ap (λ (a : Result ℤ Refusal). (of_tt2000 a).number) e))).1;
        day_10957 = day_10957;
        nanosecond_0 = λ h. ap of_utc (Theorems.nanosecond_0 s good h);
        refused = refused;
      }
