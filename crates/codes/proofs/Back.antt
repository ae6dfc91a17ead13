-- Codes and what they name belong to each other: the codes of an axis, with a cutover that its calendar carries, name it, and what codes name with
-- a cutover has these codes and carries it.
use Rattle.std.specs.Prelude.{Result, Ok, Err, Option, Some, None}
use mathlib.Core.Path.{◌≡◌, refl, sym, ap, subst, ◌∙◌}
use Prim.Native.Nat.{ℕ, zero, suc}
use native.Mathlib.Omega.{arith}
use Rattle.calendar.specs.declared.Calendar.{Calendar}
use Rattle.calendar.specs.declared.Calendar.TheVariants.{Standard, ProlepticGregorian, Julian, NoLeap, AllLeap, Day360}
use Rattle.calendar.specs.declared.Date.{Date}
use Rattle.cutover.specs.Calendars.{with_cutover, Carries}
use Rattle.calendar.specs.Cutover.{cutover_days}
use Rattle.cutover.proofs.Theorems.{StandardWith, with_allowed, not_allowed, standard_with_lem, carried}
use Rattle.axis_types.specs.declared.Period.{Period}
use Rattle.axis_types.specs.declared.Period.TheVariants.{Second, Millisecond, Minute, Hour, Day, Week, Month, Year}
use Rattle.axis_types.specs.declared.Mode.{Mode}
use Rattle.axis_types.specs.declared.Axis.{Axis}
use Rattle.codes.specs.Codes.{coded_calendar, calendar_with, calendar_given, coded_period, coded_mode, axis_in, axis_with, coded_axis, calendar_code, period_code, mode_code, axis_code}
use Rattle.codes.specs.declared.UppinaloAxis.{UppinaloAxis}
use Rattle.refusal.specs.declared.Refusal.{Refusal}

-- ---- the codes of an axis name it

-- `standard` is given the cutover in place of any that it has
given_as_carried : (c : Calendar) (x : Date) → calendar_given (calendar_code c) x ≡ with_cutover c x
unfolding with_cutover
given_as_carried (Standard k) x = refl
given_as_carried ProlepticGregorian x = refl
given_as_carried Julian x = refl
given_as_carried NoLeap x = refl
given_as_carried AllLeap x = refl
given_as_carried Day360 x = refl

pub calendar_back : (c : Calendar) (x : Date) → Carries c x → calendar_given (calendar_code c) x ≡ Ok c
calendar_back c x h = given_as_carried c x ∙ h

in_calendar_lem : (c : Calendar) (p : Period) (m : Mode) (a : UppinaloAxis) → axis_with (coded_calendar (calendar_code c)) (Some p) (Some m) a ≡ axis_in (calendar_given (calendar_code c) a.cutover) p m a
in_calendar_lem (Standard k) p m a = refl
in_calendar_lem ProlepticGregorian p m a = refl
in_calendar_lem Julian p m a = refl
in_calendar_lem NoLeap p m a = refl
in_calendar_lem AllLeap p m a = refl
in_calendar_lem Day360 p m a = refl

period_back : (p : Period) → coded_period (period_code p) ≡ Some p
period_back Second = refl
period_back Millisecond = refl
period_back Minute = refl
period_back Hour = refl
period_back Day = refl
period_back Week = refl
period_back Month = refl
period_back Year = refl

mode_back : (m : Mode) → coded_mode (mode_code m) ≡ Some m
mode_back Mode.Fixed = refl
mode_back Mode.Calendar = refl

pub axis_back : (a : Axis) (x : Date) → Carries a.calendar x → coded_axis (axis_code a x) ≡ Ok a
unfolding coded_axis
axis_back a x h =
    (λ i. axis_with (coded_calendar (calendar_code a.calendar)) (period_back a.period i) (mode_back a.mode i) (axis_code a x))
    ∙ (in_calendar_lem a.calendar a.period a.mode (axis_code a x) ∙ ap (λ (k : Result Calendar Refusal). axis_in k a.period a.mode (axis_code a x)) (calendar_back a.calendar x h))

-- ---- what codes name has these codes

-- a cutover does not change which calendar it is
same_code : (d c : Calendar) (x : Date) → with_cutover d x ≡ Ok c → calendar_code c ≡ calendar_code d
unfolding with_cutover
same_code (Standard k) c x = go (standard_with_lem x)
  where
    go : {a : Result Calendar Refusal} → StandardWith x a → a ≡ Ok c → calendar_code c ≡ 0
    go (with_allowed h) e = let f : Standard (cutover_days x) ≡ c = cc in ap calendar_code (sym f)
    go (not_allowed h) e = absurd (let z : ◌≡◌ {A = ℕ} 0 1 = cc in omega arith)
same_code ProlepticGregorian c x = λ e. let f : ProlepticGregorian ≡ c = cc in ap calendar_code (sym f)
same_code Julian c x = λ e. let f : Julian ≡ c = cc in ap calendar_code (sym f)
same_code NoLeap c x = λ e. let f : NoLeap ≡ c = cc in ap calendar_code (sym f)
same_code AllLeap c x = λ e. let f : AllLeap ≡ c = cc in ap calendar_code (sym f)
same_code Day360 c x = λ e. let f : Day360 ≡ c = cc in ap calendar_code (sym f)

code_known : (n : ℕ) (c : Calendar) → coded_calendar n ≡ Some c → calendar_code c ≡ n
code_known n c e = go n e
  where
    of : (b : Calendar) → Some b ≡ Some c → calendar_code c ≡ calendar_code b
    of b h = let k : b ≡ c = cc in ap calendar_code (sym k)

    go : (k : ℕ) → coded_calendar k ≡ Some c → calendar_code c ≡ k
    go zero h = of (Standard 0) h
    go (suc zero) h = of ProlepticGregorian h
    go (suc (suc zero)) h = of Julian h
    go (suc (suc (suc zero))) h = of NoLeap h
    go (suc (suc (suc (suc zero)))) h = of AllLeap h
    go (suc (suc (suc (suc (suc zero))))) h = of Day360 h
    go (suc (suc (suc (suc (suc (suc k)))))) h = absurd (let z : ◌≡◌ {A = ℕ} 0 1 = cc in omega arith)

-- what a code names with a cutover
pub record Known (n : ℕ) (x : Date) (c : Calendar) : Type 0 where
  pub code : calendar_code c ≡ n
  pub carries : Carries c x

with_known : (n : ℕ) (x : Date) (d c : Calendar) → coded_calendar n ≡ Some d → with_cutover d x ≡ Ok c → Known n x c
with_known n x d c e f = record { code = same_code d c x f ∙ code_known n d e; carries = carried d c x f }

pub calendar_known : (n : ℕ) (x : Date) (c : Calendar) → calendar_given n x ≡ Ok c → Known n x c
calendar_known n x c = go (coded_calendar n) refl
  where
    go : (k : Option Calendar) → coded_calendar n ≡ k → calendar_with k x ≡ Ok c → Known n x c
    go (Some d) e f = with_known n x d c e f
    go None e f = absurd (let z : ◌≡◌ {A = ℕ} 0 1 = cc in omega arith)

period_known : (n : ℕ) (p : Period) → coded_period n ≡ Some p → period_code p ≡ n
period_known n p e = go n e
  where
    of : (b : Period) → Some b ≡ Some p → period_code p ≡ period_code b
    of b h = let k : b ≡ p = cc in ap period_code (sym k)

    go : (k : ℕ) → coded_period k ≡ Some p → period_code p ≡ k
    go zero h = of Second h
    go (suc zero) h = of Millisecond h
    go (suc (suc zero)) h = of Minute h
    go (suc (suc (suc zero))) h = of Hour h
    go (suc (suc (suc (suc zero)))) h = of Day h
    go (suc (suc (suc (suc (suc zero))))) h = of Week h
    go (suc (suc (suc (suc (suc (suc zero)))))) h = of Month h
    go (suc (suc (suc (suc (suc (suc (suc zero))))))) h = of Year h
    go (suc (suc (suc (suc (suc (suc (suc (suc k)))))))) h = absurd (let z : ◌≡◌ {A = ℕ} 0 1 = cc in omega arith)

mode_known : (n : ℕ) (m : Mode) → coded_mode n ≡ Some m → mode_code m ≡ n
mode_known n m e = go n e
  where
    of : (b : Mode) → Some b ≡ Some m → mode_code m ≡ mode_code b
    of b h = let k : b ≡ m = cc in ap mode_code (sym k)

    go : (k : ℕ) → coded_mode k ≡ Some m → mode_code m ≡ k
    go zero h = of Mode.Fixed h
    go (suc zero) h = of Mode.Calendar h
    go (suc (suc k)) h = absurd (let z : ◌≡◌ {A = ℕ} 0 1 = cc in omega arith)

pub axis_known : (a : UppinaloAxis) (x : Axis) → coded_axis a ≡ Ok x → (axis_code x a.cutover ≡ a) × Carries x.calendar a.cutover
unfolding coded_axis
axis_known a x e = go (coded_calendar a.calendar) (coded_period a.period) (coded_mode a.mode) refl refl refl e
  where
    named : (c : Calendar) (p : Period) (m : Mode) → Known a.calendar a.cutover c → coded_period a.period ≡ Some p → coded_mode a.mode ≡ Some m → record { calendar = c; period = p; mode = m; reference = a.reference } ≡ x
        → (axis_code x a.cutover ≡ a) × Carries x.calendar a.cutover
    named c p m k g h is = (
      ap (λ (y : Axis). axis_code y a.cutover) (sym is)
          ∙ (λ i. record { calendar = k.code i; period = period_known a.period p g i; mode = mode_known a.mode m h i; reference = a.reference; cutover = a.cutover }),
      subst (λ (y : Axis). Carries y.calendar a.cutover) is k.carries,
    )

    cut : (d : Calendar) (p : Period) (m : Mode) → coded_calendar a.calendar ≡ Some d → coded_period a.period ≡ Some p → coded_mode a.mode ≡ Some m → (q : Result Calendar Refusal) → with_cutover d a.cutover ≡ q → axis_in q p m a ≡ Ok x
        → (axis_code x a.cutover ≡ a) × Carries x.calendar a.cutover
    cut d p m f g h (Ok c) q k = named c p m (with_known a.calendar a.cutover d c f q) g h (let is : record { calendar = c; period = p; mode = m; reference = a.reference } ≡ x = cc in is)
    cut d p m f g h (Err r) q k = absurd (let z : ◌≡◌ {A = ℕ} 0 1 = cc in omega arith)

    go : (c : Option Calendar) (p : Option Period) (m : Option Mode) → coded_calendar a.calendar ≡ c → coded_period a.period ≡ p → coded_mode a.mode ≡ m → axis_with c p m a ≡ Ok x → (axis_code x a.cutover ≡ a) × Carries x.calendar a.cutover
    go None p m f g h k = absurd (let z : ◌≡◌ {A = ℕ} 0 1 = cc in omega arith)
    go (Some d) None m f g h k = absurd (let z : ◌≡◌ {A = ℕ} 0 1 = cc in omega arith)
    go (Some d) (Some p) None f g h k = absurd (let z : ◌≡◌ {A = ℕ} 0 1 = cc in omega arith)
    go (Some d) (Some p) (Some m) f g h k = cut d p m f g h (with_cutover d a.cutover) refl k
