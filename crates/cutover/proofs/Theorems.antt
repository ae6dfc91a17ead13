-- What is proved of a calendar with a cutover.
--   only-16          it is refused only for the cutover
--   carried          the calendar that is given carries the cutover
--   allowed-carried  `standard` carries every date that is allowed
--   first-carried    and that of 1582 in any case
--   refused-else     and is refused with every other
--   cutover-kept     the cutover that it carries is its first Gregorian date, and its last Julian one is as many days after 1582-10-04
--   any-cutover      the other calendars are given with any date
use Rattle.std.specs.Prelude.{Result, Ok, Err}
use mathlib.Core.Path.{◌≡◌, refl, sym, ap, ◌∙◌}
use mathlib.Core.Bool.{Bool, true, false, cond}
use Prim.Native.Nat.{ℕ, zero, suc}
use native.Mathlib.Omega.{arith}
use Rattle.refusal.specs.declared.Refusal.{Refusal}
use Rattle.refusal.specs.declared.Refusal.TheVariants.{CutoverNotAllowed}
use Rattle.calendar.specs.Calendar.{days_used, row_of}
use Rattle.calendar.specs.Cutover.{first_cutover, cutover_after, last_kept_after, allowed_after, cutover_days, allowed}
use Rattle.calendar.specs.declared.Calendar.{Calendar}
use Rattle.calendar.specs.declared.Calendar.TheVariants.{Standard, ProlepticGregorian, Julian, NoLeap, AllLeap, Day360}
use Rattle.calendar.specs.declared.Date.{Date}
use Rattle.cutover.specs.Calendars.{standard_with, with_cutover, Carries}
use Rattle.cutover.proofs.Days.{is_cutover, first_with}

-- a calendar other than `standard`
pub data IsPlain : Calendar → Type 0 where
  proleptic_gregorian : IsPlain ProlepticGregorian
  julian : IsPlain Julian
  noleap : IsPlain NoLeap
  all_leap : IsPlain AllLeap
  day_360 : IsPlain Day360

pub any_cutover : (c : Calendar) → IsPlain c → (x : Date) → Carries c x
unfolding with_cutover
any_cutover (Standard _) p x = elim p [ ]
any_cutover ProlepticGregorian p x = refl
any_cutover Julian p x = refl
any_cutover NoLeap p x = refl
any_cutover AllLeap p x = refl
any_cutover Day360 p x = refl

-- `standard` with a cutover
module _ (k : ℕ) (x : Date) where
  pub allowed_with : allowed x ≡ true → with_cutover (Standard k) x ≡ Ok (Standard (cutover_days x))
  unfolding with_cutover standard_with
  allowed_with h = rw h

  pub refused_else : allowed x ≡ false → with_cutover (Standard k) x ≡ Err CutoverNotAllowed
  unfolding with_cutover standard_with
  refused_else h = rw h

pub allowed_carried : (x : Date) → allowed x ≡ true → Carries (Standard (cutover_days x)) x
allowed_carried x h = allowed_with (cutover_days x) x h

pub first_carried : Carries (Standard 0) first_cutover
unfolding with_cutover
first_carried = first_with

-- what `standard` is given with
pub data StandardWith (x : Date) : Result Calendar Refusal → Type 0 where
  with_allowed : allowed x ≡ true → StandardWith x (Ok (Standard (cutover_days x)))
  not_allowed : allowed x ≡ false → StandardWith x (Err CutoverNotAllowed)

pub standard_with_lem : (x : Date) → StandardWith x (standard_with x)
unfolding standard_with
standard_with_lem x = go (allowed x) refl
  where
    go : (t : Bool) → allowed x ≡ t → StandardWith x (cond t (Ok (Standard (cutover_days x))) (Err CutoverNotAllowed))
    go true h = with_allowed h
    go false h = not_allowed h

pub only_16 : (c : Calendar) (x : Date) (r : Refusal) → with_cutover c x ≡ Err r → r ≡ CutoverNotAllowed
unfolding with_cutover
only_16 (Standard k) x r = go (standard_with_lem x)
  where
    go : {a : Result Calendar Refusal} → StandardWith x a → a ≡ Err r → r ≡ CutoverNotAllowed
    go (with_allowed h) e = absurd (let z : ◌≡◌ {A = ℕ} 0 1 = cc in omega arith)
    go (not_allowed h) e = cc
only_16 ProlepticGregorian x r = λ e. absurd (let z : ◌≡◌ {A = ℕ} 0 1 = cc in omega arith)
only_16 Julian x r = λ e. absurd (let z : ◌≡◌ {A = ℕ} 0 1 = cc in omega arith)
only_16 NoLeap x r = λ e. absurd (let z : ◌≡◌ {A = ℕ} 0 1 = cc in omega arith)
only_16 AllLeap x r = λ e. absurd (let z : ◌≡◌ {A = ℕ} 0 1 = cc in omega arith)
only_16 Day360 x r = λ e. absurd (let z : ◌≡◌ {A = ℕ} 0 1 = cc in omega arith)

pub carried : (d c : Calendar) (x : Date) → with_cutover d x ≡ Ok c → Carries c x
unfolding with_cutover
carried (Standard k) c x = go (standard_with_lem x)
  where
    go : {a : Result Calendar Refusal} → StandardWith x a → a ≡ Ok c → Carries c x
    go (with_allowed h) e = let f : Standard (cutover_days x) ≡ c = cc in ap (λ (b : Calendar). with_cutover b x) (sym f) ∙ (allowed_carried x h ∙ ap Ok f)
    go (not_allowed h) e = absurd (let z : ◌≡◌ {A = ℕ} 0 1 = cc in omega arith)
carried ProlepticGregorian c x = λ e. let f : ProlepticGregorian ≡ c = cc in ap (λ (b : Calendar). with_cutover b x) (sym f) ∙ ap Ok f
carried Julian c x = λ e. let f : Julian ≡ c = cc in ap (λ (b : Calendar). with_cutover b x) (sym f) ∙ ap Ok f
carried NoLeap c x = λ e. let f : NoLeap ≡ c = cc in ap (λ (b : Calendar). with_cutover b x) (sym f) ∙ ap Ok f
carried AllLeap c x = λ e. let f : AllLeap ≡ c = cc in ap (λ (b : Calendar). with_cutover b x) (sym f) ∙ ap Ok f
carried Day360 c x = λ e. let f : Day360 ≡ c = cc in ap (λ (b : Calendar). with_cutover b x) (sym f) ∙ ap Ok f

-- ---- the row of `standard` with a cutover that it carries

pub record Kept (k : ℕ) (x : Date) : Type 0 where
  pub days : cutover_days x ≡ k
  pub used : days_used k ≡ k
  pub first : (row_of (Standard k)).first ≡ x
  pub last : (row_of (Standard k)).last ≡ last_kept_after (cutover_days x)

used_as_given : (k : ℕ) → allowed_after k ≡ true → days_used k ≡ k
used_as_given zero h = refl
used_as_given (suc k) h = rw h

pub cutover_kept : (k : ℕ) (x : Date) → Carries (Standard k) x → Kept k x
unfolding with_cutover
cutover_kept k x = go (standard_with_lem x)
  where
    go : {a : Result Calendar Refusal} → StandardWith x a → a ≡ Ok (Standard k) → Kept k x
    go (with_allowed h) e =
        let f : cutover_days x ≡ k = cc in
        let w = is_cutover x h in
        let u : days_used k ≡ cutover_days x = ap days_used (sym f) ∙ used_as_given (cutover_days x) w.after in
        record { days = f; used = u ∙ f; first = ap cutover_after u ∙ w.is; last = ap last_kept_after u }
    go (not_allowed h) e = absurd (let z : ◌≡◌ {A = ℕ} 0 1 = cc in omega arith)
