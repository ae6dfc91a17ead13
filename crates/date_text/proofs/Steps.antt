-- The steps of the date rule that are its own, in the form in which the code takes them.
use Prim.Native.Nat.{ℕ, ◌+◌, ◌-◌, ◌*◌, ◌^◌, ◌≤◌, ◌<◌}
use native.Mathlib.Omega.{arith}
use mathlib.Core.Path.{◌≡◌, ◌∙◌}
use mathlib.Core.Bool.{Bool, true, false}
use mathlib.Core.List.{List, [], ◌∷◌}
use mathlib.Core.Option.{none, some}
use lib.Dec.{eqb}
use lib.ListN.{length, get_or, drop}
use borrow.Author.Tests.{le-leb, lt-leb}
use Rattle.grammar.specs.Grammar.{Class, starts, one, ◌▸◌, ◌or◌, maybe, give}
use Rattle.grammar.specs.Reader.{Scan, found, nothing, front, back, paired, given, nullable, first, scan}
use Rattle.grammar.specs.Rules.{◌⇒◌, span, any_of, digit, decimal, number, two, either}
use Rattle.grammar.proofs.Tests.{or_left, or_right}
use Rattle.grammar.proofs.Classes.{starts_append}
use Rattle.grammar.proofs.Steps.{absent, present, or_first, or_second, give_of, one_at, one_no, skip_yes, skip_no, part_absent, part_present, run_all}
use Rattle.date_text.specs.declared.Zone.{Zone}
use Rattle.date_text.specs.declared.Time.{Time}
use Rattle.date_text.specs.DateRule.{sign, utc, zone_minutes, zone_of, zone_offset, utc_name, zone_name, zone, fraction, minute_part, zone_part, time_parts, midnight, time_part, month_part, date_parts, date_rule}

abbrev signs : Class
signs = any_of (43 ∷ 45 ∷ [])

-- ---- decimal places

pub fraction_long : (x : List ℕ) → 6 < length (front digit x) → scan fraction x ≡ nothing
fraction_long x h = run_all digit _ x none (omega arith) (rw (lt-leb (length (front digit x)) 6 h))

pub fraction_is : (x : List ℕ) → 1 ≤ length (front digit x) → length (front digit x) ≤ 6 → scan fraction x ≡ found (decimal 0 (front digit x) * 10 ^ (6 - length (front digit x))) (back digit x)
fraction_is x h l = run_all digit _ x (some (decimal 0 (front digit x) * 10 ^ (6 - length (front digit x)))) h (rw (le-leb (length (front digit x)) 6 l))

-- ---- zones

abbrev colon : Class
colon = span 58 58

pub zone_minutes_colon : (s : List ℕ) (at : ℕ) → starts colon (drop at s) ≡ true → scan zone_minutes (drop at s) ≡ scan two (drop (at + 1) s)
unfolding first nullable
zone_minutes_colon s at e =
    present 0 (maybe 0 (one colon) ⇒ two) (drop at s) (starts_append colon digit (drop at s) ∙ or_left _ e)
    ∙ skip_yes 0 colon two s at e

pub zone_minutes_digits : (x : List ℕ) → starts colon x ≡ false → starts digit x ≡ true → scan zone_minutes x ≡ scan two x
unfolding first nullable
zone_minutes_digits x e f =
    present 0 (maybe 0 (one colon) ⇒ two) x (starts_append colon digit x ∙ or_right (starts colon x) f)
    ∙ skip_no 0 colon two x e

pub zone_minutes_none : (x : List ℕ) → starts colon x ≡ false → starts digit x ≡ false → scan zone_minutes x ≡ found 0 x
unfolding first nullable
zone_minutes_none x e f = absent 0 (maybe 0 (one colon) ⇒ two) x (starts_append colon digit x ∙ rw e f)

-- the sign of a zone and of a date
sign_at : (s : List ℕ) (at : ℕ) → starts signs (drop at s) ≡ true → scan sign (drop at s) ≡ found (eqb (get_or s at 0) 45) (drop (at + 1) s)
sign_at s at e = give_of (λ (b : ℕ). eqb b 45) (one signs) (drop at s) _ (one_at signs s at e)

pub offset_none : (x : List ℕ) → starts signs x ≡ false → scan zone_offset x ≡ nothing
unfolding scan
offset_none x e = rw (one_no signs x e)

module _ (s : List ℕ) (at : ℕ) (t : starts signs (drop at s) ≡ true) where
  pub offset_no : scan two (drop (at + 1) s) ≡ nothing → scan zone_offset (drop at s) ≡ nothing
  unfolding scan
  offset_no e = rw (sign_at s at t, e)

  pub offset_is : (h : ℕ) (y : List ℕ) (o : Scan ℕ) → scan two (drop (at + 1) s) ≡ found h y → scan zone_minutes y ≡ o → scan zone_offset (drop at s) ≡ given zone_of (paired (eqb (get_or s at 0) 45) (paired h o))
  unfolding scan
  offset_is h y o e f = rw (sign_at s at t, e, f)

-- names of UTC, by their first letter
abbrev name_z : List ℕ
name_z = 90 ∷ []

abbrev name_utc : List ℕ
name_utc = 85 ∷ 84 ∷ 67 ∷ []

abbrev name_gmt : List ℕ
name_gmt = 71 ∷ 77 ∷ 84 ∷ []

pub name_z_lem : (x : List ℕ) → starts (either 90) x ≡ true → scan zone_name x ≡ scan (utc_name name_z) x
unfolding first nullable
name_z_lem x e = or_first (utc_name name_z) (utc_name name_utc or utc_name name_gmt) x e

pub name_u : (x : List ℕ) → starts (either 90) x ≡ false → starts (either 85) x ≡ true → scan zone_name x ≡ scan (utc_name name_utc) x
unfolding first nullable
name_u x e f = or_second (utc_name name_z) (utc_name name_utc or utc_name name_gmt) x e ∙ or_first (utc_name name_utc) (utc_name name_gmt) x f

pub name_g : (x : List ℕ) → starts (either 90) x ≡ false → starts (either 85) x ≡ false → scan zone_name x ≡ scan (utc_name name_gmt) x
unfolding first nullable
name_g x e f = or_second (utc_name name_z) (utc_name name_utc or utc_name name_gmt) x e ∙ or_second (utc_name name_utc) (utc_name name_gmt) x f

pub body_sign : (x : List ℕ) → starts signs x ≡ true → scan (zone_offset or zone_name) x ≡ scan zone_offset x
unfolding first nullable
body_sign x e = or_first zone_offset zone_name x e

pub body_name : (x : List ℕ) → starts signs x ≡ false → scan (zone_offset or zone_name) x ≡ scan zone_name x
unfolding first nullable
body_name x e = or_second zone_offset zone_name x e

abbrev zone_first : Class
zone_first = any_of (32 ∷ 43 ∷ 45 ∷ 90 ∷ 122 ∷ 85 ∷ 117 ∷ 71 ∷ 103 ∷ [])

pub zone_yes : (x : List ℕ) → starts zone_first x ≡ true → scan zone_part x ≡ scan zone x
unfolding first nullable
zone_yes x e = present utc zone x e

pub zone_no : (x : List ℕ) → starts zone_first x ≡ false → scan zone_part x ≡ found utc x
unfolding first nullable
zone_no x e = absent utc zone x e

-- ---- times

abbrev time_first : Class
time_first = any_of (84 ∷ 32 ∷ [])

pub time_none : (x : List ℕ) → starts time_first x ≡ false → scan time_part x ≡ found midnight x
time_none x e = part_absent midnight time_first (give time_parts (number 2 ▸ minute_part ▸ zone_part)) x e

module _ (s : List ℕ) (at : ℕ) (t : starts time_first (drop at s) ≡ true) where
  clock : scan time_part (drop at s) ≡ scan (give time_parts (number 2 ▸ minute_part ▸ zone_part)) (drop (at + 1) s)
  clock = part_present midnight time_first (give time_parts (number 2 ▸ minute_part ▸ zone_part)) s at t

  pub time_no : scan (number 2) (drop (at + 1) s) ≡ nothing → scan time_part (drop at s) ≡ nothing
  unfolding scan
  time_no e = clock ∙ rw e

  pub time_half : (h : ℕ) (y : List ℕ) → scan (number 2) (drop (at + 1) s) ≡ found h y → scan minute_part y ≡ nothing → scan time_part (drop at s) ≡ nothing
  unfolding scan
  time_half h y e f = clock ∙ rw (e, f)

  pub time_is : (h : ℕ) (y : List ℕ) (m : ℕ × (ℕ × ℕ)) (z : List ℕ) (o : Scan Zone) → scan (number 2) (drop (at + 1) s) ≡ found h y → scan minute_part y ≡ found m z → scan zone_part z ≡ o → scan time_part (drop at s) ≡ given time_parts (paired h (paired m o))
  unfolding scan
  time_is h y m z o e f g = clock ∙ rw (e, f, g)

-- ---- dates

pub year_no : (b : Bool) (x : List ℕ) → scan (number 4) x ≡ nothing → given date_parts (paired b (scan (number 4 ▸ month_part) x)) ≡ nothing
unfolding scan
year_no b x e = rw e

pub year_is : (b : Bool) (x y : List ℕ) (n : ℕ) (o : Scan (ℕ × (ℕ × Time))) → scan (number 4) x ≡ found n y → scan month_part y ≡ o → given date_parts (paired b (scan (number 4 ▸ month_part) x)) ≡ given date_parts (paired b (paired n o))
unfolding scan
year_is b x y n o e f = rw (e, f)

date_from : (x y : List ℕ) (b : Bool) → scan (maybe false sign) x ≡ found b y → scan date_rule x ≡ given date_parts (paired b (scan (number 4 ▸ month_part) y))
unfolding scan
date_from x y b e = rw e

pub date_signed : (s : List ℕ) (at : ℕ) → starts signs (drop at s) ≡ true → scan date_rule (drop at s) ≡ given date_parts (paired (eqb (get_or s at 0) 45) (scan (number 4 ▸ month_part) (drop (at + 1) s)))
unfolding first
date_signed s at e = date_from (drop at s) (drop (at + 1) s) (eqb (get_or s at 0) 45) (present false sign (drop at s) e ∙ sign_at s at e)

pub date_plain : (x : List ℕ) → starts signs x ≡ false → scan date_rule x ≡ given date_parts (paired false (scan (number 4 ▸ month_part) x))
unfolding first
date_plain x e = date_from x x false (absent false sign x e)
