-- The two passes over a run, one element more at a time. The elements are of any kind, and `refusal` and `read` are any functions of them.
use Rattle.std.specs.Prelude.{Result, Ok, Err}
use mathlib.Core.Path.{◌≡◌, refl, sym, ap, ◌∙◌, subst}
use mathlib.Core.Bool.{Bool, true, false, cond, false≢true}
use mathlib.Core.List.{List, [], ◌∷◌, ◌++◌, map}
use mathlib.Core.Option.{Option, none, some}
use Prim.Native.Nat.{ℕ, zero, suc, ◌+◌, ◌≤◌, ◌<◌}
use native.Mathlib.Nat.{not-suc-le-zero, le_of_suc-le-suc}
use native.Mathlib.Numerals.{add-one}
use native.Mathlib.Omega.{arith}
use lib.Dec.{ltb}
use lib.IntN.{ℤ}
use lib.ListN.{length, take, drop, get_or, set, length-set, drop_of_length-le}
use lib.Seq.{drop-cons, take_all}
use mir.Syntax.{w64}
use mir.Val.{SFits, to_z, of_z}
use mir.ValLaws.{to_z-of_z}
use borrow.Author.Tests.{ltb-false, lt-ltb, le-ltb}
use Rattle.refusal.specs.declared.Refusal.{Refusal}
use Rattle.refusal.specs.declared.Refusal.TheVariants.{NoRoom}
use Rattle.axis_types.specs.Reading.{is_none, is_read, instant_of, refusal_of, with_days_back, Reading}
use Rattle.axis_types.specs.declared.OffsetReading.{OffsetReading}
use Rattle.axis.specs.Axis.{on_good}
use Rattle.std.specs.List.{AllZip}
use Rattle.std.proofs.lemmas.List.{take_more, length-take-le}
use Rattle.std.proofs.lemmas.Slice.Zip.{AllZip-long, all_zipped_more}
use Rattle.run_ends.specs.Each.{Each}
use Rattle.runs.specs.Passes.{Written}
use Rattle.runs.specs.Run.{after, first_refused, mark_of, checked, rounded_count, overlaid, checked_first, Check, refused_at}

-- the check of a run whose first i offsets are read
abbrev pub from : ℕ → Check → Check
from i (Ok tt) = Ok tt
from i (Err e) = refused_at e.refusal (i + e.place)

from_none : (s : Check) → s ≡ from 0 s
from_none (Ok tt) = refl
from_none (Err e) = ap (refused_at e.refusal) (omega arith)

from_read : (i : ℕ) (s : Check) → from i (after none s) ≡ from (i + 1) s
from_read i (Ok tt) = refl
from_read i (Err e) = ap (refused_at e.refusal) (omega arith)

pub mark_le : (r : Reading) → mark_of r ≤ 1
mark_le (Ok (z, true)) = omega arith
mark_le (Ok (z, false)) = omega arith
mark_le (Err r) = omega arith

-- ---- the pass that checks
-- the first i elements are not refused
pub record Checking {A : Type 0} (refusal : A → Option Refusal) (xs : List A) (i : ℕ) : Type 0 where
  pub within : i ≤ length xs
  pub so_far : first_refused refusal xs ≡ from i (first_refused refusal (drop i xs))

module _ {A : Type 0} {refusal : A → Option Refusal} {xs : List A} where
  pub checking_starts : Checking refusal xs 0
  checking_starts = record { within = omega arith; so_far = from_none (first_refused refusal xs) }

  module _ {i : ℕ} (d : A) (k : Checking refusal xs i) (h : i < length xs) where
    checking_at : (o : Option Refusal) → refusal (get_or xs i d) ≡ o → first_refused refusal xs ≡ from i (after o (first_refused refusal (drop (i + 1) xs)))
    unfolding first_refused
    checking_at o e =
        let next : first_refused refusal (drop i xs) ≡ after (refusal (get_or xs i d)) (first_refused refusal (drop (i + 1) xs)) = rw (add-one, drop-cons xs i d) in
        k.so_far ∙ ap (from i) (next ∙ ap (λ (q : Option Refusal). after q (first_refused refusal (drop (i + 1) xs))) e)

    pub checking_on : refusal (get_or xs i d) ≡ none → Checking refusal xs (i + 1)
    checking_on e = record { within = omega arith; so_far = checking_at none e ∙ from_read i (first_refused refusal (drop (i + 1) xs)) }

    pub checking_stops : {r : Refusal} → refusal (get_or xs i d) ≡ some r → refused_at r i ≡ first_refused refusal xs
    checking_stops {r} e = sym (checking_at (some r) e ∙ ap (refused_at r) (omega arith))

  pub checking_ends : {i : ℕ} → Checking refusal xs i → length xs ≤ i → (Ok tt) ≡ first_refused refusal xs
  unfolding first_refused
  checking_ends {i} k h = sym (k.so_far ∙ ap (λ (l : List A). from i (first_refused refusal l)) (drop_of_length-le xs h))

-- what is refused of an offset that is read alone
abbrev pub refusal_in : Result OffsetReading Refusal → Option Refusal
refusal_in (Ok a) = none
refusal_in (Err r) = some r

refusal_alone : (r : Reading) (k : ℕ) → refusal_in (with_days_back r k) ≡ refusal_of r
refusal_alone (Ok (t, exact)) k = refl
refusal_alone (Err r) k = refl

pub told_alone : (r : Reading) (k : ℕ) {a b : Result OffsetReading Refusal} → a ≡ with_days_back r k → a ≡ b → refusal_of r ≡ refusal_in b
told_alone r k e f = sym (refusal_alone r k) ∙ ap refusal_in (sym e ∙ f)

-- ---- what is read: what is not refused
was_none : (o : Option Refusal) → is_none o ≡ true → o ≡ none
was_none none h = refl
was_none (some r) h = absurd (false≢true h)

-- where nothing is refused, each is read
both_none : (o : Option Refusal) (s : Check) → after o s ≡ Ok tt → (is_none o ≡ true) × (s ≡ Ok tt)
both_none none (Ok tt) h = (refl, refl)
both_none none (Err e) h = absurd (let k : ◌≡◌ {A = ℕ} 0 1 = cc in omega arith)
both_none (some r) s h = absurd (let k : ◌≡◌ {A = ℕ} 0 1 = cc in omega arith)

module _ {A : Type 0} (refusal : A → Option Refusal) where
  pub each_read : (xs : List A) → Each (λ (x : A). is_none (refusal x) ≡ true) xs → (Ok tt) ≡ first_refused refusal xs
  unfolding first_refused
  each_read [] h = refl
  each_read (x ∷ xs) h = λ i. after (sym (was_none (refusal x) h.0) i) (each_read xs h.1 i)

  -- the first refusal, after elements that are not refused
  pub first_refused_lem : (ys : List A) (y : A) (zs : List A) (r : Refusal) → Each (λ (x : A). is_none (refusal x) ≡ true) ys → refusal y ≡ some r → refused_at r (length ys) ≡ first_refused refusal (ys ++ y ∷ zs)
  unfolding first_refused
  first_refused_lem [] y zs r h e = λ i. after (sym e i) (first_refused refusal zs)
  first_refused_lem (x ∷ ys) y zs r h e = λ i. after (sym (was_none (refusal x) h.0) i) (first_refused_lem ys y zs r h.1 e i)

  pub each_checked : (xs : List A) → first_refused refusal xs ≡ Ok tt → Each (λ (x : A). is_none (refusal x) ≡ true) xs
  unfolding first_refused
  each_checked [] e = tt
  each_checked (x ∷ xs) e = let b = both_none (refusal x) (first_refused refusal xs) e in (b.0, each_checked xs b.1)

  -- the one at each place
  pub read_at : (d : A) (xs : List A) (i : ℕ) → first_refused refusal xs ≡ Ok tt → i < length xs → is_none (refusal (get_or xs i d)) ≡ true
  unfolding first_refused
  read_at d [] i e h = absurd (not-suc-le-zero h)
  read_at d (x ∷ xs) zero e h = (both_none (refusal x) (first_refused refusal xs) e).0
  read_at d (x ∷ xs) (suc i) e h = read_at d xs i (both_none (refusal x) (first_refused refusal xs) e).1 (le_of_suc-le-suc h)

-- ---- the pass that writes
module _ {A : Type 0} (read : A → Reading) where
  rounded_on : (d : A) (xs : List A) (k : ℕ) → k < length xs → rounded_count read (take (suc k) xs) ≡ rounded_count read (take k xs) + mark_of (read (get_or xs k d))
  unfolding rounded_count
  rounded_on d [] k h = absurd (not-suc-le-zero h)
  rounded_on d (x ∷ xs) zero h = omega arith
  rounded_on d (x ∷ xs) (suc k) h = let e = rounded_on d xs k (le_of_suc-le-suc h) in omega arith

  -- a reading that rounds nothing
  pub none_rounded : ((x : A) → mark_of (read x) ≡ 0) → (xs : List A) → rounded_count read xs ≡ 0
  unfolding rounded_count
  none_rounded f [] = refl
  none_rounded f (x ∷ xs) = λ i. f x i + none_rounded f xs i

  put : (d : A) (xs : List A) (ds : List ℤ) (k : ℕ) → k < length xs → length xs ≤ length ds → set (map (λ (x : A). instant_of (read x)) (take k xs) ++ drop k ds) k (instant_of (read (get_or xs k d))) ≡ map (λ (x : A). instant_of (read x)) (take (suc k) xs) ++ drop (suc k) ds
  put d [] ds k h l = absurd (not-suc-le-zero h)
  put d (x ∷ xs) [] k h l = absurd (not-suc-le-zero l)
  put d (x ∷ xs) (y ∷ ds) zero h l = refl
  put d (x ∷ xs) (y ∷ ds) (suc k) h l = ap (λ (t : List ℤ). instant_of (read x) ∷ t) (put d xs ds k (le_of_suc-le-suc h) (le_of_suc-le-suc l))

-- ---- what calls wrote, one more at a time
put_next : (ts ds : List ℤ) (t : ℤ) → length ts < length ds → set (ts ++ drop (length ts) ds) (length ts) t ≡ (ts ++ t ∷ []) ++ drop (suc (length ts)) ds
put_next [] [] t h = absurd (not-suc-le-zero h)
put_next [] (d ∷ ds) t h = refl
put_next (x ∷ ts) [] t h = absurd (not-suc-le-zero h)
put_next (x ∷ ts) (d ∷ ds) t h = ap (λ (s : List ℤ). x ∷ s) (put_next ts ds t (le_of_suc-le-suc h))

module _ {A : Type 0} (gave : A → ℤ → Type 0) where
  pub written_on : (xs : List A) (ds now : List ℤ) (i : ℕ) (x : A) (t : ℤ) → i < length xs → length xs ≤ length ds → x ≡ get_or xs i x → Written gave (take i xs) ds now → gave x t → Written gave (take (i + 1) xs) ds (set now i t)
  written_on xs ds now i x t h room at w f =
      let ts = w.0 in
      let even : length ts ≡ length (take i xs) = AllZip-long gave (take i xs) ts w.1 in
      let long : length ts ≡ i = even ∙ length-take-le i xs (omega arith) in
      let next : suc (length ts) ≡ length (take (i + 1) xs) = omega (arith, long, length-take-le (i + 1) xs (omega arith)) in
      let more : take i xs ++ x ∷ [] ≡ take (i + 1) xs = ap (λ (y : A). take i xs ++ y ∷ []) at ∙ sym (take_more xs i x h) in (
        ts ++ t ∷ [],
        subst (λ (l : List A). AllZip gave l (ts ++ t ∷ [])) more (all_zipped_more gave (take i xs) ts x t w.1 f),
        (λ j. set (w.2 j) i t)
            ∙ ((λ j. set (ts ++ drop (sym even j) ds) (sym long j) t) ∙ (put_next ts ds t (omega (arith, long)) ∙ (λ j. (ts ++ t ∷ []) ++ drop (next j) ds))),
      )

  module _ (read : A → Reading) (f : (x : A) (t : ℤ) → is_read (read x) ≡ true → gave x t → t ≡ instant_of (read x)) where
    all_given : (xs : List A) (ts : List ℤ) → checked read xs ≡ Ok tt → AllZip gave xs ts → ts ≡ map (λ (x : A). instant_of (read x)) xs
    unfolding first_refused
    all_given [] [] e z = refl
    all_given [] (t ∷ ts) e z = absurd z
    all_given (x ∷ xs) [] e z = absurd z
    all_given (x ∷ xs) (t ∷ ts) e z = let b = both_none (refusal_of (read x)) (checked read xs) e in λ i. f x t b.0 z.0 i ∷ all_given xs ts b.1 z.1 i

    pub written_all : (xs : List A) (ds now : List ℤ) → checked read xs ≡ Ok tt → Written gave xs ds now → now ≡ overlaid read xs ds
    unfolding overlaid
    written_all xs ds now e w = w.2 ∙ ap (λ (ts : List ℤ). ts ++ drop (length xs) ds) (all_given xs w.0 e w.1)

-- the first i instants stand in now, which was ds
pub record Writing {A : Type 0} (read : A → Reading) (xs : List A) (ds now : List ℤ) (i : ℕ) : Type 0 where
  pub all_read : checked read xs ≡ Ok tt
  pub within : i ≤ length xs
  pub room : length xs ≤ length ds
  pub same_room : length now ≡ length ds
  pub holds : now ≡ map (λ (x : A). instant_of (read x)) (take i xs) ++ drop i ds

module _ {A : Type 0} {read : A → Reading} {xs : List A} {ds : List ℤ} where
  pub writing_starts : length xs ≤ length ds → checked read xs ≡ Ok tt → Writing read xs ds ds 0
  writing_starts h e = record { all_read = e; within = omega arith; room = h; same_room = refl; holds = refl }

  module _ {now : List ℤ} {i : ℕ} (d : A) (w : Writing read xs ds now i) (h : i < length xs) where
    pub writing_read : is_read (read (get_or xs i d)) ≡ true
    writing_read = read_at _ d xs i w.all_read h

    -- one instant more, as it is stored
    pub writing_on : {t : ℤ} → SFits w64 t → t ≡ instant_of (read (get_or xs i d)) → Writing read xs ds (set now i (to_z w64 (of_z w64 t))) (i + 1)
    writing_on {t} f e =
        record {
          all_read = w.all_read;
          within = omega arith;
          room = w.room;
          same_room = length-set now i (to_z w64 (of_z w64 t)) ∙ w.same_room;
          holds = (λ j. set (w.holds j) i ((to_z-of_z w64 t f ∙ e) j)) ∙ (put read d xs ds i h w.room ∙ ap (λ (k : ℕ). map (λ (x : A). instant_of (read x)) (take k xs) ++ drop k ds) (sym (add-one i)));
        }

  pub writing_ends : {now : List ℤ} {i : ℕ} → Writing read xs ds now i → length xs ≤ i → now ≡ overlaid read xs ds
  unfolding overlaid
  writing_ends {now} {i} w h =
      let e : i ≡ length xs = omega (arith, w.within) in
      w.holds ∙ (λ j. map (λ (x : A). instant_of (read x)) (take_all i xs h j) ++ drop (e j) ds)

-- n of the first i offsets are rounded
pub record Counting {A : Type 0} (read : A → Reading) (xs : List A) (n i : ℕ) : Type 0 where
  pub counts : n ≡ rounded_count read (take i xs)
  pub few : n ≤ i

module _ {A : Type 0} {read : A → Reading} {xs : List A} where
  pub counting_starts : Counting read xs 0 0
  unfolding rounded_count
  counting_starts = record { counts = refl; few = omega arith }

  pub counting_on : {n i : ℕ} (d : A) {m : ℕ} → Counting read xs n i → i < length xs → m ≡ mark_of (read (get_or xs i d)) → Counting read xs (n + m) (i + 1)
  counting_on {n} {i} d {m} c h f =
      record {
        counts = (λ j. c.counts j + f j) ∙ (sym (rounded_on read d xs i h) ∙ ap (λ (k : ℕ). rounded_count read (take k xs)) (sym (add-one i)));
        few = let q = mark_le (read (get_or xs i d)) in omega (arith, c.few);
      }

  pub counting_ends : {n i : ℕ} → Counting read xs n i → length xs ≤ i → n ≡ rounded_count read xs
  counting_ends {n} {i} c h = c.counts ∙ ap (rounded_count read) (take_all i xs h)

-- ---- the whole run
module _ (check : Result (Unit {0}) Refusal) (n room : ℕ) where
  pub refused_first : (r : Refusal) (offsets : Check) → check ≡ Err r → refused_at r 0 ≡ checked_first check n room offsets
  unfolding checked_first
  refused_first r offsets e = λ i. on_good (sym e i) (λ r. refused_at r 0) (cond (ltb room n) (refused_at NoRoom 0) offsets)

  by_room : (b : Bool) (offsets : Check) → check ≡ Ok tt → ltb room n ≡ b → cond b (refused_at NoRoom 0) offsets ≡ checked_first check n room offsets
  unfolding checked_first
  by_room b offsets e f = λ i. on_good (sym e i) (λ r. refused_at r 0) (cond (sym f i) (refused_at NoRoom 0) offsets)

  pub short_room : (offsets : Check) → check ≡ Ok tt → room < n → refused_at NoRoom 0 ≡ checked_first check n room offsets
  short_room offsets e h = by_room true offsets e (lt-ltb room n h)

  pub in_room : (offsets : Check) → check ≡ Ok tt → n ≤ room → offsets ≡ checked_first check n room offsets
  in_room offsets e h = by_room false offsets e (le-ltb room n h)

  -- where nothing is refused, the axis is good, there is room, and every offset is read
  pub record Passed (offsets : Check) : Type 0 where
    pub good : check ≡ Ok tt
    pub fits : n ≤ room
    pub all_read : offsets ≡ Ok tt

  pub passed : (offsets : Check) → checked_first check n room offsets ≡ Ok tt → Passed offsets
  unfolding checked_first
  passed offsets e = go check (ltb room n) refl refl e
    where
      go : (a : Result (Unit {0}) Refusal) (t : Bool) → check ≡ a → ltb room n ≡ t → on_good a (λ r. refused_at r 0) (cond t (refused_at NoRoom 0) offsets) ≡ Ok tt → Passed offsets
      go (Err r) t f g h = absurd (let k : ◌≡◌ {A = ℕ} 0 1 = cc in omega arith)
      go (Ok tt) true f g h = absurd (let k : ◌≡◌ {A = ℕ} 0 1 = cc in omega arith)
      go (Ok tt) false f g h = record { good = f; fits = ltb-false room n g; all_read = h }
