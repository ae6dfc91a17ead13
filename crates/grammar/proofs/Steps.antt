-- What the reader finds, one step of the grammar at a time, in the form in which the code takes the step.
-- A scanner function's proof is one of these laws for each of its returns.
use Prim.Native.Nat.{ℕ, suc, ◌+◌, ◌-◌, ◌*◌, ◌≤◌, ◌<◌}
use native.Mathlib.Omega.{arith}
use native.Mathlib.Numerals.{add-one}
use mathlib.Core.Path.{◌≡◌, refl, ap, ◌∙◌}
use mathlib.Core.Bool.{true, false, cond, ◌||◌}
use mathlib.Core.List.{List, [], ◌∷◌}
use mathlib.Core.Option.{Option, none, some}
use lib.ListN.{length, get_or, drop, drop_of_length-le}
use lib.Seq.{drop-cons}
use borrow.Author.Tests.{le-leb, lt-leb}
use Rattle.grammar.specs.Grammar.{Class, starts, Grammar, one, run, ◌▸◌, ◌or◌, maybe, give}
use Rattle.grammar.specs.Reader.{Scan, found, nothing, front, back, valued, paired, given, nullable, first, scan, whole, read}
use Rattle.grammar.specs.Rules.{◌⇒◌, span, digit, decimal, number, two, either, spelled}
use Rattle.grammar.proofs.Classes.{starts_append, starts_every, front_every}
use Rattle.grammar.proofs.Places.{starts_lt, starts_within, span_parts}

-- ---- one step of each constructor

pub absent : {A : Type 0} (d : A) (g : Grammar A) (x : List ℕ) → starts (first g) x ≡ false → scan (maybe d g) x ≡ found d x
unfolding scan
absent d g x e = rw e

pub present : {A : Type 0} (d : A) (g : Grammar A) (x : List ℕ) → starts (first g) x ≡ true → scan (maybe d g) x ≡ scan g x
unfolding scan
present d g x e = rw e

pub or_first : {A : Type 0} (g h : Grammar A) (x : List ℕ) → starts (first g) x ≡ true → scan (g or h) x ≡ scan g x
unfolding scan
or_first g h x e = rw e

pub or_second : {A : Type 0} (g h : Grammar A) (x : List ℕ) → starts (first g) x ≡ false → scan (g or h) x ≡ scan h x
unfolding scan
or_second g h x e = rw e

pub give_of : {A B : Type 0} (f : A → B) (g : Grammar A) (x : List ℕ) (o : Scan A) → scan g x ≡ o → scan (give f g) x ≡ given f o
unfolding scan
give_of f g x o e = rw e

pub seq : {A B : Type 0} (g : Grammar A) (h : Grammar B) (x y : List ℕ) (a : A) → scan g x ≡ found a y → scan (g ▸ h) x ≡ paired a (scan h y)
unfolding scan
seq g h x y a e = rw e

pub seq_no : {A B : Type 0} (g : Grammar A) (h : Grammar B) (x : List ℕ) → scan g x ≡ nothing → scan (g ▸ h) x ≡ nothing
unfolding scan
seq_no g h x e = rw e

-- ---- a text that is passed over

pub past : {A B : Type 0} (g : Grammar A) (h : Grammar B) (x y : List ℕ) (a : A) → scan g x ≡ found a y → scan (g ⇒ h) x ≡ scan h y
unfolding scan
past {A} {B} g h x y a e = rw e (go (scan h y))
  where
    go : (o : Scan B) → given (λ (v : A × B). v.1) (paired a o) ≡ o
    go nothing = refl
    go (found b r) = refl

pub past_no : {A B : Type 0} (g : Grammar A) (h : Grammar B) (x : List ℕ) → scan g x ≡ nothing → scan (g ⇒ h) x ≡ nothing
unfolding scan
past_no g h x e = rw e

-- ---- one byte

pub one_at : (c : Class) (s : List ℕ) (at : ℕ) → starts c (drop at s) ≡ true → scan (one c) (drop at s) ≡ found (get_or s at 0) (drop (at + 1) s)
unfolding scan
one_at c s at e = rw (add-one, drop-cons s at 0 (starts_lt c s at e), starts_within c s at e)

pub one_no : (c : Class) (x : List ℕ) → starts c x ≡ false → scan (one c) x ≡ nothing
unfolding scan starts
one_no c [] e = refl
one_no c (b ∷ x) e = rw e

-- a byte that is passed over
pub after : {B : Type 0} (c : Class) (h : Grammar B) (s : List ℕ) (at : ℕ) → starts c (drop at s) ≡ true → scan (one c ⇒ h) (drop at s) ≡ scan h (drop (at + 1) s)
after c h s at e = past (one c) h (drop at s) (drop (at + 1) s) (get_or s at 0) (one_at c s at e)

-- a byte that is passed over if it is there
pub skip_yes : {B : Type 0} (d : ℕ) (c : Class) (h : Grammar B) (s : List ℕ) (at : ℕ) → starts c (drop at s) ≡ true → scan (maybe d (one c) ⇒ h) (drop at s) ≡ scan h (drop (at + 1) s)
unfolding first
skip_yes d c h s at e = past (maybe d (one c)) h (drop at s) (drop (at + 1) s) (get_or s at 0) (present d (one c) (drop at s) e ∙ one_at c s at e)

pub skip_no : {B : Type 0} (d : ℕ) (c : Class) (h : Grammar B) (x : List ℕ) → starts c x ≡ false → scan (maybe d (one c) ⇒ h) x ≡ scan h x
unfolding first
skip_no d c h x e = past (maybe d (one c)) h x x d (absent d (one c) x e)

-- ---- a part that a byte announces, `maybe d (one c ⇒ h)`

pub part_absent : {B : Type 0} (d : B) (c : Class) (h : Grammar B) (x : List ℕ) → starts c x ≡ false → scan (maybe d (one c ⇒ h)) x ≡ found d x
unfolding first nullable
part_absent d c h x e = absent d (one c ⇒ h) x e

pub part_present : {B : Type 0} (d : B) (c : Class) (h : Grammar B) (s : List ℕ) (at : ℕ) → starts c (drop at s) ≡ true → scan (maybe d (one c ⇒ h)) (drop at s) ≡ scan h (drop (at + 1) s)
unfolding first nullable
part_present d c h s at e = present d (one c ⇒ h) (drop at s) e ∙ after c h s at e

-- where two texts follow the byte
module _ {A B : Type 0} (d : A × B) (c : Class) (g : Grammar A) (h : Grammar B) (s : List ℕ) (at : ℕ) (t : starts c (drop at s) ≡ true) where
  pub part_no : scan g (drop (at + 1) s) ≡ nothing → scan (maybe d (one c ⇒ g ▸ h)) (drop at s) ≡ nothing
  part_no e = part_present d c (g ▸ h) s at t ∙ seq_no g h (drop (at + 1) s) e

  pub part_is : (a : A) (y : List ℕ) (o : Scan B) → scan g (drop (at + 1) s) ≡ found a y → scan h y ≡ o → scan (maybe d (one c ⇒ g ▸ h)) (drop at s) ≡ paired a o
  part_is a y o e f = part_present d c (g ▸ h) s at t ∙ seq g h (drop (at + 1) s) y a e ∙ ap (paired a) f

-- ---- runs

pub run_empty : {A : Type 0} (h c : Class) (val : List ℕ → Option A) (x : List ℕ) → length (front c x) < 1 → scan (run h c val) x ≡ nothing
unfolding scan starts
run_empty {A} h c val x e = go (front c x) e
  where
    go : (p : List ℕ) → length p < 1 → cond (starts h p) (valued (val p) (back c x)) nothing ≡ nothing
    go [] k = refl
    go (b ∷ p) k = absurd (omega arith)

pub run_no : {A : Type 0} (h c : Class) (val : List ℕ → Option A) (x : List ℕ) → starts h (front c x) ≡ false → scan (run h c val) x ≡ nothing
unfolding scan
run_no h c val x e = rw e

pub run_is : {A : Type 0} (h c : Class) (val : List ℕ → Option A) (x : List ℕ) (o : Option A) → starts h (front c x) ≡ true → val (front c x) ≡ o → scan (run h c val) x ≡ valued o (back c x)
unfolding scan
run_is h c val x o e f = rw (e, f)

-- a run that may start with any byte of its class
pub run_all : {A : Type 0} (c : Class) (val : List ℕ → Option A) (x : List ℕ) (o : Option A) → 1 ≤ length (front c x) → val (front c x) ≡ o → scan (run c c val) x ≡ valued o (back c x)
run_all c val x o l e = run_is c c val x o (starts_every c (front c x) l (front_every c x)) e

-- ---- numbers

pub number_long : (hi : ℕ) (x : List ℕ) → hi < length (front digit x) → scan (number hi) x ≡ nothing
number_long hi x h = run_all digit _ x none (omega arith) (rw (lt-leb (length (front digit x)) hi h))

pub number_is : (hi : ℕ) (x : List ℕ) → 1 ≤ length (front digit x) → length (front digit x) ≤ hi → scan (number hi) x ≡ found (decimal 0 (front digit x)) (back digit x)
number_is hi x h l = run_all digit _ x (some (decimal 0 (front digit x))) h (rw (le-leb (length (front digit x)) hi l))

-- exactly two digits
pub digit_here : (s : List ℕ) (at : ℕ) → starts digit (drop at s) ≡ true → (48 ≤ get_or s at 0) × (get_or s at 0 ≤ 57)
digit_here s at e = span_parts 48 57 (get_or s at 0) (starts_within digit s at e)

pub two_is : (s : List ℕ) (at v : ℕ) → starts digit (drop at s) ≡ true → starts digit (drop (at + 1) s) ≡ true → v ≡ (get_or s at 0 - 48) * 10 + (get_or s (at + 1) 0 - 48) → scan two (drop at s) ≡ found v (drop (at + 2) s)
unfolding scan
two_is s at v e f q =
    let r : v ≡ decimal 0 (get_or s at 0 ∷ get_or s (at + 1) 0 ∷ []) = omega arith in
    let n : at + 2 ≡ at + 1 + 1 = omega arith in
    rw (one_at digit s at e, one_at digit s (at + 1) f, r, n)

pub two_no : (s : List ℕ) (at : ℕ) → starts digit (drop at s) ≡ false → scan two (drop at s) ≡ nothing
unfolding scan
two_no s at e = rw (one_no digit (drop at s) e)

pub two_half : (s : List ℕ) (at : ℕ) → starts digit (drop at s) ≡ true → starts digit (drop (at + 1) s) ≡ false → scan two (drop at s) ≡ nothing
unfolding scan
two_half s at e f = rw (one_at digit s at e, one_no digit (drop (at + 1) s) f)

-- ---- letters and words

pub either_is : (b : ℕ) (x : List ℕ) → starts (either b) x ≡ (starts (span b b) x || starts (span (b + 32) (b + 32)) x)
either_is b x = starts_append (span b b) (span (b + 32) (b + 32)) x

pub word_more : (w s : List ℕ) (i at : ℕ) → i < length w → starts (either (get_or w i 0)) (drop at s) ≡ true → scan (spelled (drop i w)) (drop at s) ≡ scan (spelled (drop (i + 1) w)) (drop (at + 1) s)
word_more w s i at h e = rw (add-one i, drop-cons w i 0 h) (after (either (get_or w i 0)) (spelled (drop (suc i) w)) s at e)

pub word_stop : (w s : List ℕ) (i at : ℕ) → i < length w → starts (either (get_or w i 0)) (drop at s) ≡ false → scan (spelled (drop i w)) (drop at s) ≡ nothing
word_stop w s i at h e = rw (drop-cons w i 0 h) (past_no (one (either (get_or w i 0))) (spelled (drop (suc i) w)) (drop at s) (one_no (either (get_or w i 0)) (drop at s) e))

pub word_end : (w x : List ℕ) (i : ℕ) → length w ≤ i → scan (spelled (drop i w)) x ≡ found tt x
unfolding scan
word_end w x i h = rw (drop_of_length-le w h)

-- ---- whole texts

pub read_no : {A : Type 0} (g : Grammar A) (s : List ℕ) → scan g s ≡ nothing → read g s ≡ none
unfolding read whole
read_no g s e = rw e

pub read_part : {A : Type 0} (g : Grammar A) (s : List ℕ) (v : A) (e : ℕ) → scan g s ≡ found v (drop e s) → e < length s → read g s ≡ none
unfolding read whole
read_part g s v e p h = rw p (rw (drop-cons s e 0 h))

pub read_all : {A : Type 0} (g : Grammar A) (s : List ℕ) (v : A) (e : ℕ) → scan g s ≡ found v (drop e s) → length s ≤ e → read g s ≡ some v
unfolding read whole
read_all g s v e p h = rw p (rw (drop_of_length-le s h))
