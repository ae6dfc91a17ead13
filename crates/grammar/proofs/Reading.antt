-- THE THEOREM, for every clear grammar: the reader gives a text a value exactly where the grammar derives the text with it.
-- Rely on the five laws at the end: `reads`, `derives`, `single`, `refused`, `underived`.
use Prim.Native.Nat.{ℕ}
use mathlib.Core.Path.{◌≡◌, refl, sym, ap, subst, ◌∙◌}
use mathlib.Core.Bool.{Bool, true, false, ◌&&◌, not, cond}
use mathlib.Core.List.{List, [], ◌∷◌, ◌++◌, append_assoc, append-nil}
use mathlib.Core.Option.{Option, none, some}
use mathlib.Core.Logic.{inl, inr}
use Rattle.grammar.specs.Grammar.{within, every, starts, Grammar, empty, one, run, ◌▸◌, ◌or◌, maybe, give, Derives}
use Rattle.grammar.specs.Reader.{Scan, found, nothing, front, back, valued, then, paired, given, nullable, first, scan, whole, read}
use Rattle.grammar.specs.Clear.{extends, apart, clear}
use Rattle.grammar.proofs.Tests.{clash, none_some, nothing_found, nil_cons, and_parts, or_left, or_right, not_so, so_not}
use Rattle.grammar.proofs.Classes.{within_append, starts_neither, apart_never, front_run, back_run, front_back, front_every}

-- ---- what a derived text starts with, and what may follow it

-- a grammar that derives the empty text says so
nulls : {A : Type 0} (g : Grammar A) (s : List ℕ) (v : A) → s ≡ [] → Derives g s v → nullable g ≡ true
unfolding Derives nullable starts
nulls empty s v e d = refl
nulls (one c) s v e d = nil_cons (sym e ∙ d.0)
nulls (run h c val) s v e (w, d, x) = clash (rw e at w) refl
nulls (g ▸ h) s v e (p, q, f, dg, dh) = go p q (sym f ∙ e) (λ x. nulls g p v.0 x dg) (λ x. nulls h q v.1 x dh)
  where
    go : (p q : List ℕ) → p ++ q ≡ [] → (p ≡ [] → nullable g ≡ true) → (q ≡ [] → nullable h ≡ true) → (nullable g && nullable h) ≡ true
    go [] q x a b = rw (a refl) (b x)
    go (y ∷ p) q x a b = nil_cons (sym x)
nulls (g or h) s v e (inl d) = or_left (nullable h) (nulls g s v e d)
nulls (g or h) s v e (inr d) = or_right (nullable g) (nulls h s v e d)
nulls (maybe x g) s v e d = refl
nulls (give f g) s v e (a, d, x) = nulls g s a e d

-- the first byte of a derived text is among the bytes that it can start with
firsts : {A : Type 0} (g : Grammar A) (b : ℕ) (r s : List ℕ) (v : A) → s ≡ b ∷ r → Derives g s v → within (first g) b ≡ true
unfolding Derives first every starts
firsts empty b r s v e d = nil_cons (sym d ∙ e)
firsts (one c) b r s v e d = let z : v ≡ b = cc in rw (← z) d.1
firsts (run h c val) b r s v e (w, d, x) = rw e at w
firsts (g ▸ h) b r s v e (p, q, f, dg, dh) =
    go p (sym f ∙ e) (λ x. nulls g p v.0 x dg) (λ p2 x. firsts g b p2 p v.0 x dg) (λ x. firsts h b r q v.1 x dh)
  where
    both : (t : Bool) → within (first g) b ≡ true → within (cond t (first g ++ first h) (first g)) b ≡ true
    both true w = within_append (first g) (first h) b ∙ or_left (within (first h) b) w
    both false w = w

    go : (p : List ℕ) → p ++ q ≡ b ∷ r → (p ≡ [] → nullable g ≡ true) → ((p2 : List ℕ) → p ≡ b ∷ p2 → within (first g) b ≡ true) → (q ≡ b ∷ r → within (first h) b ≡ true) → within (cond (nullable g) (first g ++ first h) (first g)) b ≡ true
    go [] x m k l = rw (m refl) (within_append (first g) (first h) b ∙ or_right (within (first g) b) (l x))
    go (y ∷ p) x m k l = both (nullable g) (k p (let z : y ≡ b = cc in rw z))
firsts (g or h) b r s v e (inl d) = within_append (first g) (first h) b ∙ or_left (within (first h) b) (firsts g b r s v e d)
firsts (g or h) b r s v e (inr d) = within_append (first g) (first h) b ∙ or_right (within (first g) b) (firsts h b r s v e d)
firsts (maybe x g) b r s v e (inl d) = nil_cons (sym d.0 ∙ e)
firsts (maybe x g) b r s v e (inr d) = firsts g b r s v e d
firsts (give f g) b r s v e (a, d, x) = firsts g b r s a e d

-- a text that a grammar without the empty text derives starts with one of the grammar's first bytes, and with none that is apart from them
begins : {A : Type 0} (g : Grammar A) (p r : List ℕ) (v : A) → nullable g ≡ false → Derives g p v → starts (first g) (p ++ r) ≡ true
unfolding starts
begins g [] r v n d = clash (nulls g [] v refl d) n
begins g (b ∷ p) r v n d = firsts g b p (b ∷ p) v refl d

begins_not : {A B : Type 0} (g : Grammar A) (h : Grammar B) (p r : List ℕ) (v : B) → nullable h ≡ false → apart (first g) (first h) ≡ true → Derives h p v → starts (first g) (p ++ r) ≡ false
unfolding starts
begins_not g h [] r v n x d = clash (nulls h [] v refl d) n
begins_not g h (b ∷ p) r v n x d = so_not _ (λ w. apart_never (first g) (first h) b x w (firsts h b p (b ∷ p) v refl d))

-- what follows the first of two texts does not extend it
follows : {A B : Type 0} (g : Grammar A) (h : Grammar B) (q r : List ℕ) (v : B) → apart (extends g) (first h) ≡ true → Derives h q v → starts (extends (g ▸ h)) r ≡ false → starts (extends g) (q ++ r) ≡ false
unfolding starts extends
follows g h [] r v x d e = go (nullable h) (nulls h [] v refl d) e
  where
    go : (t : Bool) → t ≡ true → starts (cond t (extends g ++ extends h) (extends h)) r ≡ false → starts (extends g) r ≡ false
    go true y w = (starts_neither (extends g) (extends h) r w).0
    go false y w = clash y refl
follows g h (b ∷ q) r v x d e = so_not _ (λ w. apart_never (extends g) (first h) b x w (firsts h b q (b ∷ q) v refl d))

ends_second : {A B : Type 0} (g : Grammar A) (h : Grammar B) (r : List ℕ) → starts (extends (g ▸ h)) r ≡ false → starts (extends h) r ≡ false
unfolding extends
ends_second g h r e = go (nullable h) e
  where
    go : (t : Bool) → starts (cond t (extends g ++ extends h) (extends h)) r ≡ false → starts (extends h) r ≡ false
    go true w = (starts_neither (extends g) (extends h) r w).1
    go false w = w

-- ---- the reader finds what a clear grammar derives

complete : {A : Type 0} (g : Grammar A) (p r : List ℕ) (v : A) → clear g ≡ true → Derives g p v → starts (extends g) r ≡ false → scan g (p ++ r) ≡ found v r
unfolding clear Derives extends scan
complete empty p r v k d e = rw d
complete (one c) p r v k d e = rw d.0 (rw d.1)
complete (run h c val) p r v k (w, d, x) e = rw (front_run c p r d e, back_run c p r d e, w, x)
complete (g ▸ h) p r v k (p1, p2, f, dg, dh) e =
    let ks = and_parts (clear g) (clear h && apart (extends g) (first h)) k in
    let kh = and_parts (clear h) (apart (extends g) (first h)) ks.1 in
    rw (
      f,
      append_assoc p1 p2 r,
      complete g p1 (p2 ++ r) v.0 ks.0 dg (follows g h p2 r v.1 kh.1 dh e),
      complete h p2 r v.1 kh.0 dh (ends_second g h r e),
    )
complete (g or h) p r v k (inl d) e =
    let k1 = and_parts (clear g) _ k in
    let k2 = and_parts (clear h) _ k1.1 in
    let k3 = and_parts (not (nullable g)) _ k2.1 in
    rw (begins g p r v (not_so (nullable g) k3.0) d) (complete g p r v k1.0 d (starts_neither (extends g) (extends h) r e).0)
complete (g or h) p r v k (inr d) e =
    let k1 = and_parts (clear g) _ k in
    let k2 = and_parts (clear h) _ k1.1 in
    let k3 = and_parts (not (nullable g)) _ k2.1 in
    let k4 = and_parts (not (nullable h)) _ k3.1 in
    rw (begins_not g h p r v (not_so (nullable h) k4.0) k4.1 d) (complete h p r v k2.0 d (starts_neither (extends g) (extends h) r e).1)
complete (maybe x g) p r v k (inl d) e = rw (d.0, d.1, (starts_neither (first g) (extends g) r e).0)
complete (maybe x g) p r v k (inr d) e =
    let ks = and_parts (clear g) (not (nullable g)) k in
    rw (begins g p r v (not_so (nullable g) ks.1) d) (complete g p r v ks.0 d (starts_neither (first g) (extends g) r e).1)
complete (give f g) p r v k (a, d, x) e = rw (complete g p r a k d e, x)

-- ---- what the reader finds, the grammar derives

abbrev Front : {A : Type 0} → Grammar A → List ℕ → A → List ℕ → Type 0
Front g s v r = (p : List ℕ) × (s ≡ p ++ r) × Derives g p v

sound : {A : Type 0} (g : Grammar A) (s : List ℕ) (v : A) (r : List ℕ) → scan g s ≡ found v r → Front g s v r
unfolding scan Derives
sound empty s v r e = let z : s ≡ r = cc in ([], z, refl)
sound (one c) [] v r e = nothing_found e
sound (one c) (b ∷ s) v r e = go (within c b) refl e
  where
    go : (t : Bool) → within c b ≡ t → cond t (found b s) nothing ≡ found v r → Front (one c) (b ∷ s) v r
    go true w x = let y : b ≡ v = cc in let z : s ≡ r = cc in (v ∷ [], (cc), (refl, rw y at w))
    go false w x = nothing_found x
sound (run {A = A} h c val) s v r e = go (starts h (front c s)) refl (val (front c s)) refl e
  where
    go : (t : Bool) → starts h (front c s) ≡ t → (o : Option A) → val (front c s) ≡ o → cond t (valued o (back c s)) nothing ≡ found v r → Front (run h c val) s v r
    go true a none w x = nothing_found x
    go true a (some u) w x = let y : u ≡ v = cc in let z : back c s ≡ r = cc in (front c s, front_back c s ∙ ap (◌++◌ (front c s)) z, (a, front_every c s, w ∙ ap some y))
    go false a o w x = nothing_found x
sound (◌▸◌ {A = A} {B = B} g h) s v r e = go (scan g s) refl e (λ a t w. sound g s a t w) (λ t b u w. sound h t b u w)
  where
    go2 : (a : A) (p t : List ℕ) → s ≡ p ++ t → Derives g p a → (o : Scan B) → scan h t ≡ o → paired a o ≡ found v r → ((t : List ℕ) (b : B) (r : List ℕ) → scan h t ≡ found b r → Front h t b r) → Front (g ▸ h) s v r
    go2 a p t f d nothing w x k = nothing_found x
    go2 a p t f d (found b u) w x k =
        let m = k t b u w in
        let y : a ≡ v.0 = cc in
        let z : b ≡ v.1 = cc in
        let i : u ≡ r = cc in
        (p ++ m.0, (rw (append_assoc, ← i) (f ∙ ap (◌++◌ p) m.1)), (p, m.0, refl, rw y at d, subst (λ (x : B). Derives h m.0 x) z m.2))

    go : (o : Scan A) → scan g s ≡ o → then o (λ a t. paired a (scan h t)) ≡ found v r → ((a : A) (t : List ℕ) → scan g s ≡ found a t → Front g s a t) → ((t : List ℕ) (b : B) (r : List ℕ) → scan h t ≡ found b r → Front h t b r) → Front (g ▸ h) s v r
    go nothing w x j k = nothing_found x
    go (found a t) w x j k = let m = j a t w in go2 a m.0 t m.1 m.2 (scan h t) refl x k
sound (g or h) s v r e = go (starts (first g) s) e (λ w. sound g s v r w) (λ w. sound h s v r w)
  where
    go : (t : Bool) → cond t (scan g s) (scan h s) ≡ found v r → (scan g s ≡ found v r → Front g s v r) → (scan h s ≡ found v r → Front h s v r) → Front (g or h) s v r
    go true x j k = let m = j x in (m.0, m.1, inl m.2)
    go false x j k = let m = k x in (m.0, m.1, inr m.2)
sound (maybe d g) s v r e = go (starts (first g) s) e (λ w. sound g s v r w)
  where
    go : (t : Bool) → cond t (scan g s) (found d s) ≡ found v r → (scan g s ≡ found v r → Front g s v r) → Front (maybe d g) s v r
    go true x j = let m = j x in (m.0, m.1, inr m.2)
    go false x j = let y : d ≡ v = cc in let z : s ≡ r = cc in ([], z, inl (refl, sym y))
sound (give {A = A} f g) s v r e = go (scan g s) refl e (λ a t w. sound g s a t w)
  where
    go : (o : Scan A) → scan g s ≡ o → given f o ≡ found v r → ((a : A) (t : List ℕ) → scan g s ≡ found a t → Front g s a t) → Front (give f g) s v r
    go nothing w x j = nothing_found x
    go (found a t) w x j =
        let z : t ≡ r = cc in
        let y : v ≡ f a = cc in
        let m = j a t w in (m.0, m.1 ∙ ap (◌++◌ m.0) z, (a, m.2, y))

-- ---- the theorem

-- a text that a clear grammar derives is read with that value
pub reads : {A : Type 0} (g : Grammar A) (s : List ℕ) (v : A) → clear g ≡ true → Derives g s v → read g s ≡ some v
unfolding read whole starts
reads g s v k d = rw (← append-nil s) (ap whole (complete g s [] v k d refl))

-- a text that is read with a value is derived with it
pub derives : {A : Type 0} (g : Grammar A) (s : List ℕ) (v : A) → read g s ≡ some v → Derives g s v
unfolding read whole
derives {A} g s v e = go (scan g s) refl e
  where
    go : (o : Scan A) → scan g s ≡ o → whole o ≡ some v → Derives g s v
    go nothing w x = none_some x
    go (found u []) w x = let y : u ≡ v = cc in let m = sound g s u [] w in subst (λ (z : A). Derives g s z) y (rw (m.1, append-nil) m.2)
    go (found u (b ∷ r)) w x = none_some x

-- a clear grammar derives no text with two values
pub single : {A : Type 0} (g : Grammar A) (s : List ℕ) (v w : A) → clear g ≡ true → Derives g s v → Derives g s w → v ≡ w
single g s v w k d e = let x = reads g s v k d in let y = reads g s w k e in cc

-- a text is read with no value exactly where a clear grammar does not derive it
pub refused : {A : Type 0} (g : Grammar A) (s : List ℕ) → clear g ≡ true → read g s ≡ none → (v : A) → Derives g s v → ⊥
refused g s k e v d = none_some (sym e ∙ reads g s v k d)

pub underived : {A : Type 0} (g : Grammar A) (s : List ℕ) → ((v : A) → Derives g s v → ⊥) → read g s ≡ none
underived {A} g s n = go (read g s) refl
  where
    go : (o : Option A) → read g s ≡ o → read g s ≡ none
    go none e = e
    go (some v) e = absurd (n v (derives g s v e))
