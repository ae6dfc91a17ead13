-- An offset between two that are read is read; so a run is read whole where its least and its greatest offset are.
use Rattle.std.specs.Prelude.{is_ok, Result, Ok, Err, Some, None}
use mathlib.Core.Path.{◌≡◌, refl, ap, ◌∙◌, subst}
use mathlib.Core.Bool.{Bool, true, cond, ◌&&◌, false≢true}
use mathlib.Core.List.{List, [], ◌∷◌}
use lib.Dec.{T}
use lib.IntN.{ℤ, pos}
use lib.Signed.{lt_z, le_z}
use lib.Ieee.{Float, lt, le, is_nan}
use Rattle.signed.proofs.Tests.{and_parts}
use Rattle.axis_types.specs.declared.Axis.{Axis}
use Rattle.axis_types.specs.declared.Mode.{Mode}
use Rattle.axis_types.specs.Reading.{is_read, Reading}
use Rattle.axis_types.proofs.Answers.{was_read}
use Rattle.double.specs.Whole.{whole_of}
use Rattle.axis.specs.Axis.{read_double_on, read_whole_on}
use Rattle.axis.proofs.Demands.{whole_between, double_between, whole_double}
use Rattle.std.proofs.lemmas.Option.{cond_some}
use Rattle.run_ends.specs.Each.{Each}
use Rattle.run_ends.specs.Ends.{all_pass, is_number, zero_double, double_ends, whole_number, whole_ends, ends_as_wholes, ends_from, AsWholes}
use Rattle.run_ends.specs.declared.ends.Ends.{Ends}
use Rattle.run_ends.proofs.Within.{each_so, within, doubles, wholes}
use Rattle.refusal.specs.declared.Refusal.{Refusal}

-- `between` says that an offset between two that are read is read
module _ {A : Type 0} (read : A → Reading) (AtMost : A → A → Type 0) (between : (x y z : A) (t u : ℤ) (i j : Bool) → AtMost x y → AtMost y z → read x ≡ Ok (t, i) → read z ≡ Ok (u, j) → is_read (read y) ≡ true) (a b : A) (h : (is_read (read a) && is_read (read b)) ≡ true) where
  inside : (x : A) → AtMost a x → AtMost x b → is_read (read x) ≡ true
  inside x f g =
      let ends = and_parts (is_read (read a)) (is_read (read b)) h in
      let l = was_read (read a) ends.0 in
      let r = was_read (read b) ends.1 in
      between a x b l.0 r.0 l.1 r.1 f g l.2 r.2

-- ---- doubles on a fixed axis
zero_number : is_number zero_double ≡ true
unfolding is_nan
zero_number = refl

pub doubles_by_ends : (axis : Axis) (xs : List Float) (w : Ends Float) → axis.mode ≡ Mode.Fixed → double_ends xs ≡ Some w → (is_read (read_double_on axis w.least) && is_read (read_double_on axis w.greatest)) ≡ true → Each (λ (x : Float). is_read (read_double_on axis x) ≡ true) xs
doubles_by_ends axis xs w m s h =
    let a = w.least in
    let b = w.greatest in
    let k = cond_some (all_pass is_number xs) _ w s in
    each_so _ (λ (x : Float). is_read (read_double_on axis x) ≡ true)
    (λ x f. inside (read_double_on axis) (λ (x y : Float). T (le x y)) between a b h x (subst (λ (u : Ends Float). T (le u.least x)) k.1 f.1.0) (subst (λ (u : Ends Float). T (le x u.greatest)) k.1 f.1.1))
    xs
    (within (λ (x : Float). x) is_number lt (λ (x y : Float). T (le x y)) (λ (x : Float). is_number x ≡ true) doubles (λ x t. t) zero_double xs zero_number k.0)
  where
    between : (x y z : Float) (t u : ℤ) (i j : Bool) → T (le x y) → T (le y z) → read_double_on axis x ≡ Ok (t, i) → read_double_on axis z ≡ Ok (u, j) → is_read (read_double_on axis y) ≡ true
    between x y z t u i j f g p q = ap is_read (double_between axis m x y z t u i j f g p q).2

-- ---- offsets as the whole numbers that they are, on every axis
module _ {A : Type 0} (axis : Axis) (whole : A → Result ℤ Refusal) (read : A → Reading) (as_wholes : AsWholes whole read (read_whole_on axis)) where
  is : (v : Result ℤ Refusal) → is_ok v ≡ true → v ≡ Ok (whole_number v)
  is (Ok n) e = refl
  is (Err r) e = absurd (false≢true e)

  pub as_wholes_by_ends : (xs : List A) (w : Ends ℤ) → ends_as_wholes whole xs ≡ Some w → (is_read (read_whole_on axis w.least) && is_read (read_whole_on axis w.greatest)) ≡ true → Each (λ (x : A). is_read (read x) ≡ true) xs
  as_wholes_by_ends xs w s h =
      let number : A → ℤ = λ x. whole_number (whole x) in
      let good : A → Bool = λ x. is_ok (whole x) in
      let k = cond_some (all_pass good xs) _ w s in
      each_so _ (λ (x : A). is_read (read x) ≡ true)
      (λ x f. ap is_read (as_wholes x (number x) (is (whole x) f.0)) ∙ inside (read_whole_on axis) (λ (y z : ℤ). le_z y z ≡ true) (λ y z v t u i j f g p q. ap is_read (whole_between axis y z v t u i j f g p q).1) w.least w.greatest h (number x) (subst (λ (u : Ends ℤ). le_z u.least (number x) ≡ true) k.1 f.1.0) (subst (λ (u : Ends ℤ). le_z (number x) u.greatest ≡ true) k.1 f.1.1))
      xs
      (within number good lt_z (λ (y z : ℤ). le_z y z ≡ true) (λ (y : ℤ). T true) wholes (λ x g. tt) (pos 0) xs tt k.0)

-- whole offsets themselves, and doubles in calendar mode
pub wholes_as_wholes : (axis : Axis) → AsWholes Ok (read_whole_on axis) (read_whole_on axis)
wholes_as_wholes axis x n e = ap (read_whole_on axis) (let k : x ≡ n = cc in k)

pub doubles_as_wholes : (axis : Axis) → axis.mode ≡ Mode.Calendar → AsWholes whole_of (read_double_on axis) (read_whole_on axis)
doubles_as_wholes axis m x n e = whole_double axis x n m e

-- whole offsets always have ends
none_tested : (xs : List ℤ) → all_pass (λ (n : ℤ). true) xs ≡ true
unfolding all_pass
none_tested [] = refl
none_tested (n ∷ xs) = none_tested xs

pub wholes_have_ends : (xs : List ℤ) → ends_as_wholes Ok xs ≡ Some (whole_ends xs)
wholes_have_ends xs = ap (λ (b : Bool). cond b (Some (whole_ends xs)) None) (none_tested xs)

module _ (axis : Axis) where
  pub wholes_by_ends : (xs : List ℤ) (w : Ends ℤ) → whole_ends xs ≡ w → (is_read (read_whole_on axis w.least) && is_read (read_whole_on axis w.greatest)) ≡ true → Each (λ (n : ℤ). is_read (read_whole_on axis n) ≡ true) xs
  wholes_by_ends xs w e = as_wholes_by_ends axis Ok (read_whole_on axis) (wholes_as_wholes axis) xs w (wholes_have_ends xs ∙ ap Some e)

  pub whole_doubles_by_ends : axis.mode ≡ Mode.Calendar → (xs : List Float) (w : Ends ℤ) → ends_as_wholes whole_of xs ≡ Some w → (is_read (read_whole_on axis w.least) && is_read (read_whole_on axis w.greatest)) ≡ true → Each (λ (x : Float). is_read (read_double_on axis x) ≡ true) xs
  whole_doubles_by_ends m = as_wholes_by_ends axis whole_of (read_double_on axis) (doubles_as_wholes axis m)
