-- Values that definitions are known to have. A definition may take ten million steps to compute, or be read backwards; its value, found
-- another way, computes at once. `Known x` is such a value with the proof that x is it.
use mathlib.Core.Path.{◌≡◌, refl, ap, ◌∙◌}
use mathlib.Core.Bool.{Bool, true, false, cond}

pub record Known {A : Type 0} (x : A) : Type 0 where
  pub value : A
  pub is : x ≡ value

-- what computes is its own value
abbrev pub itself : {A : Type 0} (x : A) → Known x
itself x = record { value = x; is = refl }

-- what equals something known
abbrev pub equal : {A : Type 0} {x y : A} → x ≡ y → Known y → Known x
equal e k = record { value = k.value; is = e ∙ k.is }

-- a function of what is known, where the function computes
abbrev pub applied : {A B : Type 0} (f : A → B) {x : A} → Known x → Known (f x)
applied f k = record { value = f k.value; is = ap f k.is }

-- and where its own values are known
abbrev pub through : {A B : Type 0} (f : A → B) → ((a : A) → Known (f a)) → {x : A} → Known x → Known (f x)
through f g k = equal (ap f k.is) (g k.value)

-- and of a test, where each of its values is known once the test has that outcome
abbrev pub tested : {A : Type 0} (f : Bool → A) {b : Bool} → Known b → (b ≡ true → Known (f true)) → (b ≡ false → Known (f false)) → Known (f b)
tested f {b} k g h = by k.value k.is
  where
    by : (t : Bool) → b ≡ t → Known (f b)
    by true e = equal (ap f e) (g e)
    by false e = equal (ap f e) (h e)

-- a choice by a test: what is known where the test holds, or a refusal
abbrev pub chosen : {A : Type 0} {x : A} {b : Bool} → Known b → (b ≡ true → Known x) → (r : A) → Known (cond b x r)
chosen {A} {x} k g r = tested (λ (t : Bool). cond t x r) k g (λ h. itself r)
