-- What the end of a units text in fragments answers: of a state that is not open 11, and of an open one 1 or what some text is read as.
use mathlib.Core.Path.{◌≡◌, refl, sym, subst}
use mathlib.Core.Bool.{Bool, true, false, cond}
use mathlib.Core.List.{List}
use Prim.Native.Nat.{ℕ}
use lib.Dec.{ltb}
use lib.ListN.{take}
use Rattle.refusal.specs.declared.Refusal.{Refusal}
use Rattle.refusal.specs.declared.Refusal.TheVariants.{TextTooLong, NotOpen}
use Rattle.calendar.specs.declared.Date.{Date}
use Rattle.units_fragments.specs.Fragments.{is_open}
use Rattle.units_fragments.specs.declared.UnitsState.{UnitsState}
use Rattle.uppinalo.specs.Texts.{no_axis, uppinalo_read_units}
use Rattle.uppinalo.specs.Fragments.{read_so_far, uppinalo_end_units}
use Rattle.uppinalo.specs.declared.texts.UppinaloAxisAnswer.{UppinaloAxisAnswer}

module _ (s : UnitsState) (name : List ℕ) (cutover : Date) where
  pub end_open : is_open s ≡ true → uppinalo_end_units s name cutover ≡ read_so_far s name cutover
  end_open e = rw e

  pub end_closed : is_open s ≡ false → uppinalo_end_units s name cutover ≡ no_axis NotOpen
  end_closed e = rw e

  pub open_outcome : (P : UppinaloAxisAnswer → Type 0) → is_open s ≡ true → P (no_axis TextTooLong) → ((text : List ℕ) → P (uppinalo_read_units name cutover text)) → P (uppinalo_end_units s name cutover)
  open_outcome P e long read = subst P (sym (end_open e)) (by_count (ltb 128 s.count))
    where
      by_count : (b : Bool) → P (cond b (no_axis TextTooLong) (uppinalo_read_units name cutover (take s.count s.bytes)))
      by_count true = long
      by_count false = read (take s.count s.bytes)

  pub end_outcome : (P : UppinaloAxisAnswer → Type 0) → ((r : Refusal) → P (no_axis r)) → ((text : List ℕ) → P (uppinalo_read_units name cutover text)) → P (uppinalo_end_units s name cutover)
  end_outcome P refused read = go (is_open s) refl
    where
      go : (b : Bool) → is_open s ≡ b → P (uppinalo_end_units s name cutover)
      go true e = open_outcome P e (refused TextTooLong) read
      go false e = subst P (sym (end_closed e)) (refused NotOpen)
