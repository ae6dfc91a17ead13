-- What each test of a call that reads a text settles; and what is read of a text that the grammar derives, of one that it does not, and of any.
use Rattle.std.specs.Prelude.{Result, Ok, Err}
use Prim.Native.Nat.{ℕ, ◌≤◌, ◌<◌}
use mathlib.Core.Path.{◌≡◌, refl, sym, ap, ◌∙◌}
use mathlib.Core.Bool.{Bool, true, false, cond}
use mathlib.Core.List.{List}
use mathlib.Core.Option.{Option, none, some}
use native.Mathlib.Omega.{arith}
use lib.ListN.{length}
use borrow.Author.Tests.{lt-ltb, le-ltb}
use Rattle.refusal.specs.Number.{number_of}
use Rattle.refusal.specs.declared.Refusal.{Refusal}
use Rattle.calendar.specs.declared.Calendar.{Calendar}
use Rattle.calendar.specs.declared.Date.{Date}
use Rattle.cutover.specs.Calendars.{with_cutover, Carries}
use Rattle.cutover.proofs.Theorems.{only_16, carried}
use Rattle.calendar_name.specs.Names.{calendar_of}
use Rattle.grammar.specs.Grammar.{Grammar, Derives}
use Rattle.grammar.specs.Reader.{read}
use Rattle.grammar.specs.Clear.{clear}
use Rattle.grammar.proofs.Reading.{reads, underived}
use Rattle.named_text.specs.Texts.{too_long, of_name, named_calendar, text_calendar, by_value, in_calendar, read_text}

module _ (name : List ℕ) (x : Date) (text : List ℕ) where
  pub text_long : 128 < length text → Err Refusal.TextTooLong ≡ text_calendar name x text
  unfolding text_calendar
  text_long h = rw (lt-ltb 128 (length text) h)

  pub text_named : (k : Result Calendar Refusal) → length text ≤ 128 → named_calendar name x ≡ k → k ≡ text_calendar name x text
  unfolding text_calendar
  text_named k l e = rw (le-ltb 128 (length text) l) (sym e)

module _ {A B : Type 0} (refuse : Refusal → A) (rule : Grammar B) (give : Calendar → B → A) (name : List ℕ) (x : Date) (text : List ℕ) where
  pub text_refused : (r : Refusal) → Err r ≡ text_calendar name x text → refuse r ≡ read_text refuse rule give name x text
  unfolding read_text
  text_refused r e = ap (λ (k : Result Calendar Refusal). in_calendar refuse give k (read rule text)) e

  pub text_read : (c : Calendar) (o : Option B) → Ok c ≡ text_calendar name x text → read rule text ≡ o → by_value refuse (give c) o ≡ read_text refuse rule give name x text
  unfolding read_text
  text_read c o e f = λ i. in_calendar refuse give (e i) (sym f i)

  -- a text of at most 128 bytes with a listed name and a cutover that it allows, by a rule in which the next byte tells which way each choice goes
  module _ (c : Calendar) (l : length text ≤ 128) (n : named_calendar name x ≡ Ok c) where
    pub text_derived : (v : B) → clear rule ≡ true → Derives rule text v → read_text refuse rule give name x text ≡ give c v
    text_derived v k d = sym (text_read c (some v) (text_named name x text (Ok c) l n) (reads rule text v k d))

    pub text_underived : ((v : B) → Derives rule text v → ⊥) → read_text refuse rule give name x text ≡ refuse Refusal.IllFormed
    text_underived f = sym (text_read c none (text_named name x text (Ok c) l n) (underived rule text f))

  -- any text is refused with 1 to 3 or with 16, or given in the calendar of its name and cutover
  pub text_outcome : (P : A → Type 0) → ((r : Refusal) → number_of r ≤ 3 → P (refuse r)) → P (refuse Refusal.CutoverNotAllowed) → ((c : Calendar) (v : B) → named_calendar name x ≡ Ok c → P (give c v)) → P (read_text refuse rule give name x text)
  unfolding read_text text_calendar
  text_outcome P h s g = long (too_long text)
    where
      valued : (c : Calendar) → named_calendar name x ≡ Ok c → (o : Option B) → P (by_value refuse (give c) o)
      valued c e none = h Refusal.IllFormed (omega arith)
      valued c e (some v) = g c v e

      cut : (d : Calendar) → calendar_of name ≡ some d → (k : Result Calendar Refusal) → with_cutover d x ≡ k → P (in_calendar refuse give k (read rule text))
      cut d f (Ok c) e = valued c (ap (λ (o : Option Calendar). of_name o x) f ∙ e) (read rule text)
      cut d f (Err r) e = rw (only_16 d x r e) s

      named : (q : Option Calendar) → calendar_of name ≡ q → P (in_calendar refuse give (of_name q x) (read rule text))
      named none e = h Refusal.UnknownCalendar (omega arith)
      named (some d) e = cut d e (with_cutover d x) refl

      long : (b : Bool) → P (in_calendar refuse give (cond b (Err Refusal.TextTooLong) (named_calendar name x)) (read rule text))
      long true = h Refusal.TextTooLong (omega arith)
      long false = named (calendar_of name) refl

-- the calendar of a name and a cutover carries the cutover
pub named_carries : (name : List ℕ) (x : Date) (c : Calendar) → named_calendar name x ≡ Ok c → Carries c x
named_carries name x c = go (calendar_of name)
  where
    go : (o : Option Calendar) → of_name o x ≡ Ok c → Carries c x
    go none e = absurd (let z : ◌≡◌ {A = ℕ} 0 1 = cc in omega arith)
    go (some d) e = carried d c x e
