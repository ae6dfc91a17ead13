-- Two plain calendars joined at a day: their dates follow each other as those of a plain one do, whatever the two are, if the last
-- day of the one comes before the first of the other.
use mathlib.Core.Path.{◌≡◌, refl, sym, ap, ◌∙◌, subst}
use mathlib.Core.Bool.{Bool, true, false, not, ◌&&◌, cond, and-true, true≢false}
use borrow.Author.Tests.{not-true}
use Rattle.signed.proofs.Tests.{and_parts}
use Rattle.calendar.specs.Plain.{day_after, day_before, has_day}
use Rattle.calendar.specs.Calendar.{CalendarRow, early_part, late_part, next_by, prev_by, exists_by}
use Rattle.calendar.specs.Order.{earlier}
use Rattle.calendar.specs.declared.Date.{Date}
use Rattle.calendar.proofs.Ordered.{Before, le_before, before_le, earlier_of, before_trans, not_before, Comparison, earlier_than, same_as, later_than, compare, not_earlier, not_same, same_self}
use Rattle.calendar.proofs.Plain.{Chain, chain, none_before_next}

-- all that is asked of the two days at which they are joined
pub record Junction (r : CalendarRow) : Type 0 where
  pub last : has_day (early_part r) r.last ≡ true
  pub first : has_day (late_part r) r.first ≡ true
  pub rises : Before r.last r.first

-- a date that exists, by its side
pub data Side (r : CalendarRow) (d : Date) : Type 0 where
  on_early : has_day (early_part r) d ≡ true → (Before r.last d → ⊥) → Side r d
  on_late : has_day (late_part r) d ≡ true → (Before d r.first → ⊥) → Side r d

module _ (r : CalendarRow) (s : Junction r) where
  -- ---- sides and tests

  -- a date not after the last day kept comes before the first of the other calendar
  pub below : (d : Date) → (Before r.last d → ⊥) → Before d r.first
  below d f = le_before d r.last r.first f s.rises

  pub side_of : (d : Date) → exists_by r d ≡ true → Side r d
  unfolding exists_by
  side_of d = go (earlier d r.first) refl
    where
      go : (t : Bool) → earlier d r.first ≡ t → cond t (has_day (early_part r) d && not (earlier r.last d)) (has_day (late_part r) d) ≡ true → Side r d
      go true e h =
          let p = and_parts (has_day (early_part r) d) (not (earlier r.last d)) h in
          on_early p.0 (λ b. true≢false (sym (earlier_of r.last d b) ∙ not-true (earlier r.last d) p.1))
      go false e h = on_late h (λ b. true≢false (sym (earlier_of d r.first b) ∙ e))

  pub exists_early : (d : Date) → (Before r.last d → ⊥) → exists_by r d ≡ has_day (early_part r) d
  unfolding exists_by
  exists_early d f = rw (earlier_of d r.first (below d f), not_earlier r.last d f) (and-true (has_day (early_part r) d))

  pub exists_on : (d : Date) → Side r d → exists_by r d ≡ true
  unfolding exists_by
  exists_on d (on_early h f) = exists_early d f ∙ h
  exists_on d (on_late h f) = rw (not_earlier d r.first f) h

  -- ---- the next day and the day before, by cases

  pub next_last : next_by r r.last ≡ r.first
  unfolding next_by
  next_last = ap (λ (t : Bool). cond t r.first (cond (earlier r.last r.first) (day_after (early_part r) r.last) (day_after (late_part r) r.last))) (same_self r.last)

  pub next_early : (d : Date) → Before d r.last → next_by r d ≡ day_after (early_part r) d
  unfolding next_by
  next_early d h =
      rw (not_same d r.last (λ e. not_before d (subst (Before d) (sym e) h)), earlier_of d r.first (before_trans d r.last r.first h s.rises))

  pub next_late : (d : Date) → (Before d r.first → ⊥) → next_by r d ≡ day_after (late_part r) d
  unfolding next_by
  next_late d f =
      rw (not_same d r.last (λ e. f (subst (λ (w : Date). Before w r.first) (sym e) s.rises)), not_earlier d r.first f)

  prev_first : prev_by r r.first ≡ r.last
  unfolding prev_by
  prev_first = ap (λ (t : Bool). cond t r.last (cond (earlier r.first r.first) (day_before (early_part r) r.first) (day_before (late_part r) r.first))) (same_self r.first)

  prev_early : (d : Date) → Before d r.first → prev_by r d ≡ day_before (early_part r) d
  unfolding prev_by
  prev_early d h = rw (not_same d r.first (λ e. not_before d (subst (Before d) (sym e) h)), earlier_of d r.first h)

  prev_late : (d : Date) → Before r.first d → prev_by r d ≡ day_before (late_part r) d
  unfolding prev_by
  prev_late d h =
      rw (not_same d r.first (λ e. not_before d (subst (λ (w : Date). Before w d) (sym e) h)), not_earlier d r.first (λ b. not_before d (before_trans d r.first d b h)))

  -- ---- the laws

  a : Chain (day_after (early_part r)) (day_before (early_part r)) (has_day (early_part r))
  a = chain (early_part r)

  b : Chain (day_after (late_part r)) (day_before (late_part r)) (has_day (late_part r))
  b = chain (late_part r)

  -- what is to be shown of a date and the next
  record On (x : Date) : Type 0 where
    there : Side r (next_by r x)
    back : prev_by r (next_by r x) ≡ x
    up : Before x (next_by r x)

  -- from the date that is the next
  on_by : (x n : Date) → next_by r x ≡ n → Side r n → prev_by r n ≡ x → Before x n → On x
  on_by x n e i p u =
      record {
        there = subst (Side r) (sym e) i;
        back = ap (prev_by r) e ∙ p;
        up = subst (Before x) (sym e) u;
      }

  on_last : On r.last
  on_last = on_by r.last r.first next_last (on_late s.first (not_before r.first)) prev_first s.rises

  on_early_side : (x : Date) → has_day (early_part r) x ≡ true → Before x r.last → On x
  on_early_side x h l = on_by x n (next_early x l) (on_early (a.after x h) kept) (prev_early n (below n kept) ∙ a.undone x h) (a.later x h)
    where
      n : Date
      n = day_after (early_part r) x

      kept : Before r.last n → ⊥
      kept = none_before_next (early_part r) x r.last h s.last l

  on_late_side : (x : Date) → has_day (late_part r) x ≡ true → (Before x r.first → ⊥) → On x
  on_late_side x h f = on_by x n (next_late x f) (on_late (b.after x h) (λ p. not_before r.first (before_trans r.first n r.first past p))) (prev_late n past ∙ b.undone x h) (b.later x h)
    where
      n : Date
      n = day_after (late_part r) x

      past : Before r.first n
      past = le_before r.first x n f (b.later x h)

  on : (x : Date) → Side r x → On x
  on x (on_early h f) = go (compare x r.last)
    where
      go : Comparison x r.last → On x
      go (earlier_than l) = on_early_side x h l
      go (same_as e) = subst On (sym e) on_last
      go (later_than l) = absurd (f l)
  on x (on_late h f) = on_late_side x h f

  record Back (x : Date) : Type 0 where
    there : Side r (prev_by r x)
    again : next_by r (prev_by r x) ≡ x

  back_by : (x n : Date) → prev_by r x ≡ n → Side r n → next_by r n ≡ x → Back x
  back_by x n e i p = record { there = subst (Side r) (sym e) i; again = ap (next_by r) e ∙ p }

  back : (x : Date) → Side r x → Back x
  back x (on_early h f) =
      let n = day_before (early_part r) x in
      let u : Before n x = subst (Before n) (a.redone x h) (a.later n (a.before x h)) in
      let l : Before n r.last = before_le n x r.last u f in
      back_by x n (prev_early x (below x f)) (on_early (a.before x h) (λ p. not_before n (before_trans n r.last n l p))) (next_early n l ∙ a.redone x h)
  back x (on_late h f) = go (compare r.first x)
    where
      go : Comparison r.first x → Back x
      go (earlier_than l) =
          let n = day_before (late_part r) x in
          let k : Before n r.first → ⊥ = λ p. none_before_next (late_part r) n r.first (b.before x h) s.first p (subst (Before r.first) (sym (b.redone x h)) l) in
          back_by x n (prev_late x l) (on_late (b.before x h) k) (next_late n k ∙ b.redone x h)
      go (same_as e) = subst Back e (back_by r.first r.last prev_first (on_early s.last (not_before r.last)) next_last)
      go (later_than l) = absurd (f l)

  pub joined : Chain (next_by r) (prev_by r) (exists_by r)
  joined =
      record {
        after = λ x h. exists_on (next_by r x) (on x (side_of x h)).there;
        before = λ x h. exists_on (prev_by r x) (back x (side_of x h)).there;
        undone = λ x h. (on x (side_of x h)).back;
        redone = λ x h. (back x (side_of x h)).again;
        later = λ x h. (on x (side_of x h)).up;
      }
