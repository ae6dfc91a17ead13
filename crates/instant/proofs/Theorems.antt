-- What is proved of instants and their fields, in one place: there and back, and order. `c` is any of the six calendars, t and u any integers.
use Rattle.std.specs.Prelude.{Result, Ok, Err}
use mathlib.Core.Path.{◌≡◌, refl, sym, ap, ◌∙◌}
use mathlib.Core.Bool.{Bool, true, false, ◌&&◌, ◌||◌}
use Prim.Native.Nat.{ℕ, suc, ◌+◌, ◌-◌, ◌*◌, ◌/◌, ◌%◌, ◌<◌}
use native.Mathlib.Omega.{arith}
use lib.Dec.{ltb, eqb}
use lib.IntN.{ℤ, pos, negsuc, sub_ℕ, ◌+ℤ◌, ◌*ℤ◌}
use lib.Signed.{lt_z}
use borrow.Author.Tests.{lt-ltb, eq-eqb, ne_eqb}
use Rattle.refusal.specs.declared.Refusal.{Refusal}
use Rattle.refusal.specs.declared.Refusal.TheVariants.{OutOfRange}
use Rattle.signed.proofs.Tests.{and_parts}
use Rattle.signed.proofs.Differences.{common, by_sign, sub_low, sub_high, sub_lt, sub_inj, neg_plus, times_plus}
use Rattle.signed.proofs.Lexicographic.{lexicographic}
use Rattle.calendar.specs.Calendar.{date_of, exists, in_years}
use Rattle.calendar.specs.Order.{earlier, same_date}
use Rattle.calendar.specs.Answers.{day_number, day_with}
use Rattle.calendar.specs.declared.Calendar.{Calendar}
use Rattle.calendar.specs.declared.Date.{Date}
use Rattle.calendar.proofs.Numbering.{same_day}
use Rattle.calendar.proofs.Answering.{in_range_lem, out_of_range, date_there}
use Rattle.calendar.proofs.Theorems.{order, dates_exist, date_of_number, Numbered, answered}
use Rattle.instant.specs.Instant.{day_of, time_of, instant_at, in_range, fields_at, with_time, fields_answer, date_in, is_clock, clock_time, with_clock, instant_with, instant_answer}
use Rattle.instant.specs.Order.{earlier_clock, earlier_fields}
use Rattle.instant.specs.declared.Fields.{Fields}
use Rattle.instant.proofs.Clock.{Clock, clock_of, clock_small}

-- ---- an instant is its day and its time of day

-- of the instant (a - b) * day + s
day_at_lem : (a b s : ℕ) → s < 86400000000 → day_of (sub_ℕ (a * 86400000000 + s) (b * 86400000000)) ≡ sub_ℕ a b
unfolding day_of
day_at_lem a b s h =
    by_sign (λ (z : ℤ). day_of z ≡ sub_ℕ a b) (a * 86400000000 + s) (b * 86400000000)
    (λ g. ap negsuc (omega arith) ∙ sym (sub_low a b (omega arith)))
    (λ g. ap pos (omega arith) ∙ sym (sub_high a b (omega arith)))

time_at : (a b s : ℕ) → s < 86400000000 → time_of (sub_ℕ (a * 86400000000 + s) (b * 86400000000)) ≡ s
unfolding time_of
time_at a b s h = by_sign (λ (z : ℤ). time_of z ≡ s) (a * 86400000000 + s) (b * 86400000000) (λ g. omega arith) (λ g. omega arith)

pub day_of_sum : (z : ℤ) (s : ℕ) → s < 86400000000 → day_of (z *ℤ pos 86400000000 +ℤ pos s) ≡ z
day_of_sum z s h =
    let k = common z z in
    ap (λ (w : ℤ). day_of (w *ℤ pos 86400000000 +ℤ pos s)) (sym k.is_left) ∙ (ap day_of (times_plus k.left k.least 86400000000 s) ∙ (day_at_lem k.left k.least s h ∙ k.is_left))

pub time_of_sum : (z : ℤ) (s : ℕ) → s < 86400000000 → time_of (z *ℤ pos 86400000000 +ℤ pos s) ≡ s
time_of_sum z s h =
    let k = common z z in
    ap (λ (w : ℤ). time_of (w *ℤ pos 86400000000 +ℤ pos s)) (sym k.is_left) ∙ (ap time_of (times_plus k.left k.least 86400000000 s) ∙ time_at k.left k.least s h)

pub time_small : (t : ℤ) → time_of t < 86400000000
unfolding time_of
time_small (pos n) = omega arith
time_small (negsuc n) = omega arith

pub day_and_time : (t : ℤ) → day_of t *ℤ pos 86400000000 +ℤ pos (time_of t) ≡ t
unfolding day_of time_of
day_and_time (pos n) = ap pos (omega arith)
day_and_time (negsuc n) =
    let m = suc (n / 86400000000) * 86400000000 in
    let s = 86399999999 - n % 86400000000 in
    neg_plus m s ∙ (sub_low s m (omega arith) ∙ ap negsuc (omega arith))

-- ---- the fields of a time of day

-- a time of day is that of its fields
pub time_of_fields : (d : Date) (s : ℕ) → clock_time (fields_at d s) ≡ s
time_of_fields d s = omega arith

pub clock_of_time : (d : Date) (s : ℕ) → s < 86400000000 → is_clock (fields_at d s) ≡ true
clock_of_time d s h = rw (lt-ltb (s / 3600000000) 24 (omega arith), lt-ltb (s / 60000000 % 60) 60 (omega arith), lt-ltb (s / 1000000 % 60) 60 (omega arith), lt-ltb (s % 1000000) 1000000 (omega arith))

-- and fields are those of their time of day
fields_eq : {f g : Fields} → f.year ≡ g.year → f.month ≡ g.month → f.day ≡ g.day → f.hour ≡ g.hour → f.minute ≡ g.minute → f.second ≡ g.second → f.microsecond ≡ g.microsecond → f ≡ g
fields_eq a b c d e m n = λ i. record { year = a i; month = b i; day = c i; hour = d i; minute = e i; second = m i; microsecond = n i }

fields_of_time : (f : Fields) → Clock f → fields_at (date_in f) (clock_time f) ≡ f
fields_of_time f c =
    let h = c.hour in
    let m = c.minute in
    let s = c.second in
    let u = c.microsecond in
    fields_eq refl refl refl (omega arith) (omega arith) (omega arith) (omega arith)

-- ---- what an answer says

-- the fields of an instant in range
module _ (c : Calendar) (t : ℤ) where
  pub fields_in_lem : in_range c t ≡ true → fields_answer c t ≡ Ok (fields_at (date_of c (day_of t)) (time_of t))
  unfolding fields_answer
  fields_in_lem h = ap (λ (a : Result Date Refusal). with_time a (time_of t)) (sym (in_range_lem c (day_of t) h))

  -- an instant whose fields are given is in range, and these are its fields
  pub record Shown (f : Fields) : Type 0 where
    pub inside : in_range c t ≡ true
    pub is : fields_at (date_of c (day_of t)) (time_of t) ≡ f

  pub shown : (f : Fields) → fields_answer c t ≡ Ok f → Shown f
  unfolding fields_answer
  shown f h = go (in_range c t) refl
    where
      go : (b : Bool) → in_range c t ≡ b → Shown f
      go true e = record { inside = e; is = (cc (ap (λ (a : Result Date Refusal). with_time a (time_of t)) (in_range_lem c (day_of t) e) ∙ h)) }
      go false e =
          let k : Err OutOfRange ≡ Ok f = ap (λ (a : Result Date Refusal). with_time a (time_of t)) (out_of_range c (day_of t) e) ∙ h in
          absurd (let y : ◌≡◌ {A = ℕ} 0 1 = (cc) in omega arith)

-- the day number and the time of fields whose instant is given
module _ (rest : Bool) (c : Calendar) (f : Fields) (t : ℤ) where
  pub record Placed : Type 0 where
    pub day : ℤ
    pub beside : rest ≡ true
    pub clock : is_clock f ≡ true
    pub dated : Numbered (rest && is_clock f) c (date_in f) day
    pub is : day *ℤ pos 86400000000 +ℤ pos (clock_time f) ≡ t

  pub placed : instant_with rest c f ≡ Ok t → Placed
  unfolding instant_with
  placed = go (day_with (rest && is_clock f) c (date_in f)) refl
    where
      go : (a : Result ℤ Refusal) → a ≡ day_with (rest && is_clock f) c (date_in f) → with_clock a f ≡ Ok t → Placed
      go (Ok n) e h =
          let d = answered (rest && is_clock f) c (date_in f) n e in
          let w = and_parts rest (is_clock f) d.beside in
          record { day = n; beside = w.0; clock = w.1; dated = d; is = (cc h) }
      go (Err r) e h = absurd (let y : ◌≡◌ {A = ℕ} 0 1 = (cc) in omega arith)

-- fields are refused as their date is, which has the time of day beside it
pub refused_as_date : (rest : Bool) (c : Calendar) (f : Fields) (r : Refusal) → Err r ≡ day_with (rest && is_clock f) c (date_in f) → Err r ≡ instant_with rest c f
unfolding instant_with
refused_as_date rest c f r e = ap (λ (a : Result ℤ Refusal). with_clock a f) e

-- and those that a calendar has are an instant's
pub fields_had : (c : Calendar) (f : Fields) → in_years f.year ≡ true → exists c (date_in f) ≡ true → is_clock f ≡ true → Ok (instant_at (day_number c (date_in f)) (clock_time f)) ≡ instant_answer c f
unfolding instant_with
fields_had c f h g k =
    let d = date_in f in
    ap (λ (a : Result ℤ Refusal). with_clock a f) (date_there c d (day_number c d) h g (date_of_number c d h g) ∙ ap (λ (b : Bool). day_with b c d) (sym k))

-- ---- there and back

module _ (c : Calendar) where
  -- the fields of the instant of fields
  pub fields_of_instant : (f : Fields) (t : ℤ) → instant_answer c f ≡ Ok t → fields_answer c t ≡ Ok f
  fields_of_instant f t h =
      let p = placed true c f t h in
      let s = clock_small f p.clock in
      let n = p.dated in
      let d : day_of t ≡ p.day = ap day_of (sym p.is) ∙ day_of_sum p.day (clock_time f) s in
      let u : time_of t ≡ clock_time f = ap time_of (sym p.is) ∙ time_of_sum p.day (clock_time f) s in
      let w : date_of c (day_of t) ≡ date_in f = ap (date_of c) d ∙ n.is in
      fields_in_lem c t (ap (λ (x : Date). in_years x.year) w ∙ n.inside) ∙ ap Ok ((λ i. fields_at (w i) (u i)) ∙ fields_of_time f (clock_of f p.clock))

  -- the instant of the fields of an instant
  pub instant_of_fields : (t : ℤ) (f : Fields) → fields_answer c t ≡ Ok f → instant_answer c f ≡ Ok t
  unfolding instant_with
  instant_of_fields t f h =
      let v = shown c t f h in
      let d = date_of c (day_of t) in
      let s = time_of t in
      let g = fields_at d s in
      let k : is_clock g ≡ true = clock_of_time d s (time_small t) in
      let a : Ok (day_of t) ≡ day_with (is_clock g) c d = date_there c d (day_of t) v.inside (dates_exist c (day_of t)) refl ∙ ap (λ (b : Bool). day_with b c d) (sym k) in
      let i : day_of t *ℤ pos 86400000000 +ℤ pos (clock_time g) ≡ t = ap (λ (n : ℕ). day_of t *ℤ pos 86400000000 +ℤ pos n) (time_of_fields d s) ∙ day_and_time t in
      ap (λ (x : Fields). with_clock (day_with (is_clock x) c (date_in x)) x) (sym v.is)
      ∙ (ap (λ (x : Result ℤ Refusal). with_clock x g) (sym a) ∙ ap Ok i)

-- ---- order

-- times of day are ordered by hour, minute, second and microsecond
clock_order : (f g : Fields) → Clock f → Clock g → earlier_clock f g ≡ ltb (clock_time f) (clock_time g)
clock_order f g p q =
    let seconds : ltb (f.second * 1000000 + f.microsecond) (g.second * 1000000 + g.microsecond) ≡ (ltb f.second g.second || (eqb f.second g.second && ltb f.microsecond g.microsecond)) = lexicographic 1000000 f.second f.microsecond g.second g.microsecond p.microsecond q.microsecond in
    let a = f.second * 1000000 + f.microsecond in
    let b = g.second * 1000000 + g.microsecond in
    let small_a : a < 60000000 = omega (arith, p.second, p.microsecond) in
    let small_b : b < 60000000 = omega (arith, q.second, q.microsecond) in
    let minutes = lexicographic 60000000 f.minute a g.minute b small_a small_b in
    let hours = lexicographic 3600000000 f.hour (f.minute * 60000000 + a) g.hour (g.minute * 60000000 + b) (omega (arith, p.minute)) (omega (arith, q.minute)) in
    let left : f.hour * 3600000000 + (f.minute * 60000000 + a) ≡ clock_time f = omega arith in
    let right : g.hour * 3600000000 + (g.minute * 60000000 + b) ≡ clock_time g = omega arith in
    sym ((λ i. ltb (sym left i) (sym right i))
    ∙ (hours
    ∙ ap (λ (x : Bool). ltb f.hour g.hour || (eqb f.hour g.hour && x)) (minutes ∙ ap (λ (x : Bool). ltb f.minute g.minute || (eqb f.minute g.minute && x)) seconds)))

clock_at : (d : Date) (s : ℕ) → s < 86400000000 → (e : Date) (r : ℕ) → r < 86400000000 → earlier_clock (fields_at d s) (fields_at e r) ≡ ltb s r
clock_at d s h e r g =
    clock_order (fields_at d s) (fields_at e r) (clock_of (fields_at d s) (clock_of_time d s h)) (clock_of (fields_at e r) (clock_of_time e r g))
    ∙ (λ i. ltb (time_of_fields d s i) (time_of_fields e r i))

instant_is : (t : ℤ) (a b : ℕ) → sub_ℕ a b ≡ day_of t → sub_ℕ (a * 86400000000 + time_of t) (b * 86400000000) ≡ t
instant_is t a b e = sym (times_plus a b 86400000000 (time_of t)) ∙ (ap (λ (z : ℤ). z *ℤ pos 86400000000 +ℤ pos (time_of t)) e ∙ day_and_time t)

-- of two instants the earlier has the earlier fields, and the other way round
pub fields_order : (c : Calendar) (t u : ℤ) (f g : Fields) → fields_answer c t ≡ Ok f → fields_answer c u ≡ Ok g → earlier_fields f g ≡ lt_z t u
unfolding earlier_fields
fields_order c t u f g p q =
    let v = shown c t f p in
    let w = shown c u g q in
    let k = common (day_of t) (day_of u) in
    let day : earlier (date_of c (day_of t)) (date_of c (day_of u)) ≡ ltb k.left k.right = order c (day_of t) (day_of u) ∙ ((λ i. lt_z (sym k.is_left i) (sym k.is_right i)) ∙ sub_lt k.left k.right k.least) in
    let same : same_date (date_of c (day_of t)) (date_of c (day_of u)) ≡ eqb k.left k.right = same_day c (day_of t) (day_of u) (eqb k.left k.right) (λ e. eq-eqb k.left k.right (sub_inj k.left k.right k.least (k.is_left ∙ (e ∙ sym k.is_right)))) (λ e. ne_eqb k.left k.right (λ h. e (sym k.is_left ∙ (ap (λ (n : ℕ). sub_ℕ n k.least) h ∙ k.is_right)))) in
    let clock : earlier_clock (fields_at (date_of c (day_of t)) (time_of t)) (fields_at (date_of c (day_of u)) (time_of u)) ≡ ltb (time_of t) (time_of u) = clock_at (date_of c (day_of t)) (time_of t) (time_small t) (date_of c (day_of u)) (time_of u) (time_small u) in
    (λ i. earlier_fields (sym v.is i) (sym w.is i))
    ∙ ((λ i. day i || (same i && clock i))
    ∙ (sym (lexicographic 86400000000 k.left (time_of t) k.right (time_of u) (time_small t) (time_small u))
    ∙ (sym (sub_lt (k.left * 86400000000 + time_of t) (k.right * 86400000000 + time_of u) (k.least * 86400000000))
    ∙ (λ i. lt_z (instant_is t k.left k.least k.is_left i) (instant_is u k.right k.least k.is_right i)))))
