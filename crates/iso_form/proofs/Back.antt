-- What is written is read back: the date rule gives the text of a date in UTC that date. So dates that differ have texts that differ.
use Prim.Native.Nat.{ℕ, ◌≤◌}
use mathlib.Core.Path.{◌≡◌, refl, ap, ◌∙◌}
use mathlib.Core.Bool.{Bool, true, false, cond}
use mathlib.Core.List.{List, [], ◌∷◌, ◌++◌}
use mathlib.Core.Logic.{inl, inr}
use mathlib.Core.Option.{some}
use Rattle.grammar.specs.Grammar.{inside, within, Derives}
use Rattle.grammar.specs.Reader.{read}
use Rattle.date_text.specs.declared.WrittenDate.{WrittenDate}
use Rattle.date_text.specs.declared.Zone.{Zone}
use Rattle.date_text.specs.DateRule.{utc, second_part, minute_part, zone_part, time_part, day_part, month_part, date_rule}
use Rattle.date_text.proofs.Texts.{date_read}
use Rattle.iso_form.specs.Form.{two_digits, four_digits, six_digits, iso_text}
use Rattle.iso_form.proofs.Digits.{two_written, four_written, six_written}

-- a date in UTC whose fields have no more digits than the form has places
pub record Formed (w : WrittenDate) : Type 0 where
  pub year : w.year ≤ 9999
  pub month : w.month ≤ 99
  pub day : w.day ≤ 99
  pub hour : w.time.hour ≤ 99
  pub minute : w.time.minute ≤ 99
  pub second : w.time.second ≤ 99
  pub microsecond : w.time.microsecond ≤ 999999
  pub zone : w.time.zone ≡ utc

-- the derivation of the text, from its last part up: each part is its first byte, its digits and the next part
zone_written : (z : Zone) → z ≡ utc → Derives zone_part (90 ∷ []) z
unfolding Derives within inside
zone_written z e = inr ((0, z), ([], 90 ∷ [], refl, inl (refl, refl), inr (inl (tt, ((90, tt), (90 ∷ [], [], refl, (refl, refl), refl), refl), e))), refl)

module _ (w : WrittenDate) (f : Formed w) where
  seconds : List ℕ
  seconds = 58 ∷ two_digits w.time.second ++ 46 ∷ six_digits w.time.microsecond

  second_written : Derives second_part seconds (w.time.second, w.time.microsecond)
  unfolding Derives within inside seconds
  second_written =
      inr (
        (58, (w.time.second, w.time.microsecond)),
        (
          58 ∷ [],
          two_digits w.time.second ++ 46 ∷ six_digits w.time.microsecond,
          refl,
          (refl, refl),
          (
            two_digits w.time.second,
            46 ∷ six_digits w.time.microsecond,
            refl,
            two_written w.time.second f.second,
            inr ((46, w.time.microsecond), (46 ∷ [], six_digits w.time.microsecond, refl, (refl, refl), six_written w.time.microsecond f.microsecond), refl),
          ),
        ),
        refl,
      )

  minutes : List ℕ
  minutes = 58 ∷ two_digits w.time.minute ++ seconds

  minute_written : Derives minute_part minutes (w.time.minute, (w.time.second, w.time.microsecond))
  unfolding Derives within inside minutes
  minute_written =
      inr (
        (58, (w.time.minute, (w.time.second, w.time.microsecond))),
        (
          58 ∷ [],
          two_digits w.time.minute ++ seconds,
          refl,
          (refl, refl),
          (two_digits w.time.minute, seconds, refl, two_written w.time.minute f.minute, second_written),
        ),
        refl,
      )

  clock : List ℕ
  clock = 84 ∷ two_digits w.time.hour ++ minutes ++ 90 ∷ []

  time_written : Derives time_part clock w.time
  unfolding Derives within inside clock
  time_written =
      inr (
        (84, w.time),
        (
          84 ∷ [],
          two_digits w.time.hour ++ minutes ++ 90 ∷ [],
          refl,
          (refl, refl),
          (
            (w.time.hour, ((w.time.minute, (w.time.second, w.time.microsecond)), w.time.zone)),
            (
              two_digits w.time.hour,
              minutes ++ 90 ∷ [],
              refl,
              two_written w.time.hour f.hour,
              (minutes, 90 ∷ [], refl, minute_written, zone_written w.time.zone f.zone),
            ),
            refl,
          ),
        ),
        refl,
      )

  days : List ℕ
  days = 45 ∷ two_digits w.day ++ clock

  day_written : Derives day_part days (w.day, w.time)
  unfolding Derives within inside days
  day_written =
      inr (
        (45, (w.day, w.time)),
        (
          45 ∷ [],
          two_digits w.day ++ clock,
          refl,
          (refl, refl),
          (two_digits w.day, clock, refl, two_written w.day f.day, time_written),
        ),
        refl,
      )

  months : List ℕ
  months = 45 ∷ two_digits w.month ++ days

  month_written : Derives month_part months (w.month, (w.day, w.time))
  unfolding Derives within inside months
  month_written =
      inr (
        (45, (w.month, (w.day, w.time))),
        (
          45 ∷ [],
          two_digits w.month ++ days,
          refl,
          (refl, refl),
          (two_digits w.month, days, refl, two_written w.month f.month, day_written),
        ),
        refl,
      )

  abbrev signed : Bool → WrittenDate
  signed b = record { negative = b; year = w.year; month = w.month; day = w.day; time = w.time }

  date_written : (b : Bool) → w.negative ≡ b → Derives date_rule (cond b (45 ∷ four_digits w.year ++ months) (four_digits w.year ++ months)) w
  unfolding Derives within inside
  date_written true e = (
    (true, (w.year, (w.month, (w.day, w.time)))),
    (
      45 ∷ [],
      four_digits w.year ++ months,
      refl,
      inr (45, (refl, refl), refl),
      (four_digits w.year, months, refl, four_written w.year f.year, month_written),
    ),
    ap signed e,
  )
  date_written false e = (
    (false, (w.year, (w.month, (w.day, w.time)))),
    (
      [],
      four_digits w.year ++ months,
      refl,
      inl (refl, refl),
      (four_digits w.year, months, refl, four_written w.year f.year, month_written),
    ),
    ap signed e,
  )

  same_text : iso_text w ≡ cond w.negative (45 ∷ four_digits w.year ++ months) (four_digits w.year ++ months)
  unfolding iso_text months days clock minutes seconds
  same_text = refl

  pub read_back : read date_rule (iso_text w) ≡ some w
  read_back = ap (read date_rule) same_text ∙ (date_read (cond w.negative (45 ∷ four_digits w.year ++ months) (four_digits w.year ++ months)) w).1 (date_written w.negative refl)

-- dates in UTC that share a text are the same
pub no_shared : (v w : WrittenDate) → Formed v → Formed w → iso_text v ≡ iso_text w → v ≡ w
no_shared v w f g e = let x = read_back v f in let y = read_back w g in cc
