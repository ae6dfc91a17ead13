-- The order of dates, field by field: by year, then by month, then by day.
use Rattle.std.specs.Prelude.{Bool, ◌&&◌, ◌||◌, ltb, eqb, ℤ, pos, negsuc, false}
use Rattle.std.specs.Int.Signed.{lt_z}
use Rattle.calendar.specs.declared.Date.{Date}

abbrev pub same_year : ℤ → ℤ → Bool
same_year (pos m) (pos n) = eqb m n
same_year (pos m) (negsuc n) = false
same_year (negsuc m) (pos n) = false
same_year (negsuc m) (negsuc n) = eqb m n

unfoldable pub earlier : Date → Date → Bool
earlier x y = lt_z x.year y.year || (same_year x.year y.year && (ltb x.month y.month || (eqb x.month y.month && ltb x.day y.day)))

abbrev pub same_date : Date → Date → Bool
same_date x y = same_year x.year y.year && (eqb x.month y.month && eqb x.day y.day)
