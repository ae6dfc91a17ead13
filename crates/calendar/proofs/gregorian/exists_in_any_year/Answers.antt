-- `calendar::gregorian::exists_in_any_year` meets its contract.
use mathlib.Core.Path.{sym, ap, ◌∙◌}
use Prim.Native.Nat.{◌+◌, ◌%◌}
use lib.IntN.{ℤ}
use mir.Syntax.{w64}
use mir.Val.{SFits}
use Rattle.signed.proofs.Machine.{crossed}
use Rattle.calendar.specs.Calendar.{exists, date}
use Rattle.calendar.specs.declared.Calendar.TheVariants.{ProlepticGregorian}
use Rattle.calendar.proofs.Counting.{gregorian_has}
use Rattle.calendar.proofs.AnyYear.{same_remainder}
use borrow.Author.Rules.{rules}
use Rattle.calendar.proofs.gregorian.exists_in_any_year.Goals as goal

pub returns : goal.returns
returns c =
    let b = c in
    let x = b.args.x in
    let k = b.biased.result in
    let f : SFits w64 x.year = search rules in
    c.has_day.ensures
    ∙ (sym (gregorian_has ((k % 400 + 192) % 400) x.month x.day) ∙ (same_remainder k x.month x.day
    ∙ ap (λ (z : ℤ). exists ProlepticGregorian (date z x.month x.day)) (crossed x.year k f b.biased.ensures)))
