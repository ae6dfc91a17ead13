-- `named_text::text_calendar` meets its contract: each test settles one refusal, in their order.
use mathlib.Core.Path.{◌≡◌, ap, ◌∙◌}
use mathlib.Core.Option.{Option}
use Rattle.calendar.specs.declared.Calendar.{Calendar}
use Rattle.calendar_name.specs.Names.{calendar_of}
use Rattle.calendar_name.proofs.Laws.{calendar_in, named_back}
use Rattle.named_text.specs.Texts.{of_name}
use Rattle.named_text.proofs.Laws.{text_long, text_named}
use Rattle.named_text.proofs.text_calendar.Goals as goal
use Rattle.named_text.proofs.text_calendar.Goals.{After-calendar_of}

-- what the call says of the name
calendar : (k : After-calendar_of) → calendar_of k.args.name.now ≡ calendar_in k.calendar_of.result
calendar k = named_back (calendar_of k.args.name.now) k.calendar_of.result k.calendar_of.ensures

pub returns-then-text-gt128 : goal.returns-then-text-gt128
returns-then-text-gt128 c = let a = c.args in text_long a.name.now a.x a.text.now c.if-text-gt128.true

pub returns-in_default : goal.returns-in_default
returns-in_default c =
    let k = (goal.at.returns-in_default c).After-calendar_of in
    let a = k.args in
    text_named a.name.now a.x a.text.now _ k.if-text-gt128.false (ap (λ (o : Option Calendar). of_name o a.x) (calendar k ∙ ap calendar_in c.in_default.is))

pub returns : goal.returns
returns c =
    let n = c in
    let k = (goal.at.returns c).After-calendar_of in
    let a = k.args in
    c.with_cutover.ensures ∙ text_named a.name.now a.x a.text.now _ k.if-text-gt128.false (ap (λ (o : Option Calendar). of_name o a.x) (calendar k ∙ ap calendar_in n.in-Some.is))
