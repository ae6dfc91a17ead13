-- The cases by hand, proved over the definitions: one list, one proof. The answer of every case is known (Answers.antt), and those of
-- the list are computed.
use mathlib.Core.Path.{◌≡◌, refl, ◌∙◌}
use mathlib.Core.List.{map}
use Rattle.cases.specs.Cases.{Case, case_answer, cases}
use Rattle.cases.proofs.Answers.{case_answer_known}

computed : map (λ (k : Case). (case_answer_known k).value) cases ≡ map (λ (k : Case). k.expected) cases
unfolding case_answer_known
computed = refl

pub cases_hold : map case_answer cases ≡ map (λ (k : Case). k.expected) cases
cases_hold = (λ i. map (λ (k : Case). (case_answer_known k).is i) cases) ∙ computed
