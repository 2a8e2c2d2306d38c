use Rattle.std.proofs.Common.{subst, rules}
use Rattle.model.specs.Studies.{model}
use Rattle.plans.specs.Ranges.{upto}
use Rattle.plans.specs.Questions.{resource_questions}
use Rattle.planning.specs.Surveys.{no_resource, resource_row, ResourceRows}
use Rattle.planning.specs.Asking.{Asked}
use Rattle.planning.proofs.Filled.{asked_as}
use Rattle.planning.proofs.survey.resource_rows.Goals as goal

pub returns : goal.returns
returns g c =
    let s = model c.args.study.now in
    let b = g.B.ChargeBook.meaning c.args.book.now in
    let learned = c.asked.ensures b (resource_questions s.echelons) (resource_row s b) (λ k r p. search rules) in
    subst (λ n. Asked b (upto (resource_questions s.echelons) n) (ResourceRows s b n) c.asked.result) c.resources.ensures
    (asked_as b _ _ (ResourceRows s b c.resources.result) (λ xs is k h. is.first k no_resource h) c.asked.result learned)
