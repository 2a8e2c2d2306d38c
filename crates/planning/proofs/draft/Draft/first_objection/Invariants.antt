use Rattle.std.proofs.Common.{◌≡◌, None}
use Rattle.model.specs.Books.{Book}
use Rattle.model.specs.Studies.{model}
use Rattle.plans.specs.Ranges.{first_below}
use Rattle.plans.specs.Prices.{objection}
use Rattle.planning.specs.Surveys.{Keeps}
use Rattle.planning.proofs.draft.Draft.first_objection.Given as goal

abbrev pub invariant-loop-number : goal.invariant-loop-number
invariant-loop-number l = (b : Book) → Keeps (model l.self.study.now) b l.self.survey.now → first_below (objection (model l.self.study.now) b l.self.plan.now) l.number ≡ None
