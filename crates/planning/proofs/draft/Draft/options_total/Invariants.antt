use Rattle.std.proofs.Common.{None}
use Rattle.model.specs.Studies.{model}
use Rattle.plans.specs.Ranges.{upto}
use Rattle.plans.specs.Questions.{component_questions}
use Rattle.planning.specs.Sums.{AddsUsed}
use Rattle.planning.proofs.draft.Draft.options_total.Given as goal

-- the components so far are summed
abbrev pub invariant-loop-number : goal.invariant-loop-number
invariant-loop-number g l = AddsUsed g.K.CostKind.adding (model l.self.study.now) l.self.survey.now l.self.plan.now None (upto (component_questions l.self.study.now.echelons) l.number) l.sum
