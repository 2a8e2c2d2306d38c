use Rattle.std.proofs.Common.{◌≡◌, ◌≤◌, drop}
use Rattle.std.specs.Iterator.Adapters.{zip_first, zip_second}
use Rattle.std.specs.Slice.Iter.{iter_rest}
use Rattle.model.specs.Studies.{model}
use Rattle.plans.specs.Ranges.{upto}
use Rattle.plans.specs.Questions.{resource_questions}
use Rattle.planning.specs.Sums.{AddsUsed}
use Rattle.planning.proofs.draft.Draft.plus_pairs.Given as goal

-- the resources so far are added
abbrev pub invariant-loop-resource : goal.invariant-loop-resource
invariant-loop-resource g l =
    let left = zip_first l.resource-iterator in
    (left.end ≡ (model l.self.study.now).resources)
    × (left.start ≤ left.end)
    × (iter_rest (zip_second l.resource-iterator) ≡ drop left.start l.self.survey.now.resources)
    × AddsUsed g.K.CostKind.adding (model l.self.study.now) l.self.survey.now l.self.plan.now l.initial.sum (upto (resource_questions l.self.study.now.echelons) left.start) l.sum
