use Rattle.std.proofs.Common.{ℕ, length}
use Rattle.model.specs.Studies.{model}
use Rattle.plans.specs.Questions.{count}
use Rattle.theory.specs.Amounts.{nothing}
use Rattle.theory.specs.Options.{Options}
use Rattle.solving.specs.Working.{view}
use Rattle.solving.specs.Steps.{OffersAll, Cells}
use Rattle.solving.proofs.AllTaken.{Left, Done}
use Rattle.solving.proofs.walk.take_all.Given as goal

-- the components that are left stand before those that are taken
abbrev pub invariant-loop-number : goal.invariant-loop-number
invariant-loop-number g l =
    Left (model l.problem.study.now) l.number-iterator.iter.count l.number-iterator.iter.iter.rest.now
    × ((o : ℕ → Options) → OffersAll (model l.problem.study.now) l.problem.survey.now l.shut o
    → Cells g.K.CostKind.adding l.problem.study.now.echelons (count (model l.problem.study.now)) (λ _ _. nothing) (view l.initial.tags l.initial.working)
    → Done g.K.CostKind.adding g.K.CostKind.lower (model l.problem.study.now) o (length l.number-iterator.iter.iter.rest.now) l.total l.notes (view l.tags l.working))
