use Rattle.std.proofs.Common.{◌≡◌, ℕ, suc, length}
use Rattle.model.specs.Studies.{model}
use Rattle.theory.specs.Options.{Options}
use Rattle.theory.specs.Tables.{sums_at}
use Rattle.solving.specs.Working.{view}
use Rattle.solving.specs.Steps.{tabled, OffersAll, Cells}
use Rattle.solving.proofs.Turns.{Partly}
use Rattle.solving.proofs.taking.take_component.Given as goal

-- the echelons from this one on are done
abbrev pub invariant-loop-echelon : goal.invariant-loop-echelon
invariant-loop-echelon g l =
    (length l.bytes ≡ 4)
    × ((o : ℕ → Options) → OffersAll (model l.problem.study.now) l.problem.survey.now l.shut o
    → Cells g.K.CostKind.adding l.problem.study.now.echelons (suc l.number) (sums_at g.K.CostKind.adding g.K.CostKind.lower (tabled (model l.problem.study.now) o) (suc l.number)) (view l.initial.tags l.initial.working)
    → Partly g.K.CostKind.adding g.K.CostKind.lower (model l.problem.study.now) o l.number l.echelon (record { byte = l.onward.0; sum = l.onward.1.0 }) l.bytes (view l.tags l.working))
