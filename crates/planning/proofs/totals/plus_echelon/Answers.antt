use Rattle.std.proofs.Common.{Bool}
use Rattle.model.specs.declared.question.RepairOption.{RepairOption}
use Rattle.model.specs.declared.question.RepairOption.TheVariants.{Discard, Repair, Move}
use Rattle.plans.specs.Uses.{uses_at}
use Rattle.planning.proofs.Adding.{adds_if, adds_three}
use Rattle.planning.proofs.totals.plus_echelon.Goals as goal

pub returns : goal.returns
returns g c =
    let k = g.K.CostKind.adding in
    let used : RepairOption → Bool = uses_at c.args.route.start c.args.route.byte c.args.echelon in
    adds_three k _ _ _ _ _ _ _
    (adds_if k _ _ _ (used Discard) _ c.uses-discards.ensures c.plus_used-sum.ensures)
    (adds_if k _ _ _ (used Repair) _ c.uses-repairs.ensures c.plus_used-sum-2.ensures)
    (adds_if k _ _ _ (used Move) _ c.uses-moves.ensures c.plus_used.ensures)
