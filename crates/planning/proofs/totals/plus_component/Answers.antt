use Rattle.planning.proofs.Adding.{adds_four}
use Rattle.planning.proofs.totals.plus_component.Goals as goal

pub returns : goal.returns
returns g c = adds_four g.K.CostKind.adding _ _ _ _ _ _ _ _ _ c.plus_echelon-sum.ensures c.plus_echelon-sum-2.ensures c.plus_echelon-sum-3.ensures c.plus_echelon.ensures
