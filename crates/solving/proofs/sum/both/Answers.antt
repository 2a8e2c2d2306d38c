use Rattle.solving.proofs.Holding.{join_costs}
use Rattle.solving.proofs.sum.both.Goals as goal

pub returns-in-Cost-Cost : goal.returns-in-Cost-Cost
returns-in-Cost-Cost g c =
    join_costs g.K.CostKind.adding g.met.K.CostKind.laws c.args.a c.args.b _ _ _ c.in-Cost-Cost.is-0 c.in-Cost-Cost.is-1 c.sum.ensures
