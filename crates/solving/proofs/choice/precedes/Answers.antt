use Rattle.solving.proofs.Holding.{costs_precede}
use Rattle.solving.proofs.choice.precedes.Goals as goal

pub returns-in-Cost-Cost : goal.returns-in-Cost-Cost
returns-in-Cost-Cost g c =
    costs_precede g.K.CostKind.adding g.K.CostKind.lower c.args.a c.args.b _ _ _ c.in-Cost-Cost.is-0 c.in-Cost-Cost.is-1 c.cost_precedes.ensures
