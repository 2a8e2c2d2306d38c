use Rattle.solving.proofs.Holding.{way_held}
use Rattle.solving.proofs.choice.way_on.Goals as goal

pub returns : goal.returns
returns g c =
    way_held g.K.CostKind.adding g.K.CostKind.lower c.args.choices c.args.echelon c.args.under c.args.onward _ _ _ _ _ _ _
    c.posted.ensures c.posted-2.ensures c.both.ensures c.posted-3.ensures c.both-2.ensures c.better.ensures c.better-2.ensures
