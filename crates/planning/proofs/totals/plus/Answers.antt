use Rattle.std.proofs.Common.{rules}
use Rattle.planning.proofs.Adding.{adds_one}
use Rattle.planning.proofs.totals.plus.Goals as goal

pub returns : goal.returns
returns g c =
    adds_one g.K.CostKind.adding c.args.sum _ _ c.map_or.result _ c.posting-next.ensures c.map_or.ensures (λ a made. search rules)
