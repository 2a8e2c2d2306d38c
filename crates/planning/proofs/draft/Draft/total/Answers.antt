use Rattle.model.specs.Studies.{model}
use Rattle.model.proofs.Limited.{limited}
use Rattle.planning.proofs.Stepwise.{plan_total}
use Rattle.planning.proofs.draft.Draft.total.Goals as goal

pub returns : goal.returns
returns g c =
    let study = c.args.self.now.study.now in
    plan_total g.K.CostKind.adding (model study) c.args.self.now.plan.now c.args.self.now.survey.now (limited study) _ _ c.options_total.ensures c.plus_pairs.ensures
