use Rattle.model.specs.Studies.{model}
use Rattle.solving.proofs.Bounds.{bound_none, bound_some}
use Rattle.solving.proofs.bound.bound.Goals as goal

pub returns-in-None-clause-bounds : goal.returns-in-None-clause-bounds
returns-in-None-clause-bounds g c = bound_none g.met.K.CostKind.laws (model c.args.table.now.problem.now.study.now) c.args.table.now.problem.now.survey.now c.args.marks.now c.args.table.now.problem.now.some_component c.walk-found.result c.walk-found.ensures.walks c.in-None.is

pub returns-in-Some-clause-bounds : goal.returns-in-Some-clause-bounds
returns-in-Some-clause-bounds g c = bound_some g.met.K.CostKind.laws (model c.args.table.now.problem.now.study.now) c.args.table.now.problem.now.survey.now c.args.marks.now c.args.table.now.problem.now.some_component c.walk-found.result c.walk-found.ensures.walks _ c.plus_held.result c.in-Some.is c.plus_held.ensures
