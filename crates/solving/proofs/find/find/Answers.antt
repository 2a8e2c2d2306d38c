use Rattle.std.proofs.Common.{refl, arith}
use Rattle.model.specs.Studies.{model}
use Rattle.model.proofs.Limited.{limited}
use Rattle.solving.proofs.FirstMarks.{finds_least}
use Rattle.solving.proofs.find.find.Goals as goal

pub returns : goal.returns
returns g c = finds_least g.met.K.CostKind.laws (model c.args.table.now.problem.now.study.now) c.args.table.now.problem.now.survey.now (limited c.args.table.now.problem.now.study.now) c.args.table.now.problem.now.some_component c.first_marks-marks.result (λ r h. let few = (limited c.args.table.now.problem.now.study.now).few_resources in c.first_marks-marks.ensures r (omega arith)) _ c.search.result refl c.search.ensures.searches
