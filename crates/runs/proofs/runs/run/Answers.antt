use Rattle.model.specs.Studies.{model}
use Rattle.runs.proofs.Steps.{made_at}
use Rattle.runs.proofs.runs.run.Goals as goal

pub loop-call-preserved : goal.loop-call-preserved
loop-call-preserved g c =
    let l = c.loop-call in
    made_at g.B.ChargeBook.meaning g.K.CostKind.adding g.K.CostKind.lower (model c.args.study.now) (model l.study) (model c.make.new.study) c.args.calls.now l.calls l.call-index c.call-item.result c.make.new.call c.loop-call-test.true l.auto.calls l.invariant.0 l.invariant.1 c.make.ensures
