use Rattle.std.proofs.Common.{◌∙◌}
use Rattle.model.specs.Studies.{model}
use Rattle.runs.proofs.Steps.{priced_step, solved_step}
use Rattle.runs.proofs.runs.make.Goals as goal

pub returns-in-Price : goal.returns-in-Price
returns-in-Price g c =
    let step = priced_step g.B.ChargeBook.meaning g.K.CostKind.adding g.K.CostKind.lower (model c.args.study.now) c.in-Price.book c.in-Price.plan c.in-Price.answer c.price.result c.as_slice.result.now c.as_slice.ensures.value c.price.ensures.answer in
    simp c.in-Price.is step

pub returns-in-Solve : goal.returns-in-Solve
returns-in-Solve g c =
    let plan = c.as_mut_slice-place.ensures in
    let working = c.as_mut_slice.ensures in
    let step = solved_step g.B.ChargeBook.meaning g.K.CostKind.adding g.K.CostKind.lower (model c.args.study.now) c.in-Solve.book c.in-Solve.plan c.in-Solve.working c.in-Solve.answer c.solve.result c.as_mut_slice-place.result.now c.solve.new.plan c.as_mut_slice.result.now c.solve.new.working plan.value working.len (c.solve.auto.plan ∙ plan.len) c.solve.ensures.answer c.solve.ensures.place in
    simp c.in-Solve.is step
