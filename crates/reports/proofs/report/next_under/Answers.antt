use Rattle.std.proofs.Common.{true, false, rules, tests}
use Rattle.std.proofs.lemmas.Iterator.{first_from_Range}
use Rattle.model.specs.Studies.{model}
use Rattle.reports.proofs.Reading.{Under, next_read}
use Rattle.reports.proofs.report.next_under.Goals as goal

pub returns : goal.returns
returns c =
    let s = model c.args.study.now in
    let rows = c.components-components.result.now in
    let same = c.components-components.ensures in
    let p = c.args.parent in
    next_read s rows same p c.args.from c.find.result
    (first_from_Range _ _ _ c.find.result (Under s rows same p true) (Under s rows same p false) c.find.ensures.ran (λ x q called. search (rules, tests)) (λ x q called. search (rules, tests)))
