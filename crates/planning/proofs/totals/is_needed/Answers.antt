use Rattle.std.proofs.Common.{◌∙◌, rules, tests}
use Rattle.std.proofs.lemmas.Iterator.{YieldsList-from_slice}
use Rattle.std.proofs.lemmas.Iterator.Consumers.{YieldsList-from_enumerate}
use Rattle.std.proofs.lemmas.Iterator.Search.{any_from_yields_List}
use Rattle.model.specs.Studies.{model}
use Rattle.planning.proofs.Needing.{needs_read, any_needs}
use Rattle.planning.proofs.totals.is_needed.Goals as goal

pub returns : goal.returns
returns c =
    let s = model c.args.study.now in
    let xs = c.components.result.now in
    any_from_yields_List (λ p. needs_read s c.args.plan.now c.args.resource c.args.echelon p.0 p.1) c.any.new.self _ c.any.result c.any.ensures.ran
    (YieldsList-from_enumerate (YieldsList-from_slice xs (search rules)) (search rules)) (λ x b q k. search (rules, tests))
    ∙ any_needs s c.args.plan.now c.args.resource c.args.echelon xs c.components.ensures
