use Rattle.std.proofs.Common.{◌∙◌, [], ◌∷◌, rules, tests}
use Rattle.std.proofs.lemmas.Iterator.{YieldsList-from_slice}
use Rattle.std.proofs.lemmas.Iterator.Search.{all_from_yields_List}
use Rattle.model.specs.declared.question.RepairOption.{RepairOption}
use Rattle.model.specs.declared.question.RepairOption.TheVariants.{Discard, Repair, Move}
use Rattle.planning.specs.Surveys.{choice}
use Rattle.planning.specs.OpenRows.{posted_where, uses_on}
use Rattle.planning.proofs.Every.{all_of_three}
use Rattle.planning.proofs.checks.choices_open.Goals as goal

pub returns : goal.returns
returns c =
    let test = λ (o : RepairOption). posted_where (uses_on c.args.route c.args.echelon o) (choice c.args.choices o) in
    all_from_yields_List test c.all.new.self _ c.all.result c.all.ensures.ran
    (YieldsList-from_slice (Discard ∷ Repair ∷ Move ∷ []) (search rules)) (λ x b q k. search (rules, tests))
    ∙ all_of_three test Discard Repair Move
