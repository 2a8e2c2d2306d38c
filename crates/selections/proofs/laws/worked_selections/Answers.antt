use Rattle.selections.proofs.Worked.{examples_agree}
use Rattle.selections.proofs.laws.worked_selections.Goals as goal

pub returns : goal.returns
returns c = examples_agree
