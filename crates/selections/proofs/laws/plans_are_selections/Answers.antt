use Rattle.selections.proofs.Twofold.{plans_are_selections}
use Rattle.selections.proofs.laws.plans_are_selections.Goals as goal

pub returns : goal.returns
returns g c = plans_are_selections _
