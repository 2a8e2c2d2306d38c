use Rattle.trials.proofs.ChangedRecords.{standing_amount}
use Rattle.trials.proofs.laws.standing_amount_is_no_change.Goals as goal

pub returns : goal.returns
returns c = standing_amount
