use Rattle.trials.proofs.ChangedRecords.{changes_one_amount}
use Rattle.trials.proofs.laws.trial_changes_one_amount.Goals as goal

pub returns : goal.returns
returns c = changes_one_amount
