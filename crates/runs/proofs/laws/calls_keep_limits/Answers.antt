use Rattle.runs.proofs.Limited.{blank_limits, calls_keep}
use Rattle.runs.proofs.laws.calls_keep_limits.Goals as goal

pub returns : goal.returns
returns g c = (blank_limits, calls_keep)
