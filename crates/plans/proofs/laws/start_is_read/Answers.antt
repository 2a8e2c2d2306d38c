use Rattle.plans.proofs.Reached.{start_is_read}
use Rattle.plans.proofs.laws.start_is_read.Goals as goal

pub returns : goal.returns
returns c = start_is_read
