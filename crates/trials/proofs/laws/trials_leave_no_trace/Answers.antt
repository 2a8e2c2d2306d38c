use Rattle.trials.proofs.Turns.{leave_no_trace}
use Rattle.trials.proofs.laws.trials_leave_no_trace.Goals as goal

pub returns : goal.returns
returns c = leave_no_trace
