use Rattle.files.proofs.AcceptedRuns.{accepted_exactly}
use Rattle.files.proofs.laws.accepted_files.Goals as goal

pub returns : goal.returns
returns c = accepted_exactly
