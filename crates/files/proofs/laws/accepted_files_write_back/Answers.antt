use Rattle.files.proofs.FileRoundTrip.{accepted_files_write_back}
use Rattle.files.proofs.laws.accepted_files_write_back.Goals as goal

pub returns : goal.returns
returns c = accepted_files_write_back
