use Rattle.files.proofs.StudyRoundTrip.{written_studies_read_back}
use Rattle.files.proofs.laws.written_studies_read_back.Goals as goal

pub returns : goal.returns
returns c = written_studies_read_back
