use Rattle.books.proofs.Laid.{apart}
use Rattle.books.proofs.laws.marks_stand_apart.Goals as goal

pub returns : goal.returns
returns c = apart
