use Rattle.books.proofs.Laid.{clear_as_below}
use Rattle.books.proofs.laws.clear_ruling_answers_as_below.Goals as goal

pub returns : goal.returns
returns c = clear_as_below
