use Rattle.books.proofs.Laid.{undone}
use Rattle.books.proofs.laws.lift_undoes_bar.Goals as goal

pub returns : goal.returns
returns c = undone
