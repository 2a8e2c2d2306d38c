use Rattle.books.proofs.Under.{gross_with_under}
use Rattle.books.proofs.laws.gross_is_net_and_rows_under.Goals as goal

pub returns : goal.returns
returns c = gross_with_under
