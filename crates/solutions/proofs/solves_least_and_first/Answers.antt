use Rattle.solutions.proofs.Promised.{solves_least_and_first}
use Rattle.solutions.proofs.solves_least_and_first.Goals as goal

pub returns : goal.returns
returns g c = solves_least_and_first _
