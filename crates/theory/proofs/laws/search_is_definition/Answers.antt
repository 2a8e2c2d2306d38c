use Rattle.theory.proofs.Solves.{found_solves}
use Rattle.theory.proofs.laws.search_is_definition.Goals as goal

pub returns : goal.returns
returns g c = λ k lower laws y ok bytes order r₀ r found. found_solves laws y ok bytes order r₀ r found
