use Rattle.theory.specs.Answers.{solved}
use Rattle.theory.proofs.Answers.{decided, solved_decides}
use Rattle.theory.proofs.laws.definition_decides.Goals as goal

pub returns : goal.returns
returns g c = λ k lower laws rank top n bytes f ranks order ok.
    decided laws rank top ranks bytes order n f ok (solved k lower f bytes n) (solved_decides laws rank top ranks bytes order n f ok)
