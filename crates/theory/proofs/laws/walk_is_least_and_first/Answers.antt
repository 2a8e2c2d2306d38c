use Rattle.theory.proofs.Problems.{walk_answers}
use Rattle.theory.proofs.laws.walk_is_least_and_first.Goals as goal

pub returns : goal.returns
returns g c = λ k lower laws y ok shut. walk_answers y ok laws shut
