use Rattle.theory.specs.Problems.{plans}
use Rattle.theory.proofs.Problems.{countable}
use Rattle.theory.proofs.Searches.{rules}
use Rattle.theory.proofs.laws.search_keeps_rules.Goals as goal

pub returns : goal.returns
returns g c = λ k lower laws y ok. rules laws (plans y) (countable y ok)
