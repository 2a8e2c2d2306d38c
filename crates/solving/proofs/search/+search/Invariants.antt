use Rattle.solving.specs.Marked.{frees}
use Rattle.solving.proofs.search.+search.Given as goal

abbrev pub decreases-search : goal.decreases-search
decreases-search g l = frees l.marks
