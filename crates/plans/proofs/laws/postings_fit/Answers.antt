use Rattle.plans.proofs.Counting.{postings_fit}
use Rattle.plans.proofs.laws.postings_fit.Goals as goal

pub returns : goal.returns
returns c = postings_fit
