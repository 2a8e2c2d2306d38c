use Rattle.plans.proofs.Ties.{decides_ties}
use Rattle.plans.proofs.laws.reading_order_decides_ties.Goals as goal

pub returns : goal.returns
returns c = decides_ties
