use Rattle.reports.proofs.TreeOrder.{same_order}
use Rattle.reports.proofs.laws.order_from_tree.Goals as goal

pub returns : goal.returns
returns c = same_order
