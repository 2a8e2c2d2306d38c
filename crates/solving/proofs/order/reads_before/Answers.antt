use Rattle.std.proofs.Common.{rules}
use Rattle.solving.proofs.ReadingOrder.{reads_before_is}
use Rattle.solving.proofs.order.reads_before.Goals as goal

pub returns : goal.returns
returns c = reads_before_is c.args.first.now c.args.second.now c.lt.result c.requires (search rules) (search rules) c.lt.ensures
