use Rattle.plans.proofs.PostedOnce.{posts_each_once}
use Rattle.plans.proofs.laws.plans_post_each_once.Goals as goal

pub returns : goal.returns
returns c = posts_each_once
