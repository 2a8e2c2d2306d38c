use Rattle.plans.proofs.Pricing.{accepts_exactly_plans}
use Rattle.plans.proofs.laws.price_accepts_exactly_plans.Goals as goal

pub returns : goal.returns
returns g c = accepts_exactly_plans _
