use Rattle.theory.proofs.Places.{echelons_rise}
use Rattle.theory.proofs.laws.echelons_are_places.Goals as goal

pub returns : goal.returns
returns c = echelons_rise
