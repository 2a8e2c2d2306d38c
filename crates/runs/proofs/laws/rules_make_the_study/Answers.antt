use Rattle.runs.proofs.Promised.{run_made}
use Rattle.runs.proofs.laws.rules_make_the_study.Goals as goal

pub returns : goal.returns
returns g c = run_made
