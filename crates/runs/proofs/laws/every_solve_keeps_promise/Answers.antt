use Rattle.runs.proofs.Promised.{solve_keeps}
use Rattle.runs.proofs.laws.every_solve_keeps_promise.Goals as goal

pub returns : goal.returns
returns g c means k lower s t earlier later left b plan working old laws kept limits run =
    solve_keeps means k lower laws b kept plan working old later s t earlier left limits run
