-- Trials made one after another: each is made on the file as it was at first.
use Rattle.std.proofs.Common.{[], ◌∷◌, subst}
use Rattle.trials.specs.Laws.{Made, MadeInTurn, TrialsLeaveNoTrace}

pub leave_no_trace : TrialsLeaveNoTrace
leave_no_trace s file left [] e = (tt, e)
leave_no_trace s file left (t ∷ ts) (next, made, more) =
    let back = made.file_is_back in
    let rest = leave_no_trace s file left ts (subst (λ f. MadeInTurn s f ts left) back more) in
    ((subst (λ f. Made s file t f) back made, rest.0), rest.1)
