use Rattle.std.proofs.Common.{◌≡◌, length}
use Rattle.std.specs.Iterator.Adapters.{zip_first, zip_second}
use Rattle.std.specs.Slice.Iter.{iter_rest}
use Rattle.planning.specs.Sums.{Adds}
use Rattle.planning.proofs.Adding.{beside}
use Rattle.planning.proofs.totals.plus_row.Given as goal

-- what is left to add, added to the total so far, is all that the row adds
abbrev pub invariant-loop-used : goal.invariant-loop-used
invariant-loop-used g l =
    let us = iter_rest (zip_first l.used-iterator) in
    let ps = iter_rest (zip_second l.used-iterator) in
    (length us ≡ length ps) × ((r : _) → Adds g.K.CostKind.adding l.total (beside us ps) r → Adds g.K.CostKind.adding l.fn.sum (beside l.fn.used l.row) r)
