use Rattle.std.proofs.Common.{◌≡◌, length, ap, subst, arith}
use Rattle.std.proofs.lemmas.Iterator.{empty_from_Zip}
use Rattle.planning.specs.Sums.{Adds}
use Rattle.planning.proofs.Adding.{beside_row, adds_beside, adds_no_more}
use Rattle.planning.proofs.totals.plus_row.Goals as goal

pub loop-used-preserved : goal.loop-used-preserved
loop-used-preserved g c =
    let us = c.in-Some.ensures.steps.0 in
    let ps = c.in-Some.ensures.steps.1 in (
      omega (arith, ap length us, ap length ps, c.loop-used.invariant.0),
      λ r rest. c.loop-used.invariant.1 r (adds_beside g.K.CostKind.adding _ _ r _ _ _ _ _ _ us ps c.plus_used-total.ensures rest),
    )

pub returns : goal.returns
returns g c =
    let k = g.K.CostKind.adding in
    let spent = empty_from_Zip _ c.next.new.self _ c.in-None.is c.next.ensures.steps c.loop-used.invariant.0 in
    let all = c.loop-used.invariant.1 c.loop-used.total (adds_no_more k c.loop-used.total _ _ spent.0) in
    let long : length c.args.used ≡ 4 = omega arith in
    subst (λ new. Adds k c.args.sum new c.loop-used.total) (beside_row c.args.used c.args.row.now long (omega arith)) all
